use mathlib.Core.Path.{◌≡◌}
use Prim.Native.Nat.{◌≤◌}
use lib.ListN.{drop}
use Rattle.inquiry.specs.Questions.{numeral, up_to, number_from}
use Rattle.inquiry.proofs.question.number_in.Given as goal

abbrev pub invariant-loop-d : goal.invariant-loop-d
invariant-loop-d l = (l.n ≤ l.most) × (numeral l.most l.s ≡ up_to l.most (number_from l.n (drop l.d-index l.s)))
