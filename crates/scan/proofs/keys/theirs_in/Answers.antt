use Prim.Native.Nat.{ℕ, ◌+◌}
use mathlib.Core.Path.{◌≡◌, sym, ap, ◌∙◌}
use mathlib.Core.Bool.{true}
use native.Mathlib.Omega.{arith}
use lib.ListN.{get_or, take}
use lib.Seq.{take_all}
use lib.Dec.{ltb}
use Rattle.rules.specs.Parties.{their_first, party_of, is_of}
use Rattle.rules.proofs.Bools.{split}
use Rattle.rules.proofs.Counting.{one_if, count}
use Rattle.rules.proofs.TwoParties.{party-most}
use Rattle.scan.specs.Distinct.{key_in}
use Rattle.scan.proofs.KeyMarks.{count-take-none, count-take-more}
use Rattle.scan.proofs.keys.theirs_in.Invariants.{test}
use Rattle.scan.proofs.keys.theirs_in.Goals as goal

-- one more for a label that is theirs
one-party : (l n : ℕ) → one_if (is_of 1 l) n ≡ n + party_of l
one-party l n = split (ltb l their_first) (λ e. rw e (omega arith)) (λ e. rw e (omega arith))

pub loop-pair-init : goal.loop-pair-init
loop-pair-init c = record { at_most = omega arith; counted = sym (count-take-none test c.args.pairs.now) }

pub overflow_add-theirs : goal.overflow_add-theirs
overflow_add-theirs c = omega (arith, c.theirs_one-theirs.ensures, party-most c.label_in.result)

pub loop-pair-preserved : goal.loop-pair-preserved
loop-pair-preserved c = let a = c.args in
    let l = c.loop-pair in
    let pair = get_or a.pairs.now l.pair-index 0 in
    let one : c.theirs_one-theirs.result ≡ party_of (key_in true pair) = c.theirs_one-theirs.ensures ∙ ap party_of c.label_in.ensures in
    let more = count-take-more test a.pairs.now l.pair-index c.loop-pair-test.true ∙ one-party (key_in true pair) (count test (take l.pair-index a.pairs.now)) in
    record {
      at_most = omega (arith, one, party-most (key_in true pair));
      counted = omega (arith, one, more, l.invariant.counted);
    }

pub returns : goal.returns
returns c = c.loop-pair.invariant.counted ∙ ap (count test) (take_all c.loop-pair.pair-index c.args.pairs.now (omega arith))
