use borrow.Author.Rules.{rules}
use mathlib.Core.Path.{sym}
use native.Mathlib.Nat.{add-zero}
use native.Mathlib.Omega.{arith}
use Rattle.octets.proofs.Numbers.{at-past}
use Rattle.octets.proofs.number.get_u16.Goals as goal

pub returns-then-s-at : goal.returns-then-s-at
returns-then-s-at c = sym (at-past 2 c.args.s.now _ c.if-s-at.true)

pub returns : goal.returns
returns c = simp add-zero (omega arith)
