use borrow.Author.Rules.{rules}
use mathlib.Core.Path.{sym}
use Rattle.octets.proofs.Numbers.{at-past, halves}
use Rattle.octets.proofs.number.get_u64.Goals as goal

pub returns-then-s-at : goal.returns-then-s-at
returns-then-s-at c = sym (at-past 8 c.args.s.now _ c.if-s-at.true)

pub returns : goal.returns
returns c = let a = c.args in
    rw (c.get_u32-high.ensures, c.get_u32-low.ensures) (sym (halves 4 4 a.s.now a.at))
