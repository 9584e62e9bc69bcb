use native.Mathlib.Omega.{arith}
use borrow.Author.Rules.{rules}
use Rattle.conditions.specs.Digests.{tag_with}
use Rattle.conditions.proofs.Marks.{marked-below}
use Rattle.conditions.proofs.sound.tag_of.Goals as goal

pub overflow_add-result : goal.overflow_add-result
overflow_add-result c = let a = c.args in omega (arith, c.marked.ensures, marked-below a.carrier a.global 4294967296 (omega arith))

pub returns : goal.returns
unfolding tag_with
returns c = rw c.marked.ensures
