-- The moving table of each mode is its figure as it is drawn, cell by cell.
-- Assumes nothing.
use mathlib.Core.Path.{◌≡◌, refl}
use mathlib.Core.Bool.{Bool, true, false, ◌||◌}
use mathlib.Core.Logic.{⊎_elim}
use lib.Dec.{eqb}
use borrow.Author.Tests.{eqb-true}
use Rattle.octets.specs.Choice.{bit_of}
use Rattle.rules.specs.declared.Mode.{Mode}
use Rattle.rules.specs.declared.State.{State}
use Rattle.rules.specs.declared.Input.{Input}
use Rattle.rules.specs.declared.Input.TheVariants.{GotAdminDown, GotDown, GotInit, GotUp, Timer, LinkDown, LockReport, Crossed}
use Rattle.rules.specs.Lists.{any}
use Rattle.rules.specs.States.{reported, down_by_neighbor}
use Rattle.rules.specs.Modes.{moved_in}
use Rattle.rules.specs.Figures.{input_number, by_figure, by_rules, remembered}
use Rattle.rules.proofs.Bools.{or_cases}
use Rattle.rules.proofs.Cells.{every-cell}
use Rattle.rules.proofs.States.{bit-same}

-- only a crossed message has its number
crossed-number : (i : Input) → eqb (input_number i) 7 ≡ true → i ≡ Crossed
crossed-number GotAdminDown e = cc
crossed-number GotDown e = cc
crossed-number GotInit e = cc
crossed-number GotUp e = cc
crossed-number Timer e = cc
crossed-number LinkDown e = cc
crossed-number LockReport e = cc
crossed-number Crossed e = refl

-- each state moves, in the paper's numbers, as the arrows of its mode's figure lead, and an input that is not drawn there leaves it: DOWN by
-- a received state as DOWN does, a locked session nowhere
pub as-drawn : (m : Mode) (s : State) (i : Input) → (i ≡ Crossed → ⊥) → reported (moved_in m s i) ≡ by_figure m (reported s) i
unfolding any
as-drawn m s i other =
    ⊎_elim (λ e. absurd (other (crossed-number i e))) (λ e. eqb-true (reported (moved_in m s i)) (by_figure m (reported s) i) e)
    (or_cases (eqb (input_number i) 7) (eqb (reported (moved_in m s i)) (by_figure m (reported s) i))
    (every-cell (λ n t j. eqb (input_number j) 7 || eqb (reported (moved_in n t j)) (by_figure n (reported t) j)) refl m s i))

-- a crossed message too, with the arrow that the rules add
pub as-ruled : (m : Mode) (s : State) (i : Input) → reported (moved_in m s i) ≡ by_rules m (reported s) i
unfolding any
as-ruled m s i =
    eqb-true (reported (moved_in m s i)) (by_rules m (reported s) i)
    (every-cell (λ n t j. eqb (reported (moved_in n t j)) (by_rules n (reported t) j)) refl m s i)

-- DOWN is by a received state afterwards exactly where a received state led there from INIT or UP, or where it was so before and DOWN was not left
pub as-remembered : (m : Mode) (s : State) (i : Input) → down_by_neighbor (moved_in m s i) ≡ remembered m (down_by_neighbor s) (reported s) i
unfolding any
as-remembered m s i =
    bit-same (down_by_neighbor (moved_in m s i)) (remembered m (down_by_neighbor s) (reported s) i)
    (every-cell (λ n t j. eqb (bit_of (down_by_neighbor (moved_in n t j))) (bit_of (remembered n (down_by_neighbor t) (reported t) j))) refl m s i)
