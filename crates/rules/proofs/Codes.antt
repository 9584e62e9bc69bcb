-- The diagnostics in numbers are the codes by name.
-- Assumes nothing.
use mathlib.Core.Path.{◌≡◌, refl}
use mathlib.Core.Bool.{Bool, true, false, not, ◌&&◌, ◌||◌}
use Prim.Native.Nat.{ℕ}
use lib.Dec.{eqb}
use Rattle.rules.specs.Lists.{any}
use Rattle.rules.specs.Diagnostics.{says_defect, diagnostic_of}
use Rattle.rules.specs.Codes.{code_number, code_of, tells_rdi}

-- three tests, nested to the left and, as `any` has them, to the right
or-none : (a b c : Bool) → (a || b) || c ≡ a || (b || (c || false))
or-none true b c = refl
or-none false true c = refl
or-none false false true = refl
or-none false false false = refl

-- a remote defect is told by 1, 5 and 9 and by no other number
pub rdi-codes : (diagnostic : ℕ) → says_defect diagnostic ≡ tells_rdi diagnostic
unfolding any
rdi-codes diagnostic = or-none (eqb diagnostic 1) (eqb diagnostic 5) (eqb diagnostic 9)

-- the diagnostic written is the number of the first code that there is a reason for
pub written-codes : (locked crossing followed loss neighbor : Bool) → diagnostic_of locked crossing followed loss neighbor ≡ code_number (code_of locked crossing followed loss neighbor)
written-codes true c f o n = refl
written-codes false true f o n = refl
written-codes false false true o n = refl
written-codes false false false true n = refl
written-codes false false false false true = refl
written-codes false false false false false = refl

-- what one end writes says to the other that it has a defect exactly where it has a crossing, a condition that it follows or a loss, and is not locked
pub defect-written : (locked crossing followed loss neighbor : Bool) → says_defect (diagnostic_of locked crossing followed loss neighbor) ≡ not locked && (crossing || (followed || loss))
defect-written true c f o n = refl
defect-written false true f o n = refl
defect-written false false true o n = refl
defect-written false false false true n = refl
defect-written false false false false true = refl
defect-written false false false false false = refl
