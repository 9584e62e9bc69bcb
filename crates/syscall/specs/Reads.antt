-- What a read came to.
-- Assumes nothing.
use Rattle.std.specs.Prelude.{ℕ, Bool, ◌≡◌, ◌⊎◌, Result, Ok, Err, cond, eqb}
use Rattle.syscall.specs.declared.Came.{Came}
use Rattle.syscall.specs.declared.Came.TheVariants.{Octets, End, Again, Failed}

-- the octets that it brought, and the end where it brought none; one that failed is made again or has failed
abbrev pub IsWhatCame : {E : Type 0} → Result ℕ E → Came → Type 0
IsWhatCame (Ok n) r = r ≡ cond (eqb n 0) End (Octets n)
IsWhatCame (Err e) r = (r ≡ Again) ⊎ (r ≡ Failed)

-- one that failed is made again where it was only interrupted
abbrev pub failed_came : Bool → Came
failed_came again = cond again Again Failed
