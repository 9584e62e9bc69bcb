-- The account that is kept: the five numbers while they fit, and a mark that stays where they do not. It refuses nothing; 21 is said where it is finished.
-- Assumes nothing.
use Rattle.std.specs.Prelude.{ℕ, ◌+◌, Bool, true, false, cond, not, ◌&&◌, eqb, ltb, ℤ, pos, Option, Some, None, Result, Ok, Err}
use Rattle.octets.specs.Refusals.{number_of}
use Rattle.octets.specs.declared.refusals.Refusal.{Refusal}
use Rattle.account.specs.declared.Account.{Account}
use Rattle.account.specs.declared.Spacing.{Spacing}
use Rattle.account.specs.Figures.{Exact, Spaced, none, one, joined, fits, fit, refused, finished}

-- a signed number, 0 where it does not fit
pub record Signed : Type 0 where
  pub value : ℤ
  pub fits : Bool

-- a number from 0 to the greatest signed one, 0 where it does not fit
pub record Count : Type 0 where
  pub value : ℕ
  pub fits : Bool

abbrev pub signed_in : Option ℤ → Signed
signed_in None = record { value = pos 0; fits = false }
signed_in (Some z) = record { value = z; fits = true }

abbrev pub counted_in : Option ℕ → Count
counted_in None = record { value = 0; fits = false }
counted_in (Some n) = record { value = n; fits = true }

abbrev pub spaced_in : Result Spacing Refusal → Spaced
spaced_in (Ok s) =
    record { answer = 0; pairs = s.pairs; least = s.least; greatest = s.greatest; sum = s.sum; sizes = s.sizes; paired = not (eqb s.pairs 0) }
spaced_in (Err r) = record { answer = number_of r; pairs = 0; least = pos 0; greatest = pos 0; sum = pos 0; sizes = 0; paired = false }

-- a number that is kept only where it fits
abbrev pub signed : ℤ → Signed
signed z = record { value = cond (fits z) z (pos 0); fits = fits z }

abbrev pub counted : ℕ → Count
counted n = record { value = cond (fits (pos n)) n 0; fits = fits (pos n) }

-- the five numbers of an account, whoever made it
abbrev pub numbers_of : Account → Exact
numbers_of a = record { pairs = a.pairs; least = a.least; greatest = a.greatest; sum = a.sum; sizes = a.sizes }

-- the account with these numbers
abbrev pub kept : Exact → Account
kept x = record { pairs = x.pairs; least = x.least; greatest = x.greatest; sum = x.sum; sizes = x.sizes; over = false }

-- over: no number is kept
abbrev pub spent : Account
spent = record { pairs = 0; least = pos 0; greatest = pos 0; sum = pos 0; sizes = 0; over = true }

-- the account of exact numbers
unfoldable pub account_of : Exact → Account
account_of x = cond (fit x) (kept x) spent

-- of numbers that were worked out each by itself
unfoldable pub made : Count → ℤ → ℤ → Signed → Count → Account
made pairs least greatest sum sizes =
    cond (pairs.fits && (sum.fits && sizes.fits))
    (record { pairs = pairs.value; least = least; greatest = greatest; sum = sum.value; sizes = sizes.value; over = false }) spent

-- two accounts as one: over on either side is over
unfoldable pub combined : Account → Account → Account
combined a b = cond a.over spent (cond b.over spent (account_of (joined (numbers_of a) (numbers_of b))))

-- one pair more, by its error
unfoldable pub added : Account → ℤ → Account
added a e = cond a.over spent (account_of (joined (numbers_of a) (one e)))

-- finished: 21 of what is over
unfoldable pub finished_of : Account → Spaced
finished_of a = cond a.over refused (finished (numbers_of a))
