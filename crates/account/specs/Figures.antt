-- How late, exactly: a spacing error, and the five numbers of many of them. They are integers, with no bound; what is finished fits signed 64-bit numbers or is refused.
-- Assumes nothing.
use Rattle.std.specs.Prelude.{ℕ, ◌+◌, List, [], ◌∷◌, Bool, true, false, cond, not, ◌&&◌, ltb, eqb, ℤ, pos, nat_abs, ◌+ℤ◌, ◌-ℤ◌}
use Rattle.std.specs.Int.Signed.{lt_z, mag}

-- the later reading minus the earlier, minus the period
unfoldable pub error_of : ℕ → ℕ → ℕ → ℤ
error_of later earlier period = pos later -ℤ pos earlier -ℤ pos period

-- number of pairs, least, greatest, sum, and sum of sizes
pub record Exact : Type 0 where
  pub pairs : ℕ
  pub least : ℤ
  pub greatest : ℤ
  pub sum : ℤ
  pub sizes : ℕ

-- no pair has no least and no greatest: 0 stands there
abbrev pub none : Exact
none = record { pairs = 0; least = pos 0; greatest = pos 0; sum = pos 0; sizes = 0 }

-- one pair, by its error
abbrev pub one : ℤ → Exact
one e = record { pairs = 1; least = e; greatest = e; sum = e; sizes = nat_abs e }

abbrev pub lesser : ℤ → ℤ → ℤ
lesser a b = cond (lt_z a b) a b

abbrev pub greater : ℤ → ℤ → ℤ
greater a b = cond (lt_z a b) b a

-- of two sides with m and n pairs: a side without pairs gives way
abbrev pub chosen : (ℤ → ℤ → ℤ) → ℕ → ℤ → ℕ → ℤ → ℤ
chosen pick m p n q = cond (eqb m 0) q (cond (eqb n 0) p (pick p q))

-- number and sums add up, least and greatest combine
unfoldable pub joined : Exact → Exact → Exact
joined x y =
    record {
      pairs = x.pairs + y.pairs;
      least = chosen lesser x.pairs x.least y.pairs y.least;
      greatest = chosen greater x.pairs x.greatest y.pairs y.greatest;
      sum = x.sum +ℤ y.sum;
      sizes = x.sizes + y.sizes;
    }

-- the numbers of a list of errors
unfoldable pub exact : List ℤ → Exact
exact [] = none
exact (e ∷ es) = joined (one e) (exact es)

-- a number fits a signed 64-bit one: n and -(n + 1) up to n = 2^63 - 1
abbrev pub fits : ℤ → Bool
fits z = ltb (mag z) 9223372036854775808

-- each of the five does
unfoldable pub fit : Exact → Bool
fit x = fits (pos x.pairs) && (fits x.least && (fits x.greatest && (fits x.sum && fits (pos x.sizes))))

-- the five numbers under answer 0, or 21; paired: there is a least and a greatest
pub record Spaced : Type 0 where
  pub answer : ℕ
  pub pairs : ℕ
  pub least : ℤ
  pub greatest : ℤ
  pub sum : ℤ
  pub sizes : ℕ
  pub paired : Bool

-- what is given: the mark says whether there is a least and a greatest
abbrev pub given : Exact → Spaced
given x =
    record {
      answer = 0;
      pairs = x.pairs;
      least = x.least;
      greatest = x.greatest;
      sum = x.sum;
      sizes = x.sizes;
      paired = not (eqb x.pairs 0);
    }

-- 21, and nothing beside it
abbrev pub refused : Spaced
refused = record { answer = 21; pairs = 0; least = pos 0; greatest = pos 0; sum = pos 0; sizes = 0; paired = false }

-- 21 exactly if a finished number does not fit
unfoldable pub finished : Exact → Spaced
finished x = cond (fit x) (given x) refused
