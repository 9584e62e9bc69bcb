-- The records of a capture one behind the other: one more record, and octets that come behind a whole one change nothing of it.
-- Assumes nothing.
use Prim.Native.Nat.{ℕ, zero, suc, ◌+◌, ◌≤◌}
use native.Mathlib.Omega.{arith}
use mathlib.Core.Path.{◌≡◌, refl, sym, ap, ◌∙◌}
use mathlib.Core.Bool.{true, false}
use mathlib.Core.List.{List, [], ◌∷◌, ◌++◌}
use lib.Dec.{eqb, ltb}
use lib.ListN.{length, take, drop, length-drop, length-append, get_or-append}
use lib.Seq.{drop-append-le, take-append-le}
use borrow.Author.Tests.{ltb-false, le-ltb, ne_eqb}
use Rattle.octets.specs.Numbers.{number_at}
use Rattle.rules.proofs.Bools.{split, no_way}
use Rattle.capture.specs.declared.Record.{Record}
use Rattle.capture.specs.declared.Next.TheVariants.{Whole}
use Rattle.capture.specs.Records.{record_in, is_broken, next_of, next_in, call_in, is_whole, size_of}
use Rattle.text.specs.Text.{Parsed, parsed_by, parsed}

-- ---- a whole record
-- its octets are all there, 16 at least, and it is not broken
record Stands (n : ℕ) (r : Record) : Type 0 where
  least : 16 ≤ n
  within : 16 + r.size ≤ n
  sound : is_broken r.kind r.size ≡ false
  size : size_of (next_of n r) ≡ 16 + r.size

stands : (n : ℕ) (r : Record) → is_whole (next_of n r) ≡ true → Stands n r
stands n r e =
    split (eqb n 0)
    (λ a. no_way e (rw a))
    (λ a. split (ltb n 16)
    (λ b. no_way e (rw (a, b)))
    (λ b. split (is_broken r.kind r.size)
    (λ d. no_way e (rw (a, b, d)))
    (λ d. split (ltb n (16 + r.size))
    (λ f. no_way e (rw (a, b, d, f)))
    (λ f. record { least = ltb-false n 16 b; within = ltb-false n (16 + r.size) f; sound = d; size = rw (a, b, d, f) }))))

-- where so much is there, it is whole
whole : (n : ℕ) (r : Record) → 16 + r.size ≤ n → is_broken r.kind r.size ≡ false → next_of n r ≡ Whole r
whole n r l d =
    rw (ne_eqb n 0 (λ z. omega arith), le-ltb n 16 (omega arith), d, le-ltb n (16 + r.size) l)

pub whole-size : (s : List ℕ) → is_whole (next_in s) ≡ true → (16 ≤ size_of (next_in s)) × (size_of (next_in s) ≤ length s)
unfolding next_in
whole-size s e =
    let w = stands (length s) (record_in s) e in
    (omega (arith, w.size), omega (arith, w.size, w.within))

-- ---- octets that come behind it
pub at_front_lem : (k : ℕ) (s f : List ℕ) (at : ℕ) → at + k ≤ length s → number_at k (s ++ f) at ≡ number_at k s at
at_front_lem zero s f at h = refl
at_front_lem (suc k) s f at h = rw (at_front_lem k s f at (omega arith), get_or-append s f 0 (at + k) (omega arith))

pub record-front : (s f : List ℕ) → 16 ≤ length s → record_in (s ++ f) ≡ record_in s
unfolding record_in
record-front s f h =
    rw (at_front_lem 8 s f 0 (omega arith), at_front_lem 4 s f 8 (omega arith), at_front_lem 2 s f 12 (omega arith), at_front_lem 2 s f 14 (omega arith))

module _ (s f : List ℕ) (e : is_whole (next_in s) ≡ true) where
  pub next-front : next_in (s ++ f) ≡ next_in s
  unfolding next_in
  next-front =
      let w = stands (length s) (record_in s) e in
      rw (record-front s f w.least)
      (whole (length (s ++ f)) (record_in s) (omega (arith, w.within, length-append s f)) w.sound
      ∙ sym (whole (length s) (record_in s) w.within w.sound))

  pub call-front : call_in (s ++ f) ≡ call_in s
  unfolding call_in next_in
  call-front =
      let w = stands (length s) (record_in s) e in
      let body : take (record_in s).size (drop 16 s ++ f) ≡ take (record_in s).size (drop 16 s) =
      take-append-le (record_in s).size (drop 16 s) f (omega (arith, w.within, length-drop 16 s)) in
      rw (record-front s f w.least, drop-append-le 16 s f w.least, body)

  pub drop-front : drop (size_of (next_in s)) (s ++ f) ≡ drop (size_of (next_in s)) s ++ f
  drop-front = drop-append-le (size_of (next_in s)) s f (whole-size s e).1

-- ---- the length is enough
-- one record of at most suc n
pub by_whole : (n : ℕ) (s : List ℕ) → is_whole (next_in s) ≡ true
    → parsed_by (suc n) s
    ≡ record { calls = call_in s ∷ (parsed_by n (drop (size_of (next_in s)) s)).calls; rest = (parsed_by n (drop (size_of (next_in s)) s)).rest }
unfolding parsed_by
by_whole n s e = rw e

pub by-none : (n : ℕ) (s : List ℕ) → is_whole (next_in s) ≡ false → parsed_by n s ≡ record { calls = []; rest = s }
unfolding parsed_by
by-none zero s e = refl
by-none (suc n) s e = rw e

enough : (m n : ℕ) (s : List ℕ) → length s ≤ m → length s ≤ n → parsed_by m s ≡ parsed_by n s
enough zero n s l k =
    split (is_whole (next_in s))
    (λ e. absurd (omega (arith, (whole-size s e).0, (whole-size s e).1)))
    (λ e. by-none zero s e ∙ sym (by-none n s e))
enough (suc m) zero s l k =
    split (is_whole (next_in s))
    (λ e. absurd (omega (arith, (whole-size s e).0, (whole-size s e).1)))
    (λ e. by-none (suc m) s e ∙ sym (by-none zero s e))
enough (suc m) (suc n) s l k =
    split (is_whole (next_in s))
    (λ e.
    let size = (whole-size s e).0 in
    let len = length-drop (size_of (next_in s)) s in
    by_whole m s e
    ∙ ap (λ (p : Parsed). record { calls = call_in s ∷ p.calls; rest = p.rest }) (enough m n (drop (size_of (next_in s)) s) (omega (arith, size, len)) (omega (arith, size, len)))
    ∙ sym (by_whole n s e))
    (λ e. by-none (suc m) s e ∙ sym (by-none (suc n) s e))

-- one record more
pub parsed-whole : (s : List ℕ) → is_whole (next_in s) ≡ true
    → parsed s ≡ record { calls = call_in s ∷ (parsed (drop (size_of (next_in s)) s)).calls; rest = (parsed (drop (size_of (next_in s)) s)).rest }
unfolding parsed
parsed-whole s e =
    let rest = drop (size_of (next_in s)) s in
    enough (length s) (suc (length s)) s (omega arith) (omega arith) ∙ by_whole (length s) s e
    ∙ ap (λ (p : Parsed). record { calls = call_in s ∷ p.calls; rest = p.rest })
    (enough (length s) (length rest) rest (omega (arith, length-drop (size_of (next_in s)) s)) (omega arith))

-- no record more
pub parsed-none : (s : List ℕ) → is_whole (next_in s) ≡ false → parsed s ≡ record { calls = []; rest = s }
unfolding parsed
parsed-none s e = by-none (length s) s e
