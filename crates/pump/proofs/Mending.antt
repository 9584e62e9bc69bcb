-- What octets to come cannot change: a record that none can mend, and a header; and how long a record can be that waits for more.
-- Assumes nothing.
use Prim.Native.Nat.{ℕ, ◌+◌, ◌≤◌, ◌<◌}
use native.Mathlib.Omega.{arith}
use mathlib.Core.Path.{◌≡◌, ap, ◌∙◌}
use mathlib.Core.Bool.{true, false}
use mathlib.Core.List.{List, ◌++◌}
use lib.Dec.{eqb, ltb, leb}
use lib.ListN.{length, get_or, length-append, get_or-append}
use borrow.Author.Tests.{ltb-true, ltb-false, le-ltb, eqb-true, leb-true, le-leb, ne_eqb}
use Rattle.octets.proofs.Chain.{and_both}
use Rattle.rules.proofs.Bools.{split, no_way, or_right, refuted, true-false}
use Rattle.capture.specs.declared.Record.{Record}
use Rattle.capture.specs.declared.Next.TheVariants.{Broken}
use Rattle.capture.specs.Records.{header_fits, record_in, is_broken, next_of, next_in, is_whole}
use Rattle.meaning.specs.Histories.{History}
use Rattle.text.specs.Text.{Parsed, lines_after, ending, text_after}
use Rattle.text.proofs.Parsing.{at_front_lem, record-front, parsed-none}
use Rattle.pump.specs.Pumping.{cannot_mend}

-- ---- a record that no octet to come can mend
mended : (n : ℕ) (r : Record) → cannot_mend (next_of n r) ≡ true → (16 ≤ n) × (is_broken r.kind r.size ≡ true)
mended n r e =
    split (eqb n 0)
    (λ a. no_way e (rw a))
    (λ a. split (ltb n 16)
    (λ b. no_way e (rw (a, b)))
    (λ b. split (is_broken r.kind r.size)
    (λ d. (ltb-false n 16 b, d))
    (λ d. split (ltb n (16 + r.size))
    (λ f. no_way e (rw (a, b, d, f)))
    (λ f. no_way e (rw (a, b, d, f))))))

broken : (n : ℕ) (r : Record) → 16 ≤ n → is_broken r.kind r.size ≡ true → next_of n r ≡ Broken
broken n r l d = rw (ne_eqb n 0 (λ z. omega arith), le-ltb n 16 l, d)

pub still-broken : (s f : List ℕ) → cannot_mend (next_in s) ≡ true → next_in (s ++ f) ≡ Broken
unfolding next_in
still-broken s f e =
    let m = mended (length s) (record_in s) e in
    rw (record-front s f m.0) (broken (length (s ++ f)) (record_in s) (omega (arith, m.0, length-append s f)) m.1)

-- ---- a record that waits for more
waits-of : (n : ℕ) (r : Record) → is_whole (next_of n r) ≡ false → cannot_mend (next_of n r) ≡ false → n < 2064
waits-of n r w m =
    split (eqb n 0)
    (λ a. omega (arith, eqb-true n 0 a))
    (λ a. split (ltb n 16)
    (λ b. omega (arith, ltb-true n 16 b))
    (λ b. split (is_broken r.kind r.size)
    (λ d. no_way (rw (a, b, d)) m)
    (λ d. split (ltb n (16 + r.size))
    (λ f. omega (arith, ltb-true n (16 + r.size) f, ltb-false 2048 r.size (refuted (ltb 2048 r.size) (λ z. true-false (or_right (ltb 8 r.kind) z) d))))
    (λ f. no_way (rw (a, b, d, f)) w))))

pub waits-short : (s : List ℕ) → is_whole (next_in s) ≡ false → cannot_mend (next_in s) ≡ false → length s < 2064
unfolding next_in
waits-short s w m = waits-of (length s) (record_in s) w m

-- ---- how the text ends
-- where no whole record stands
pub text-none : (h : History) (n : ℕ) (s : List ℕ) → is_whole (next_in s) ≡ false → text_after h n s ≡ ending s
unfolding text_after lines_after
text-none h n s w = ap (λ (p : Parsed). lines_after h n p.calls ++ ending p.rest) (parsed-none s w)

-- whatever comes behind a record that nothing can mend
pub text-broken : (h : History) (n : ℕ) (s f : List ℕ) → cannot_mend (next_in s) ≡ true → text_after h n (s ++ f) ≡ ending s
unfolding next_in
text-broken h n s f e =
    let m = mended (length s) (record_in s) e in
    text-none h n (s ++ f) (ap is_whole (still-broken s f e))
    ∙ rw (ne_eqb (length (s ++ f)) 0 (λ z. omega (arith, m.0, length-append s f)), ne_eqb (length s) 0 (λ z. omega (arith, m.0)))

-- ---- the header
pub header-long : (s : List ℕ) → header_fits s ≡ true → 8 ≤ length s
unfolding header_fits
header-long s e = leb-true 8 (length s) (and_both (leb 8 (length s)) _ e).0

pub header-front : (s f : List ℕ) → 8 ≤ length s → header_fits (s ++ f) ≡ header_fits s
unfolding header_fits
header-front s f l =
    let g : (i : ℕ) → i < length s → get_or (s ++ f) i 0 ≡ get_or s i 0 = λ i h. get_or-append s f 0 i h in
    rw (le-leb 8 (length (s ++ f)) (omega (arith, length-append s f)), le-leb 8 (length s) l, g 0 (omega arith), g 1 (omega arith), g 2 (omega arith), at_front_lem 2 s f 3 (omega arith), g 5 (omega arith), g 6 (omega arith), g 7 (omega arith))
