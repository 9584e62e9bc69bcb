-- The first records of a capture that still grows: octets that come behind go on from what was left. What is said of a capture's end, by what is left behind the
-- records that were asked for.
-- Assumes nothing.
use Prim.Native.Nat.{ℕ, zero, suc, ◌+◌, ◌-◌, ◌≤◌, ◌<◌}
use native.Mathlib.Omega.{arith}
use mathlib.Core.Path.{◌≡◌, refl, sym, ap, ◌∙◌}
use mathlib.Core.Bool.{true, false, cond}
use mathlib.Core.List.{List, [], ◌∷◌, ◌++◌, append-nil}
use lib.Dec.{eqb, ltb}
use lib.ListN.{length, drop, length-append}
use borrow.Author.Tests.{lt-ltb, le-ltb}
use Rattle.rules.proofs.Bools.{split, no_way}
use Rattle.capture.specs.declared.Record.{Record}
use Rattle.capture.specs.declared.Next.{Next}
use Rattle.capture.specs.declared.Next.TheVariants.{Whole, Broken, Short, End}
use Rattle.capture.specs.Records.{record_in, is_broken, next_of, next_in, call_in, is_whole, size_of}
use Rattle.text.specs.Text.{Parsed, parsed_by, parsed}
use Rattle.text.proofs.Parsing.{next-front, call-front, drop-front, by_whole, by-none, parsed-whole, parsed-none}
use Rattle.pump.specs.Pumping.{cannot_mend}
use Rattle.pump.proofs.Mending.{still-broken, waits-short}
use Rattle.inquiry.specs.Words.{cut_line, end_note}
use Rattle.inquiry.specs.Searching.{is_settled, note_of}

-- ---- at most n records, and then more octets
-- the records that still lack, of what was left with octets behind it
abbrev pub further : ℕ → Parsed → List ℕ → Parsed
further n p f = parsed_by (n - length p.calls) (p.rest ++ f)

abbrev pub joined : Parsed → Parsed → Parsed
joined p q = record { calls = p.calls ++ q.calls; rest = q.rest }

first_of : (n : ℕ) (s f : List ℕ) → is_whole (next_in s) ≡ true
    → parsed_by (suc n) (s ++ f)
    ≡ record { calls = call_in s ∷ (parsed_by n (drop (size_of (next_in s)) s ++ f)).calls; rest = (parsed_by n (drop (size_of (next_in s)) s ++ f)).rest }
first_of n s f e =
    by_whole n (s ++ f) (ap is_whole (next-front s f e) ∙ e) ∙ rw (next-front s f e, call-front s f e, drop-front s f e)

pub more-behind : (n : ℕ) (s f : List ℕ) → parsed_by n (s ++ f) ≡ joined (parsed_by n s) (further n (parsed_by n s) f)
unfolding parsed_by
more-behind zero s f = refl
more-behind (suc n) s f =
    split (is_whole (next_in s))
    (λ e.
    let r = drop (size_of (next_in s)) s in
    let p = parsed_by n r in
    let lack : suc n - length (call_in s ∷ p.calls) ≡ n - length p.calls = omega arith in
    first_of n s f e
    ∙ ap (λ (q : Parsed). record { calls = call_in s ∷ q.calls; rest = q.rest }) (more-behind n r f)
    ∙ ap (λ (k : ℕ). joined (record { calls = call_in s ∷ p.calls; rest = p.rest }) (parsed_by k (p.rest ++ f))) (sym lack)
    ∙ ap (λ (q : Parsed). joined q (further (suc n) q f)) (sym (by_whole n s e)))
    (λ e.
    let lack : suc n - 0 ≡ suc n = omega arith in
    ap (λ (k : ℕ). joined (record { calls = []; rest = s }) (parsed_by k (s ++ f))) (sym lack)
    ∙ ap (λ (q : Parsed). joined q (further (suc n) q f)) (sym (by-none (suc n) s e)))

-- all records are the first k and those of what is left
pub first-and-rest : (k : ℕ) (s : List ℕ) → parsed s ≡ joined (parsed_by k s) (parsed (parsed_by k s).rest)
unfolding parsed_by
first-and-rest zero s = refl
first-and-rest (suc k) s =
    split (is_whole (next_in s))
    (λ e.
    parsed-whole s e
    ∙ ap (λ (q : Parsed). record { calls = call_in s ∷ q.calls; rest = q.rest }) (first-and-rest k (drop (size_of (next_in s)) s))
    ∙ ap (λ (q : Parsed). joined q (parsed q.rest)) (sym (by_whole k s e)))
    (λ e. ap (λ (q : Parsed). joined q (parsed q.rest)) (sym (by-none (suc k) s e)))

-- they are not more than asked for
pub at_most : (k : ℕ) (s : List ℕ) → length (parsed_by k s).calls ≤ k
unfolding parsed_by
at_most zero s = omega arith
at_most (suc k) s =
    split (is_whole (next_in s))
    (λ e. rw (by_whole k s e) (omega (arith, at_most k (drop (size_of (next_in s)) s))))
    (λ e. rw (by-none (suc k) s e) (omega arith))

-- and where a whole one is left, they are as many
pub as_many : (k : ℕ) (s : List ℕ) → is_whole (next_in (parsed_by k s).rest) ≡ true → length (parsed_by k s).calls ≡ k
unfolding parsed_by
as_many zero s w = refl
as_many (suc k) s w =
    split (is_whole (next_in s))
    (λ e.
    let r = drop (size_of (next_in s)) s in
    let left : is_whole (next_in (parsed_by k r).rest) ≡ true = ap (λ (q : Parsed). is_whole (next_in q.rest)) (sym (by_whole k s e)) ∙ w in
    ap (λ (q : Parsed). length q.calls) (by_whole k s e) ∙ ap suc (as_many k r left))
    (λ e. no_way (ap (λ (q : Parsed). is_whole (next_in q.rest)) (sym (by-none (suc k) s e)) ∙ w) e)

-- ---- nothing that may come changes what is known
settled-broken : (x : Next) → is_settled x ≡ true → is_whole x ≡ false → cannot_mend x ≡ true
settled-broken (Whole r) e w = no_way refl w
settled-broken Broken e w = refl
settled-broken Short e w = no_way e refl
settled-broken End e w = no_way e refl

broken-is : (x : Next) → cannot_mend x ≡ true → x ≡ Broken
broken-is (Whole r) e = no_way e refl
broken-is Broken e = refl
broken-is Short e = no_way e refl
broken-is End e = no_way e refl

pub settled-next : (s f : List ℕ) → is_settled (next_in s) ≡ true → next_in (s ++ f) ≡ next_in s
settled-next s f e =
    split (is_whole (next_in s))
    (λ w. next-front s f w)
    (λ w. let b = settled-broken (next_in s) e w in still-broken s f b ∙ sym (broken-is (next_in s) b))

-- no further record is taken
none-further : (k : ℕ) (s f : List ℕ) → is_settled (next_in (parsed_by k s).rest) ≡ true
    → further k (parsed_by k s) f ≡ record { calls = []; rest = (parsed_by k s).rest ++ f }
unfolding parsed_by
none-further k s f e =
    let p = parsed_by k s in
    split (is_whole (next_in p.rest))
    (λ w. let none : k - length p.calls ≡ 0 = omega (arith, as_many k s w) in ap (λ (m : ℕ). parsed_by m (p.rest ++ f)) none)
    (λ w. by-none (k - length p.calls) (p.rest ++ f) (ap is_whole (settled-next p.rest f e) ∙ w))

pub settled-parsed : (k : ℕ) (s f : List ℕ) → is_settled (next_in (parsed_by k s).rest) ≡ true
    → parsed_by k (s ++ f) ≡ record { calls = (parsed_by k s).calls; rest = (parsed_by k s).rest ++ f }
settled-parsed k s f e =
    more-behind k s f ∙ ap (joined (parsed_by k s)) (none-further k s f e)
    ∙ ap (λ (cs : List _). record { calls = cs; rest = (parsed_by k s).rest ++ f }) (append-nil (parsed_by k s).calls)

-- what is not settled is short
unsettled : (x : Next) → is_settled x ≡ false → (is_whole x ≡ false) × (cannot_mend x ≡ false)
unsettled (Whole r) e = no_way refl e
unsettled Broken e = no_way refl e
unsettled Short e = (refl, refl)
unsettled End e = (refl, refl)

pub unsettled-short : (s : List ℕ) → is_settled (next_in s) ≡ false → length s < 2064
unsettled-short s e = let u = unsettled (next_in s) e in waits-short s u.0 u.1

-- ---- what is said of the end
note-whole : (x : Next) (n : ℕ) → is_whole x ≡ true → note_of x n ≡ []
note-whole (Whole r) n e = refl
note-whole Broken n e = no_way e refl
note-whole Short n e = no_way e refl
note-whole End n e = no_way e refl

note-of : (octets : ℕ) (r : Record) (n : ℕ) → is_whole (next_of octets r) ≡ false → cond (eqb octets 0) [] (cut_line n) ≡ note_of (next_of octets r) n
note-of octets r n w =
    split (eqb octets 0)
    (λ a. rw a)
    (λ a. split (ltb octets 16)
    (λ b. rw (a, b))
    (λ b. split (is_broken r.kind r.size)
    (λ d. rw (a, b, d))
    (λ d. split (ltb octets (16 + r.size))
    (λ f. rw (a, b, d, f))
    (λ f. no_way (rw (a, b, d, f)) w))))

note-left : (s : List ℕ) (n : ℕ) → is_whole (next_in s) ≡ false → cond (eqb (length s) 0) [] (cut_line n) ≡ note_of (next_in s) n
unfolding next_in
note-left s n w = note-of (length s) (record_in s) n w

pub note-is : (k : ℕ) (s : List ℕ) → end_note k (length (parsed s).calls) (parsed s).rest ≡ note_of (next_in (parsed_by k s).rest) (length (parsed_by k s).calls)
note-is k s =
    let p = parsed_by k s in
    let all = first-and-rest k s in
    split (is_whole (next_in p.rest))
    (λ w.
    let more : length (parsed s).calls ≡ length p.calls + suc (length (parsed (drop (size_of (next_in p.rest)) p.rest)).calls) =
    ap (λ (q : Parsed). length q.calls) all ∙ length-append p.calls (parsed p.rest).calls
    ∙ ap (λ (q : Parsed). length p.calls + length q.calls) (parsed-whole p.rest w) in
    rw (lt-ltb k (length (parsed s).calls) (omega (arith, more, as_many k s w))) (sym (note-whole (next_in p.rest) (length p.calls) w)))
    (λ w.
    let same : parsed s ≡ p = all ∙ ap (joined p) (parsed-none p.rest w) ∙ ap (λ (cs : List _). record { calls = cs; rest = p.rest }) (append-nil p.calls) in
    ap (λ (q : Parsed). end_note k (length q.calls) q.rest) same
    ∙ rw (le-ltb k (length p.calls) (at_most k s)) (note-left p.rest (length p.calls) w))
