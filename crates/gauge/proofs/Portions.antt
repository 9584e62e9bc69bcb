-- The records of a capture that still grows: octets that come behind go on from what was left.
-- Assumes nothing.
use Prim.Native.Nat.{ℕ, zero, suc, ◌≤◌}
use native.Mathlib.Omega.{arith}
use mathlib.Core.Path.{◌≡◌, sym, ap, ◌∙◌}
use mathlib.Core.Bool.{true, false}
use mathlib.Core.List.{List, ◌∷◌, ◌++◌, append-nil}
use lib.ListN.{length, drop, length-drop}
use Rattle.rules.proofs.Bools.{split}
use Rattle.capture.specs.Records.{next_in, call_in, is_whole, size_of}
use Rattle.text.specs.Text.{Parsed, parsed}
use Rattle.text.proofs.Parsing.{whole-size, next-front, call-front, drop-front, parsed-whole, parsed-none}
use Rattle.pump.specs.Pumping.{cannot_mend}
use Rattle.pump.proofs.Mending.{still-broken}

-- the records of what was left with octets behind it
abbrev pub further : Parsed → List ℕ → Parsed
further p f = parsed (p.rest ++ f)

abbrev pub joined : Parsed → Parsed → Parsed
joined p q = record { calls = p.calls ++ q.calls; rest = q.rest }

first_of : (s f : List ℕ) → is_whole (next_in s) ≡ true
    → parsed (s ++ f) ≡ record { calls = call_in s ∷ (parsed (drop (size_of (next_in s)) s ++ f)).calls; rest = (parsed (drop (size_of (next_in s)) s ++ f)).rest }
first_of s f e = parsed-whole (s ++ f) (ap is_whole (next-front s f e) ∙ e) ∙ rw (next-front s f e, call-front s f e, drop-front s f e)

-- by so many octets as there are at most
behind-by : (n : ℕ) (s f : List ℕ) → length s ≤ n → parsed (s ++ f) ≡ joined (parsed s) (further (parsed s) f)
behind-by zero s f l =
    split (is_whole (next_in s))
    (λ e. absurd (omega (arith, (whole-size s e).0, (whole-size s e).1)))
    (λ e. ap (λ (q : Parsed). joined q (further q f)) (sym (parsed-none s e)))
behind-by (suc n) s f l =
    split (is_whole (next_in s))
    (λ e.
    let r = drop (size_of (next_in s)) s in
    first_of s f e
    ∙ ap (λ (q : Parsed). record { calls = call_in s ∷ q.calls; rest = q.rest }) (behind-by n r f (omega (arith, (whole-size s e).0, length-drop (size_of (next_in s)) s)))
    ∙ ap (λ (q : Parsed). joined q (further q f)) (sym (parsed-whole s e)))
    (λ e. ap (λ (q : Parsed). joined q (further q f)) (sym (parsed-none s e)))

pub more-behind : (s f : List ℕ) → parsed (s ++ f) ≡ joined (parsed s) (further (parsed s) f)
more-behind s f = behind-by (length s) s f (omega arith)

-- no whole record is left
left_by_lem : (n : ℕ) (s : List ℕ) → length s ≤ n → is_whole (next_in (parsed s).rest) ≡ false
left_by_lem zero s l =
    split (is_whole (next_in s))
    (λ e. absurd (omega (arith, (whole-size s e).0, (whole-size s e).1)))
    (λ e. ap (λ (q : Parsed). is_whole (next_in q.rest)) (parsed-none s e) ∙ e)
left_by_lem (suc n) s l =
    split (is_whole (next_in s))
    (λ e.
    let r = drop (size_of (next_in s)) s in
    ap (λ (q : Parsed). is_whole (next_in q.rest)) (parsed-whole s e) ∙ left_by_lem n r (omega (arith, (whole-size s e).0, length-drop (size_of (next_in s)) s)))
    (λ e. ap (λ (q : Parsed). is_whole (next_in q.rest)) (parsed-none s e) ∙ e)

pub none_left : (s : List ℕ) → is_whole (next_in (parsed s).rest) ≡ false
none_left s = left_by_lem (length s) s (omega arith)

-- behind a record that cannot be mended no record is taken
pub broken-parsed : (s f : List ℕ) → cannot_mend (next_in (parsed s).rest) ≡ true → (parsed (s ++ f)).calls ≡ (parsed s).calls
broken-parsed s f b =
    let r = (parsed s).rest in
    ap (λ (q : Parsed). q.calls) (more-behind s f)
    ∙ ap (λ (q : Parsed). (parsed s).calls ++ q.calls) (parsed-none (r ++ f) (ap is_whole (still-broken r f b)))
    ∙ append-nil (parsed s).calls
