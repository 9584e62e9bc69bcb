-- Where the last line of a text ends.
-- Assumes nothing.
use Rattle.std.proofs.Common.{◌≡◌, ◌≢◌, ℕ, zero, suc, ◌+◌, ◌<◌, ◌≤◌, Bool, true, false, ◌||◌, List, [], ◌∷◌, length, get_or, take, refl, ap, ◌∙◌, arith}
use Rattle.std.specs.List.{list_any}
use Rattle.std.proofs.lemmas.Bool.{cond-true, cond-false, eq-eqb, ne_eqb}
use Rattle.stored.specs.Lines.{ends_line, whole_lines}

none_ends : (text : List ℕ) → ((k : ℕ) → k < length text → get_or text k 0 ≢ 10) → list_any ends_line text ≡ false
none_ends [] none = refl
none_ends (octet ∷ rest) none =
    ap (λ here. here || list_any ends_line rest) (ne_eqb octet 10 (none 0 (omega arith))) ∙ none_ends rest (λ k inside. none (suc k) (omega arith))

or_true : (here : Bool) → here || true ≡ true
or_true true = refl
or_true false = refl

one_ends : (text : List ℕ) (last : ℕ) → last < length text → get_or text last 0 ≡ 10 → list_any ends_line text ≡ true
one_ends [] last inside here = elim inside [ ]
one_ends (octet ∷ rest) zero inside here = ap (λ b. b || list_any ends_line rest) (eq-eqb octet 10 here)
one_ends (octet ∷ rest) (suc last) inside here =
    ap (λ b. ends_line octet || b) (one_ends rest last (omega arith) here) ∙ or_true (ends_line octet)

pub no_lines : (text : List ℕ) → ((k : ℕ) → k < length text → get_or text k 0 ≢ 10) → whole_lines text ≡ []
unfolding whole_lines
no_lines [] none = refl
no_lines (octet ∷ rest) none = cond-false _ _ _ (none_ends (octet ∷ rest) none)

pub lines_to_last : (text : List ℕ) (last : ℕ) → last < length text → get_or text last 0 ≡ 10 → ((k : ℕ) → last + 1 ≤ k → k < length text → get_or text k 0 ≢ 10) → whole_lines text ≡ take (last + 1) text
unfolding whole_lines
lines_to_last [] last inside here behind = elim inside [ ]
lines_to_last (octet ∷ rest) zero inside here behind =
    cond-true _ _ _ (one_ends (octet ∷ rest) zero inside here)
    ∙ ap (λ lines. octet ∷ lines) (no_lines rest (λ k within. behind (suc k) (omega arith) (omega arith)))
lines_to_last (octet ∷ rest) (suc last) inside here behind =
    let more : suc (last + 1) ≡ suc last + 1 = omega arith in
    cond-true _ _ _ (one_ends (octet ∷ rest) (suc last) inside here)
    ∙ ap (λ lines. octet ∷ lines) (lines_to_last rest last (omega arith) here (λ k past within. behind (suc k) (omega arith) (omega arith)))
    ∙ ap (λ n. take n (octet ∷ rest)) more
