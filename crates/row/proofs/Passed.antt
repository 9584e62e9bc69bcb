-- The pass over a row goes on with the rest of it, as `pass_over` does: what one record makes of it, and what is left where it ends.
-- Assumes nothing.
use mathlib.Core.Path.{◌≡◌, refl, sym, ap, ◌∙◌}
use mathlib.Core.Bool.{Bool, true, false, not, cond, ◌&&◌}
use Prim.Native.Nat.{ℕ, suc, ◌+◌}
use mathlib.Core.List.{List, [], ◌∷◌}
use native.Mathlib.Numerals.{add-one}
use lib.Dec.{eqb, ltb}
use lib.ListN.{length, get_or, drop, drop_of_length-le}
use lib.Seq.{drop-cons}
use Rattle.session.specs.declared.Session.{Session}
use Rattle.scan.specs.declared.Progress.{Progress}
use Rattle.scan.specs.Passing.{taken_in, noted, Pass, taken, pass_over}
use Rattle.row.proofs.Searched.{more_of, within, none_more}

-- no record is left, no place is left, or there is one more of both
out : (i : ℕ) (p : Pass) → pass_over i p [] ≡ p
unfolding pass_over
out i p = refl

stops : (i : ℕ) (p : Pass) (rs : List Session) → p.progress.rest ≡ 0 → pass_over i p rs ≡ p
unfolding pass_over
stops i p [] e = refl
stops i p (r ∷ rs) e = ap (λ (n : ℕ). cond (eqb n 0) p (pass_over (suc i) (taken p i r) rs)) e

goes_on : (i : ℕ) (p : Pass) (r : Session) (rs : List Session) → eqb p.progress.rest 0 ≡ false → pass_over i p (r ∷ rs) ≡ pass_over (suc i) (taken p i r) rs
unfolding pass_over
goes_on i p r rs e = ap (λ (t : Bool). cond t p (pass_over (suc i) (taken p i r) rs)) e

some_left : (t b : Bool) → not t && b ≡ true → t ≡ false
some_left true b e = sym e
some_left false b e = refl

-- one record
pub goes_one : (ys : List Session) (i : ℕ) (s : Progress) (ps : List ℕ) (past : Session) → more_of s.rest i (length ys) ≡ true
    → (s' : Progress) → s' ≡ taken_in s i (get_or ys i past) → (ps' : List ℕ) → ps' ≡ noted ps s i (get_or ys i past)
    → pass_over (i + 1) (record { progress = s'; pairs = ps' }) (drop (i + 1) ys) ≡ pass_over i (record { progress = s; pairs = ps }) (drop i ys)
goes_one ys i s ps past h s' e ps' e' =
    ap (λ (u : Progress). pass_over (i + 1) (record { progress = u; pairs = ps' }) (drop (i + 1) ys)) e
    ∙ ap (λ (us : List ℕ). pass_over (i + 1) (record { progress = taken_in s i (get_or ys i past); pairs = us }) (drop (i + 1) ys)) e'
    ∙ ap (λ (k : ℕ). pass_over k (taken (record { progress = s; pairs = ps }) i (get_or ys i past)) (drop k ys)) (add-one i)
    ∙ sym (goes_on i (record { progress = s; pairs = ps }) (get_or ys i past) (drop (suc i) ys) (some_left (eqb s.rest 0) (ltb i (length ys)) h))
    ∙ ap (pass_over i (record { progress = s; pairs = ps })) (sym (drop-cons ys i past (within s.rest i (length ys) h)))

-- none is left
pub at-end : (ys : List Session) (i : ℕ) (s : Progress) (ps : List ℕ) → more_of s.rest i (length ys) ≡ false
    → ◌≡◌ {A = Pass} (record { progress = s; pairs = ps }) (pass_over i (record { progress = s; pairs = ps }) (drop i ys))
at-end ys i s ps e =
    none_more s.rest i (length ys) e
    (λ z. sym (stops i (record { progress = s; pairs = ps }) (drop i ys) z))
    (λ z. sym (out i (record { progress = s; pairs = ps })) ∙ ap (pass_over i (record { progress = s; pairs = ps })) (sym (drop_of_length-le ys z)))
