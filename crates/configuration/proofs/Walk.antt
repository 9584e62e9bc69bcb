-- The entries of a list one by one, and what is noted of an entry with all that it holds.
-- Assumes nothing.
use mathlib.Core.Path.{◌≡◌, refl, sym, ap, ◌∙◌}
use mathlib.Core.Bool.{Bool, true, false, cond}
use mathlib.Core.List.{List, [], ◌∷◌, ◌++◌}
use Prim.Native.Nat.{ℕ, zero, suc, ◌+◌, ◌*◌, ◌/◌, ◌-◌, ◌≤◌, ◌<◌, min}
use native.Mathlib.Omega.{arith}
use native.Mathlib.Numerals.{sub-one}
use lib.ListN.{length, take, drop, length-drop}
use lib.Seq.{take_all}
use lib.Dec.{ltb}
use Rattle.octets.specs.Numbers.{number_at}
use Rattle.configuration.specs.declared.Seen.{Seen}
use Rattle.configuration.specs.Entries.{Entry, size_of, padded_size, entry_at, following, entries_of, holds_list, inside, each, with_held, entries_in}
use Rattle.configuration.specs.Noting.{bare, noted, noted_all}

-- an entry takes octets, and so the rest of a list is shorter
pub behind-less : (xs : List ℕ) → 0 < length xs → length (drop (padded_size (size_of xs)) xs) < length xs
unfolding padded_size
behind-less xs h = simp length-drop (omega arith)

-- as many turns as octets are enough
enough : (k j l : ℕ) (xs : List ℕ) → length xs ≤ k → length xs ≤ j → following k l xs ≡ following j l xs
unfolding following
enough zero zero l xs p q = refl
enough zero (suc j) l [] p q = refl
enough zero (suc j) l (x ∷ xs) p q = absurd (omega arith)
enough (suc k) zero l [] p q = refl
enough (suc k) zero l (x ∷ xs) p q = absurd (omega arith)
enough (suc k) (suc j) l [] p q = refl
enough (suc k) (suc j) l (x ∷ xs) p q =
    let f = behind-less (x ∷ xs) (omega arith) in
    ap (λ (es : List Entry). entry_at l (x ∷ xs) ∷ es) (enough k j l (drop (padded_size (size_of (x ∷ xs))) (x ∷ xs)) (omega (arith, f)) (omega (arith, f)))

-- a list that is not empty: its first entry, and those of what stands behind it
pub first_entry : (l : ℕ) (xs : List ℕ) → 0 < length xs
    → entries_of l xs ≡ entry_at l xs ∷ entries_of l (drop (padded_size (size_of xs)) xs)
unfolding following
first_entry l [] h = absurd (omega arith)
first_entry l (x ∷ xs) h =
    let f = behind-less (x ∷ xs) h in
    let rest = drop (padded_size (size_of (x ∷ xs))) (x ∷ xs) in
    ap (λ (es : List Entry). entry_at l (x ∷ xs) ∷ es) (enough (length xs) (length rest) l rest (omega (arith, f)) (omega arith))

-- "and a list holds TLVs"
pub list-holds-tlvs : (l : ℕ) (xs : List ℕ) → 0 < length xs
    → entries_in l xs ≡ with_held l (entry_at l xs) ++ entries_in l (drop (padded_size (size_of xs)) xs)
unfolding entries_in each
list-holds-tlvs l xs h = ap (each (with_held l)) (first_entry l xs h)

pub none_in : (l : ℕ) (xs : List ℕ) → length xs ≤ 0 → entries_in l xs ≡ []
unfolding entries_in each following
none_in l [] h = refl
none_in l (x ∷ xs) h = absurd (omega arith)

-- "a TLV holds a list of TLVs"
pub tlv-holds-list : (l : ℕ) (e : Entry) → with_held (suc l) e ≡ e ∷ cond (holds_list e) (entries_in l (inside e)) []
unfolding with_held entries_in
tlv-holds-list l e = refl

-- what stands behind an entry, as the code takes it
dropped : (n : ℕ) (xs : List ℕ) → drop (min (length xs) n) xs ≡ drop n xs
dropped zero xs = let e : min (length xs) 0 ≡ 0 = omega arith in ap (λ (k : ℕ). drop k xs) e
dropped (suc n) [] = let e : min 0 (suc n) ≡ 0 = omega arith in ap (λ (k : ℕ). drop {A = ℕ} k []) e
dropped (suc n) (x ∷ xs) = let e : min (length (x ∷ xs)) (suc n) ≡ suc (min (length xs) n) = omega arith in ap (λ (k : ℕ). drop k (x ∷ xs)) e ∙ dropped n xs

pub behind : (xs : List ℕ) {at : ℕ} → at ≡ min (length xs) (padded_size (size_of xs)) → take (length xs - at) (drop at xs) ≡ drop (padded_size (size_of xs)) xs
behind xs {at} e =
    take_all (length xs - at) (drop at xs) (simp length-drop (omega arith)) ∙ ap (λ (k : ℕ). drop k xs) e ∙ dropped (padded_size (size_of xs)) xs

pub less : (xs : List ℕ) {at : ℕ} → 0 < length xs → at ≡ min (length xs) (padded_size (size_of xs)) → length (take (length xs - at) (drop at xs)) < length xs
less xs h e = rw (behind xs e) (behind-less xs h)

module _ (a : ℕ) where
  pub noted-joined : (s : Seen) (ds es : List Entry) → noted_all a s (ds ++ es) ≡ noted_all a (noted_all a s ds) es
  unfolding noted_all
  noted-joined s [] es = refl
  noted-joined s (d ∷ ds) es = noted-joined (noted a s d) ds es

  -- a turn of the loop over a list
  pub turned : (l : ℕ) (xs : List ℕ) (s r w : Seen) {at : ℕ} → 0 < length xs → at ≡ min (length xs) (padded_size (size_of xs))
      → r ≡ noted_all a s (with_held l (entry_at l xs)) → noted_all a s (entries_in l xs) ≡ w → noted_all a r (entries_in l (take (length xs - at) (drop at xs))) ≡ w
  turned l xs s r w h at-is r-is i =
      rw (behind xs at-is, r-is) (sym (noted-joined s (with_held l (entry_at l xs)) (entries_in l (drop (padded_size (size_of xs)) xs))) ∙ ap (noted_all a s) (sym (list-holds-tlvs l xs h)) ∙ i)

  pub over : (l : ℕ) (xs : List ℕ) (s w : Seen) → length xs ≤ 0 → noted_all a s (entries_in l xs) ≡ w → s ≡ w
  unfolding noted_all
  over l xs s w h i = rw (none_in l xs h) at i

  -- no levels left
  pub entry-none : (l : ℕ) (e : Entry) (s : Seen) → l ≡ 0 → s ≡ noted_all a s (with_held l e)
  unfolding with_held noted_all
  entry-none l e s h = rw h

  opened : (l : ℕ) (e : Entry) → (l ≡ 0 → ⊥) → with_held l e ≡ e ∷ cond (holds_list e) (entries_in (l - 1) (inside e)) []
  unfolding with_held
  opened zero e h = absurd (h refl)
  opened (suc l) e h = rw (sub-one (suc l)) (tlv-holds-list l e)

  -- what the code found of the entry at the front: its type and length, where it ends, its value, what was noted and whether it holds a list
  module _ (l : ℕ) (xs : List ℕ) (s : Seen) {kind size padded : ℕ} {value : List ℕ} {m : Seen} {holds : Bool} (some : l ≡ 0 → ⊥) (kind-is : kind ≡ number_at 2 xs 0)
      (size_is : size ≡ size_of xs) (padded-is : padded ≡ padded_size size) (value-is : value ≡ take size (drop 4 xs))
      (met : m ≡ noted a s (record { levels = l; kind = kind; size = size; past = ltb (length xs) padded; value = value }))
      (holds-is : holds ≡ holds_list (bare l kind size (ltb (length xs) padded))) where
    noted-is : m ≡ noted a s (entry_at l xs)
    unfolding entry_at
    noted-is = met ∙ rw (value-is, padded-is, size_is, kind-is)

    held-is : holds ≡ holds_list (entry_at l xs)
    unfolding entry_at
    held-is = holds-is ∙ rw (padded-is, size_is, kind-is)

    inside_is : drop 4 value ≡ inside (entry_at l xs)
    unfolding entry_at
    inside_is = rw (value-is, size_is)

    pub entry-list : {r : Seen} {ys : List ℕ} → holds ≡ true → ys ≡ drop 4 value → r ≡ noted_all a m (entries_in (l - 1) ys) → r ≡ noted_all a s (with_held l (entry_at l xs))
    unfolding noted_all
    entry-list h ys-is r-is = r-is ∙ rw (opened l (entry_at l xs) some, sym held-is ∙ h, ys-is ∙ inside_is, noted-is)

    pub entry-leaf : holds ≡ false → m ≡ noted_all a s (with_held l (entry_at l xs))
    unfolding noted_all
    entry-leaf h = noted-is ∙ rw (opened l (entry_at l xs) some, sym held-is ∙ h)
