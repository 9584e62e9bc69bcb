-- The key pairs of a row, each at its record's place and 0 at a free one: what they say of open records that are all sound.
-- Assumes nothing.
use Prim.Native.Nat.{ℕ, zero, suc, ◌-◌, ◌/◌, ◌%◌, ◌<◌}
use native.Mathlib.Omega.{arith}
use mathlib.Core.Path.{◌≡◌, refl, sym, ap, ◌∙◌}
use mathlib.Core.Bool.{Bool, true, false, cond, not, ◌&&◌, ◌||◌}
use mathlib.Core.List.{List, [], ◌∷◌, ◌++◌, map}
use lib.ListN.{length, take, drop, replicate, take-append-drop}
use lib.Seq.{take-nil, drop-nil}
use lib.Dec.{eqb, ltb}
use lib.Count.{count_leading_zeros, leading_le}
use borrow.Author.Tests.{eqb-true, ne_eqb, lt-ltb, le-ltb, ltb-true, ltb-false, eqb-false, not-false}
use Rattle.rules.specs.Parties.{is_of, own_discriminator, own_number}
use Rattle.rules.specs.Lists.{any, only, once}
use Rattle.rules.proofs.Bools.{split}
use Rattle.rules.proofs.Fitting.{SettingsSay, settings-say}
use Rattle.rules.proofs.Counting.{one_if, count, count-cons}
use Rattle.session.specs.declared.Session.{Session}
use Rattle.session.specs.Soundness.{session_sound}
use Rattle.session.proofs.Sound.{sound-says}
use Rattle.table.specs.Places.{first_on, occupied_of, opens, has_label, place_of}
use Rattle.table.specs.Table.{same_label, same_discriminator}
use Rattle.table.proofs.Rows.{count-opens}
use Rattle.table.proofs.Shares.{held_by}
use Rattle.scan.specs.Distinct.{key_pair, key_in, theirs_of, filled, keys, distinct_in, reach_of, reached, first_with, place_in, rival_in}
use Rattle.scan.specs.Passing.{apart}
use Rattle.scan.proofs.KeyMarks.{neither}

-- the key pair of a record, and its keys
abbrev pub pair_of : Session → ℕ
pair_of r = key_pair r.settings.label r.settings.discriminator

abbrev key_of : Bool → Session → ℕ
key_of labels r = cond labels r.settings.label (own_discriminator r.settings)

-- a number for each place of a row with a set of occupied places: that of an open record, and 0 for a free place
unfoldable pub entries_of : (Session → ℕ) → ℕ → List Session → List ℕ
entries_of entry set [] = []
entries_of entry set (r ∷ rs) = cond (first_on set) (entry r) 0 ∷ entries_of entry (set / 2) rs

-- the pairs of a row
abbrev pub pairs_of : ℕ → List Session → List ℕ
pairs_of set rows = entries_of pair_of set rows

pub length_pairs : (set : ℕ) (rows : List Session) → length (pairs_of set rows) ≡ length rows
unfolding entries_of
length_pairs set [] = refl
length_pairs set (r ∷ rs) = ap suc (length_pairs (set / 2) rs)

opens-none : (rows : List Session) → opens 0 rows ≡ []
unfolding opens
opens-none [] = refl
opens-none (r ∷ rs) = opens-none rs

one_on : (m n : ℕ) → ltb (suc m) (suc n) ≡ ltb m n
one_on m n =
    split (ltb m n)
    (λ e. lt-ltb (suc m) (suc n) (omega (arith, ltb-true m n e)) ∙ sym e)
    (λ e. le-ltb (suc m) (suc n) (omega (arith, ltb-false m n e)) ∙ sym e)

-- ---- behind the last occupied place all is 0

pairs-none : (rows : List Session) → pairs_of 0 rows ≡ replicate (length rows) 0
unfolding entries_of
pairs-none [] = refl
pairs-none (r ∷ rs) = ap (λ (l : List ℕ). 0 ∷ l) (pairs-none rs)

pairs-behind : (k set : ℕ) (rows : List Session) → length rows ≡ k
    → drop (k - count_leading_zeros k set) (pairs_of set rows) ≡ replicate (length (drop (k - count_leading_zeros k set) (pairs_of set rows))) 0
unfolding entries_of count_leading_zeros
pairs-behind k set [] n = rw (drop-nil {A = ℕ} (k - count_leading_zeros k set))
pairs-behind zero set (r ∷ rs) n = absurd (omega arith)
pairs-behind (suc k) zero (r ∷ rs) n =
    let none : suc k - count_leading_zeros (suc k) zero ≡ 0 = omega arith in
    rw none (pairs-none (r ∷ rs) ∙ ap (λ (m : ℕ). replicate m 0) (sym (length_pairs 0 (r ∷ rs))))
pairs-behind (suc k) (suc m) (r ∷ rs) n =
    let more : suc k - count_leading_zeros (suc k) (suc m) ≡ suc (k - count_leading_zeros k (suc m / 2)) = omega (arith, leading_le k (suc m / 2)) in
    rw more (pairs-behind k (suc m / 2) rs (omega arith))

-- a search of what the set reaches is one of the whole
with-noughts : (label n : ℕ) → (label ≡ 0 → ⊥) → first_with label (replicate n 0) ≡ length {A = ℕ} (replicate n 0)
unfolding first_with
with-noughts label zero d = refl
with-noughts label (suc n) d = let rest = with-noughts label n d in rw (ne_eqb 0 label (λ z. d (sym z))) (ap suc rest)

with-front : (label : ℕ) (xs ys : List ℕ) → first_with label ys ≡ length ys
    → cond (ltb (first_with label xs) (length xs)) (first_with label xs) (length (xs ++ ys)) ≡ first_with label (xs ++ ys)
unfolding first_with
with-front label [] ys e = sym e
with-front label (x ∷ xs) ys e =
    let rest = with-front label xs ys e in
    split (eqb (key_in true x) label)
    (λ t. rw t (ap (λ (b : Bool). cond b 0 (suc (length (xs ++ ys)))) (lt-ltb 0 (suc (length xs)) (omega arith))))
    (λ f. rw (f, one_on (first_with label xs) (length xs)) (suc-out (ltb (first_with label xs) (length xs)) (first_with label xs) (length (xs ++ ys)) ∙ ap suc rest))
  where
    suc-out : (t : Bool) (m n : ℕ) → cond t (suc m) (suc n) ≡ suc (cond t m n)
    suc-out true m n = refl
    suc-out false m n = refl

any-noughts : (test : ℕ → Bool) (n : ℕ) → test 0 ≡ false → any test (replicate n 0) ≡ false
unfolding any
any-noughts test zero e = refl
any-noughts test (suc n) e = let rest = any-noughts test n e in rw e rest

any-front : (test : ℕ → Bool) (xs ys : List ℕ) → any test ys ≡ false → any test xs ≡ any test (xs ++ ys)
unfolding any
any-front test [] ys e = sym e
any-front test (x ∷ xs) ys e = ap (λ (b : Bool). test x || b) (any-front test xs ys e)

module _ (set : ℕ) (row : List Session) (n : length row ≡ 64) where
  behind : drop (reach_of set) (pairs_of set row) ≡ replicate (length (drop (reach_of set) (pairs_of set row))) 0
  unfolding reach_of
  behind = pairs-behind 64 set row n

  whole : reached set (pairs_of set row) ++ drop (reach_of set) (pairs_of set row) ≡ pairs_of set row
  whole = take-append-drop (reach_of set) (pairs_of set row)

  with-reached : (label : ℕ) → (label ≡ 0 → ⊥)
      → cond (ltb (first_with label (reached set (pairs_of set row))) (length (reached set (pairs_of set row)))) (first_with label (reached set (pairs_of set row))) (length (pairs_of set row))
      ≡ first_with label (pairs_of set row)
  with-reached label d =
      let none : first_with label (drop (reach_of set) (pairs_of set row)) ≡ length (drop (reach_of set) (pairs_of set row)) =
      ap (first_with label) behind ∙ with-noughts label (length (drop (reach_of set) (pairs_of set row))) d ∙ ap length (sym behind) in
      ap (λ (l : List ℕ). cond (ltb (first_with label (reached set (pairs_of set row))) (length (reached set (pairs_of set row)))) (first_with label (reached set (pairs_of set row))) (length l)) (sym whole)
      ∙ with-front label (reached set (pairs_of set row)) (drop (reach_of set) (pairs_of set row)) none
      ∙ ap (first_with label) whole

  any-reached : (test : ℕ → Bool) → test 0 ≡ false → any test (reached set (pairs_of set row)) ≡ any test (pairs_of set row)
  any-reached test e =
      any-front test (reached set (pairs_of set row)) (drop (reach_of set) (pairs_of set row)) (ap (any test) behind ∙ any-noughts test (length (drop (reach_of set) (pairs_of set row))) e)
      ∙ ap (any test) whole

-- the place of a label is in the row where an open record has it
pub place-any : (label set : ℕ) (rows : List Session) → ltb (place_of label set rows) (length rows) ≡ any (has_label label) (opens set rows)
unfolding place_of opens any
place-any label set [] = le-ltb 0 0 (omega arith)
place-any label set (r ∷ rs) =
    let rest = place-any label (set / 2) rs in
    split (first_on set)
    (λ o. split (has_label label r) (λ e. rw (o, e) (lt-ltb 0 (suc (length rs)) (omega arith))) (λ e. rw (o, e) (one_on (place_of label (set / 2) rs) (length rs) ∙ rest)))
    (λ o. rw o (one_on (place_of label (set / 2) rs) (length rs) ∙ rest))

-- fewer than two are apart
few-once : (same : Session → Session → Bool) (rs : List Session) → length rs < 2 → once same rs ≡ true
unfolding once any
few-once same [] h = refl
few-once same (r ∷ []) h = refl
few-once same (r ∷ x ∷ rs) h = absurd (omega arith)

-- a test of the keys is one of the records
any-map : (key : Session → ℕ) (test : ℕ → Bool) (rs : List Session) → any test (map key rs) ≡ any (λ r. test (key r)) rs
unfolding any
any-map key test [] = refl
any-map key test (r ∷ rs) = ap (λ (b : Bool). test (key r) || b) (any-map key test rs)

once-map : (key : Session → ℕ) (rs : List Session) → once eqb (map key rs) ≡ once (λ (a b : Session). eqb (key a) (key b)) rs
unfolding once
once-map key [] = refl
once-map key (r ∷ rs) = λ i. not (any-map key (eqb (key r)) rs i) && once-map key rs i

-- ---- all open records are sound at a clock

module _ (clock : ℕ) where
  abbrev pub unsound_at : Session → Bool
  unsound_at r = not (session_sound r clock)

  sound-first : (r : Session) (rs : List Session) → any unsound_at (r ∷ rs) ≡ false → (session_sound r clock ≡ true) × (any unsound_at rs ≡ false)
  unfolding any
  sound-first r rs e = let f = neither (unsound_at r) (any unsound_at rs) e in (not-false (session_sound r clock) f.0, f.1)

  -- by the first place: an open record and the others, or the others alone
  pub sound-open : (set : ℕ) (r : Session) (rs : List Session) → first_on set ≡ true → any unsound_at (opens set (r ∷ rs)) ≡ false
      → (session_sound r clock ≡ true) × (any unsound_at (opens (set / 2) rs) ≡ false)
  unfolding opens
  sound-open set r rs o e = sound-first r (opens (set / 2) rs) (rw o at e)

  pub sound-free : (set : ℕ) (r : Session) (rs : List Session) → first_on set ≡ false → any unsound_at (opens set (r ∷ rs)) ≡ false
      → any unsound_at (opens (set / 2) rs) ≡ false
  unfolding opens
  sound-free set r rs o e = rw o at e

  -- the keys of a sound record are read back from its pair, and none is 0
  module _ (r : Session) (e : session_sound r clock ≡ true) where
    said : SettingsSay r.settings
    said = settings-say r.settings (sound-says r clock e).settings

    pair-some : eqb (pair_of r) 0 ≡ false
    pair-some = ne_eqb (pair_of r) 0 (λ z. omega (arith, said.label_low, z))

    key_back : (labels : Bool) → key_in labels (pair_of r) ≡ key_of labels r
    key_back true = omega (arith, said.label_high)
    key_back false =
        let label : pair_of r % 4294967296 ≡ r.settings.label = omega (arith, said.label_high) in
        let discriminator : pair_of r / 4294967296 ≡ r.settings.discriminator = omega (arith, said.label_high) in
        λ i. own_number (label i) (discriminator i)

    key-some : (labels : Bool) → eqb 0 (key_of labels r) ≡ false
    key-some true = ne_eqb 0 r.settings.label (λ z. omega (arith, said.label_low, z))
    key-some false = ne_eqb 0 (own_discriminator r.settings) (λ z. said.discriminator (omega (arith, z)))

  keys-back : (labels : Bool) (rs : List Session) → any unsound_at rs ≡ false → map (key_in labels) (map pair_of rs) ≡ map (key_of labels) rs
  keys-back labels [] e = refl
  keys-back labels (r ∷ rs) e =
      let f = sound-first r rs e in
      λ i. key_back r f.0 labels i ∷ keys-back labels rs f.1 i

  keys-some : (labels : Bool) (rs : List Session) → any unsound_at rs ≡ false → any (eqb 0) (map (key_of labels) rs) ≡ false
  unfolding any
  keys-some labels [] e = refl
  keys-some labels (r ∷ rs) e =
      let f = sound-first r rs e in
      let rest = keys-some labels rs f.1 in
      rw (key-some r f.0 labels) rest

  -- as far as the set reaches, the pairs that are filled are those of the open records
  filled-open : (k set : ℕ) (rows : List Session) → length rows ≡ k → any unsound_at (opens set rows) ≡ false
      → filled (take (k - count_leading_zeros k set) (pairs_of set rows)) ≡ map pair_of (opens set rows)
  unfolding filled entries_of opens count_leading_zeros
  filled-open k set [] n e = ap filled (take-nil {A = ℕ} (k - count_leading_zeros k set))
  filled-open zero set (r ∷ rs) n e = absurd (omega arith)
  filled-open (suc k) zero (r ∷ rs) n e =
      let none : suc k - count_leading_zeros (suc k) zero ≡ 0 = omega arith in
      rw (none, opens-none (r ∷ rs))
  filled-open (suc k) (suc m) (r ∷ rs) n e =
      let more : suc k - count_leading_zeros (suc k) (suc m) ≡ suc (k - count_leading_zeros k (suc m / 2)) = omega (arith, leading_le k (suc m / 2)) in
      split (first_on (suc m))
      (λ o.
      let f = sound-open (suc m) r rs o e in
      rw (more, o, pair-some r f.0) (ap (λ (l : List ℕ). pair_of r ∷ l) (filled-open k (suc m / 2) rs (omega arith) f.1)))
      (λ o. rw (more, o) (filled-open k (suc m / 2) rs (omega arith) (sound-free (suc m) r rs o e)))

  module _ (set : ℕ) (row : List Session) (n : length row ≡ 64) (all : any unsound_at (opens set row) ≡ false) where
    -- the keys are apart as the records are
    keys-apart : (labels : Bool) → distinct_in labels (reach_of set) (pairs_of set row) ≡ once (λ (a b : Session). eqb (key_of labels a) (key_of labels b)) (opens set row)
    unfolding distinct_in reach_of once
    keys-apart labels =
        let own : keys labels (64 - count_leading_zeros 64 set) (pairs_of set row) ≡ map (key_of labels) (opens set row) =
        ap (map (key_in labels)) (filled-open 64 set row n all) ∙ keys-back labels (opens set row) all in
        rw (own, keys-some labels (opens set row) all) (once-map (key_of labels) (opens set row))

    pub pairs-apart : apart (pairs_of set row) set ≡ once same_label (opens set row) && once same_discriminator (opens set row)
    unfolding apart
    pairs-apart =
        split (ltb (occupied_of 64 set) 2)
        (λ e.
        let few : length (opens set row) < 2 = omega (arith, ltb-true (occupied_of 64 set) 2 e, count-opens set row ∙ ap (λ (k : ℕ). occupied_of k set) n) in
        rw (e, few-once same_label (opens set row) few, few-once same_discriminator (opens set row) few))
        (λ e. rw e (λ i. keys-apart true i && keys-apart false i))

  -- the first pair with a label is that of its record
  with-place : (label set : ℕ) (rows : List Session) → (label ≡ 0 → ⊥) → any unsound_at (opens set rows) ≡ false → first_with label (pairs_of set rows) ≡ place_of label set rows
  unfolding first_with entries_of place_of
  with-place label set [] d e = refl
  with-place label set (r ∷ rs) d e =
      split (first_on set)
      (λ o.
      let f = sound-open set r rs o e in
      let rest = with-place label (set / 2) rs d f.1 in
      split (has_label label r) (λ l. rw (o, key_back r f.0 true, l)) (λ l. rw (o, key_back r f.0 true, l) (ap suc rest)))
      (λ o.
      let rest = with-place label (set / 2) rs d (sound-free set r rs o e) in
      rw (o, ne_eqb 0 label (λ z. d (sym z))) (ap suc rest))

  -- no open record has the label 0
  place_none : (set : ℕ) (rows : List Session) → any unsound_at (opens set rows) ≡ false → place_of 0 set rows ≡ length rows
  unfolding place_of
  place_none set [] e = refl
  place_none set (r ∷ rs) e =
      split (first_on set)
      (λ o.
      let f = sound-open set r rs o e in
      let rest = place_none (set / 2) rs f.1 in
      rw (o, ne_eqb r.settings.label 0 (λ z. omega (arith, (said r f.0).label_low, z))) (ap suc rest))
      (λ o. let rest = place_none (set / 2) rs (sound-free set r rs o e) in rw o (ap suc rest))

  pub pairs-place : (label set : ℕ) (rows : List Session) → length rows ≡ 64 → any unsound_at (opens set rows) ≡ false → place_in label set (pairs_of set rows) ≡ place_of label set rows
  unfolding place_in
  pairs-place label set rows n e =
      split (eqb label 0)
      (λ z. rw z (length_pairs set rows ∙ sym (ap (λ (l : ℕ). place_of l set rows) (eqb-true label 0 z) ∙ place_none set rows e)))
      (λ z. rw z (with-reached set rows n label (eqb-false label 0 z) ∙ with-place label set rows (eqb-false label 0 z) e))

  -- and a pair with a discriminator in a party is that of its record
  any-pairs : (key set : ℕ) (rows : List Session) → (key ≡ 0 → ⊥) → any unsound_at (opens set rows) ≡ false
      → any (λ p. eqb (key_in false p) key) (pairs_of set rows) ≡ any (λ r. eqb (own_discriminator r.settings) key) (opens set rows)
  unfolding entries_of opens any
  any-pairs key set [] d e = refl
  any-pairs key set (r ∷ rs) d e =
      split (first_on set)
      (λ o.
      let f = sound-open set r rs o e in
      let rest = any-pairs key (set / 2) rs d f.1 in
      rw (o, key_back r f.0 false) (ap (λ (b : Bool). eqb (own_discriminator r.settings) key || b) rest))
      (λ o.
      let rest = any-pairs key (set / 2) rs d (sound-free set r rs o e) in
      rw (o, ne_eqb 0 key (λ z. d (sym z))) rest)

  any-either : (p q : Session → Bool) (rs : List Session) → any p rs || any q rs ≡ any (λ r. p r || q r) rs
  unfolding any
  any-either p q [] = refl
  any-either p q (r ∷ rs) = let rest = any-either p q rs in four (p r) (q r) (any p rs) (any q rs) ∙ ap (λ (b : Bool). (p r || q r) || b) rest
    where
      four : (a b c d : Bool) → (a || c) || (b || d) ≡ (a || b) || (c || d)
      four true b c d = refl
      four false true true d = refl
      four false true false d = refl
      four false false c d = refl

  pub pairs-rival : (label discriminator set : ℕ) (rows : List Session) → length rows ≡ 64 → (discriminator ≡ 0 → ⊥) → any unsound_at (opens set rows) ≡ false
      → rival_in (pairs_of set rows) set (place_of label set rows) label discriminator
      ≡ any (λ r. eqb r.settings.label label || eqb (own_discriminator r.settings) (own_number label discriminator)) (opens set rows)
  unfolding rival_in
  pairs-rival label discriminator set rows n d e =
      let key = own_number label discriminator in
      let some : key ≡ 0 → ⊥ = λ z. d (omega (arith, z)) in
      let other : Session → Bool = λ r. eqb (own_discriminator r.settings) key in
      rw (length_pairs set rows, place-any label set rows, ne_eqb discriminator 0 d, any-reached set rows n (λ p. eqb (key_in false p) key) (ne_eqb 0 key (λ z. some (sym z))), any-pairs key set rows some e)
      (or-cond (any (has_label label) (opens set rows)) (any other (opens set rows)) ∙ any-either (has_label label) other (opens set rows))
    where
      or-cond : (a b : Bool) → cond a true b ≡ a || b
      or-cond true b = refl
      or-cond false b = refl

  -- the labels that are theirs are those of their records
  pub pairs-theirs : (set : ℕ) (rows : List Session) → any unsound_at (opens set rows) ≡ false → theirs_of (pairs_of set rows) ≡ count (held_by 1) (opens set rows)
  unfolding entries_of opens
  pairs-theirs set [] e = unfold only in refl
  pairs-theirs set (r ∷ rs) e =
      let theirs : ℕ → Bool = λ p. is_of 1 (key_in true p) in
      split (first_on set)
      (λ o.
      let f = sound-open set r rs o e in
      rw o
      (count-cons theirs (pair_of r) (pairs_of (set / 2) rs) ∙ (λ i. one_if (is_of 1 (key_back r f.0 true i)) (pairs-theirs (set / 2) rs f.1 i))
      ∙ sym (count-cons (held_by 1) r (opens (set / 2) rs))))
      (λ o. rw o (count-cons theirs 0 (pairs_of (set / 2) rs) ∙ pairs-theirs (set / 2) rs (sound-free set r rs o e)))
