-- The open records of a row: altered, added and closed; finding one by its label.
-- Assumes nothing.
use Prim.Native.Nat.{ℕ, zero, suc, ◌+◌, ◌-◌, ◌*◌, ◌/◌, ◌%◌, ◌^◌, ◌≤◌, ◌<◌}
use native.Mathlib.Omega.{arith}
use native.Mathlib.Nat.{pow-suc}
use mathlib.Core.Path.{◌≡◌, refl, sym, ap, ◌∙◌, subst}
use mathlib.Core.Bool.{Bool, true, false, cond, not, ◌&&◌, ◌||◌}
use mathlib.Core.Option.{none, some, map}
use mathlib.Core.List.{List, [], ◌∷◌, Memᴰ}
use lib.Dec.{eqb}
use lib.ListN.{length, get_or, set}
use borrow.Author.Tests.{eqb-true, eqb-false, eq-eqb, ne_eqb, not-true}
use Rattle.octets.proofs.Chain.{and_both}
use Rattle.rules.specs.Lists.{any, once}
use Rattle.rules.proofs.Bools.{split, no_way, or_left, or_right, refuted, true-false}
use Rattle.rules.proofs.Lists.{Inserted, here, there, any_at, any_same}
use Rattle.session.specs.declared.Session.{Session}
use Rattle.table.specs.Places.{first_on, lowest_free, occupied_of, opens, has_label, place_of}
use Rattle.table.specs.Table.{find}

-- the first record with a label, altered
unfoldable pub update : ℕ → (Session → Session) → List Session → List Session
update l f [] = []
update l f (r ∷ rs) = cond (has_label l r) (f r ∷ rs) (r ∷ update l f rs)

-- a record stored back at its place
pub opens-altered : (l : ℕ) (f : Session → Session) (d : Session) (on : ℕ) (row : List Session)
    → opens on (set row (place_of l on row) (f (get_or row (place_of l on row) d))) ≡ update l f (opens on row)
unfolding opens place_of update
opens-altered l f d on [] = refl
opens-altered l f d on (r ∷ rs) =
    split (first_on on)
    (λ o. split (has_label l r)
    (λ e. simp (o, e))
    (λ e. simp (o, e) (ap (λ (xs : List Session). r ∷ xs) (opens-altered l f d (on / 2) rs))))
    (λ o. simp o (opens-altered l f d (on / 2) rs))

-- a new record in the lowest free place
pub opens-added : (new : Session) (n on : ℕ) (row : List Session) → length row ≡ n → lowest_free n on < n
    → Inserted new (opens on row) (opens (on + 2 ^ lowest_free n on) (set row (lowest_free n on) new))
unfolding opens lowest_free
opens-added new zero on row e h = absurd (omega arith)
opens-added new (suc n) on [] e h = absurd (omega arith)
opens-added new (suc n) on (r ∷ rs) e h =
    split (first_on on)
    (λ o.
    let q = lowest_free n (on / 2) in
    let k : q < n = omega (arith, rw o at h) in
    let p : 2 ^ suc q ≡ 2 ^ q * 2 = pow-suc 2 q in
    let odd : first_on (on + 2 ^ suc q) ≡ true = eq-eqb ((on + 2 ^ suc q) % 2) 1 (omega (arith, eqb-true (on % 2) 1 o)) in
    let half : (on + 2 ^ suc q) / 2 ≡ on / 2 + 2 ^ q = omega arith in
    simp (o, odd, half) (there (opens-added new n (on / 2) rs (omega arith) k)))
    (λ o.
    let odd : first_on (on + 1) ≡ true = eq-eqb ((on + 1) % 2) 1 (omega (arith, eqb-false (on % 2) 1 o)) in
    let half : (on + 1) / 2 ≡ on / 2 = omega (arith, eqb-false (on % 2) 1 o) in
    simp (o, odd, half) here)

-- a found record's place is in the set
place-within : (l on : ℕ) (row : List Session) (r : Session) → find l (opens on row) ≡ some r → 2 ^ place_of l on row ≤ on
unfolding opens place_of find
place-within l on [] r e = absurd (let z : ◌≡◌ {A = ℕ} 0 1 = cc in omega arith)
place-within l on (x ∷ rs) r e =
    split (first_on on)
    (λ o. split (has_label l x)
    (λ a. rw (o, a) (omega (arith, eqb-true (on % 2) 1 o)))
    (λ a. rw (o, a) (omega (arith, pow-suc 2 (place_of l (on / 2) rs), place-within l (on / 2) rs r (rw (o, a) at e)))))
    (λ o. rw o (omega (arith, pow-suc 2 (place_of l (on / 2) rs), place-within l (on / 2) rs r (rw o at e))))

-- a place given back
pub opens-closed : (l on : ℕ) (row : List Session) (r : Session) → find l (opens on row) ≡ some r
    → Inserted r (opens (on - 2 ^ place_of l on row) row) (opens on row)
unfolding opens place_of find
opens-closed l on [] r e = absurd (let z : ◌≡◌ {A = ℕ} 0 1 = cc in omega arith)
opens-closed l on (x ∷ rs) r e =
    split (first_on on)
    (λ o.
    let o' = eqb-true (on % 2) 1 o in
    split (has_label l x)
    (λ a.
    let w : some x ≡ some r = rw (o, a) at e in
    let same : x ≡ r = cc in
    let even : first_on (on - 1) ≡ false = ne_eqb ((on - 1) % 2) 1 (λ z. omega arith) in
    let half : (on - 1) / 2 ≡ on / 2 = omega arith in
    simp (o, a, even, half) (subst (λ (y : Session). Inserted r (opens (on / 2) rs) (y ∷ opens (on / 2) rs)) (sym same) here))
    (λ a.
    let q = place_of l (on / 2) rs in
    let f : find l (opens (on / 2) rs) ≡ some r = rw (o, a) at e in
    let p : 2 ^ suc q ≡ 2 ^ q * 2 = pow-suc 2 q in
    let k : 2 ^ q ≤ on / 2 = place-within l (on / 2) rs r f in
    let odd : first_on (on - 2 ^ suc q) ≡ true = eq-eqb ((on - 2 ^ suc q) % 2) 1 (omega arith) in
    let half : (on - 2 ^ suc q) / 2 ≡ on / 2 - 2 ^ q = omega arith in
    simp (o, a, odd, half) (there (opens-closed l (on / 2) rs r f))))
    (λ o.
    let o' = eqb-false (on % 2) 1 o in
    let q = place_of l (on / 2) rs in
    let f : find l (opens (on / 2) rs) ≡ some r = rw o at e in
    let p : 2 ^ suc q ≡ 2 ^ q * 2 = pow-suc 2 q in
    let k : 2 ^ q ≤ on / 2 = place-within l (on / 2) rs r f in
    let even : first_on (on - 2 ^ suc q) ≡ false = ne_eqb ((on - 2 ^ suc q) % 2) 1 (λ z. omega arith) in
    let half : (on - 2 ^ suc q) / 2 ≡ on / 2 - 2 ^ q = omega arith in
    simp (o, even, half) (opens-closed l (on / 2) rs r f))

-- the number of open records is that of the set's places
pub count-opens : (on : ℕ) (row : List Session) → length (opens on row) ≡ occupied_of (length row) on
unfolding opens occupied_of
count-opens on [] = refl
count-opens on (r ∷ rs) =
    split (first_on on) (λ o. simp o (ap suc (count-opens (on / 2) rs))) (λ o. simp o (count-opens (on / 2) rs))

occupied-most : (n on : ℕ) → occupied_of n on ≤ n
unfolding occupied_of
occupied-most zero on = omega arith
occupied-most (suc n) on =
    split (first_on on) (λ o. rw o (omega (arith, occupied-most n (on / 2)))) (λ o. rw o (omega (arith, occupied-most n (on / 2))))

-- there is a free place unless all are occupied
pub free-exists : (n on : ℕ) → (occupied_of n on ≡ n → ⊥) → lowest_free n on < n
unfolding occupied_of lowest_free
free-exists zero on h = absurd (h refl)
free-exists (suc n) on h =
    split (first_on on)
    (λ o. rw o (omega (arith, free-exists n (on / 2) (λ z. h (rw o (ap suc z))))))
    (λ o. rw o (omega arith))

-- finding

pub find-update-same : (l : ℕ) (f : Session → Session) (rs : List Session) → ((r : Session) → (f r).settings ≡ r.settings)
    → find l (update l f rs) ≡ map f (find l rs)
unfolding find update
find-update-same l f [] k = refl
find-update-same l f (r ∷ rs) k =
    split (has_label l r)
    (λ e. let e' : has_label l (f r) ≡ true = rw (k r) e in simp (e, e'))
    (λ e. simp e (find-update-same l f rs k))

-- a record has one label
pub one_label_lem : (l m : ℕ) (r : Session) → eqb l m ≡ false → has_label l r ≡ true → has_label m r ≡ false
one_label_lem l m r d e = ne_eqb r.settings.label m (λ z. eqb-false l m d (sym (eqb-true r.settings.label l e) ∙ z))

pub find-update-other : (l m : ℕ) (f : Session → Session) (rs : List Session) → ((r : Session) → (f r).settings ≡ r.settings) → eqb l m ≡ false
    → find m (update l f rs) ≡ find m rs
unfolding find update
find-update-other l m f [] k d = refl
find-update-other l m f (r ∷ rs) k d =
    split (has_label l r)
    (λ e. let o = one_label_lem l m r d e in let o' : has_label m (f r) ≡ false = rw (k r) o in simp (e, o, o'))
    (λ e. simp e (ap (cond (has_label m r) (some r)) (find-update-other l m f rs k d)))

-- a test of the settings alone
pub any-update : (p : Session → Bool) (l : ℕ) (f : Session → Session) (rs : List Session) → ((r : Session) → p (f r) ≡ p r) → any p (update l f rs) ≡ any p rs
unfolding any update
any-update p l f [] k = refl
any-update p l f (r ∷ rs) k =
    split (has_label l r) (λ e. simp e (ap (λ (b : Bool). b || any p rs) (k r))) (λ e. simp e (ap (λ (b : Bool). p r || b) (any-update p l f rs k)))

pub once-update : (same : Session → Session → Bool) (l : ℕ) (f : Session → Session) (rs : List Session)
    → ((a b : Session) → same (f a) b ≡ same a b) → ((a b : Session) → same a (f b) ≡ same a b) → once same (update l f rs) ≡ once same rs
unfolding once update
once-update same l f [] j k = refl
once-update same l f (r ∷ rs) j k =
    split (has_label l r)
    (λ e. simp e (ap (λ (b : Bool). not b && once same rs) (any_same (same (f r)) (same r) (j r) rs)))
    (λ e. simp e (λ i. not (any-update (same r) l f rs (k r) i) && once-update same l f rs j k i))

pub length-update : (l : ℕ) (f : Session → Session) (rs : List Session) → length (update l f rs) ≡ length rs
unfolding update
length-update l f [] = refl
length-update l f (r ∷ rs) = split (has_label l r) (λ e. simp e) (λ e. simp e (ap suc (length-update l f rs)))

-- what is found is there and has the label
pub found-is : (l : ℕ) (rs : List Session) (r : Session) → find l rs ≡ some r → Memᴰ r rs × (r.settings.label ≡ l)
unfolding find
found-is l [] r e = absurd (let z : ◌≡◌ {A = ℕ} 0 1 = cc in omega arith)
found-is l (x ∷ rs) r e =
    split (has_label l x)
    (λ q. let w : some x ≡ some r = simp q at e in let o : x ≡ r = cc in (Memᴰ.head (sym o), subst (λ (y : Session). y.settings.label ≡ l) o (eqb-true x.settings.label l q)))
    (λ q. let m = found-is l rs r (simp q at e) in (Memᴰ.tail m.0, m.1))

-- nothing has a label that is not found
pub none_found : (l : ℕ) (rs : List Session) → any (has_label l) rs ≡ false → find l rs ≡ none
unfolding find any
none_found l [] e = refl
none_found l (r ∷ rs) e =
    let f : has_label l r ≡ false = refuted (has_label l r) (λ z. true-false (or_left (any (has_label l) rs) z) e) in
    let g : any (has_label l) rs ≡ false = refuted (any (has_label l) rs) (λ z. true-false (or_right (has_label l r) z) e) in
    simp f (none_found l rs g)

pub none-there : (l : ℕ) (rs : List Session) → find l rs ≡ none → any (has_label l) rs ≡ false
unfolding find any
none-there l [] e = refl
none-there l (r ∷ rs) e =
    split (has_label l r)
    (λ q. absurd (let w : some r ≡ none = simp q at e in let z : ◌≡◌ {A = ℕ} 0 1 = cc in omega arith))
    (λ q. simp q (none-there l rs (simp q at e)))

-- one record more: its own label finds it where no other has that label, other labels find what they did
pub find-inserted-own : {n : Session} {xs ys : List Session} → Inserted n xs ys → any (has_label n.settings.label) xs ≡ false
    → find n.settings.label ys ≡ some n
unfolding find any
find-inserted-own {n} here e = simp (eq-eqb n.settings.label n.settings.label refl)
find-inserted-own {n} (there {x = x} {xs = xs} i) e =
    let f : has_label n.settings.label x ≡ false = refuted (has_label n.settings.label x) (λ z. true-false (or_left (any (has_label n.settings.label) xs) z) e) in
    let g : any (has_label n.settings.label) xs ≡ false = refuted (any (has_label n.settings.label) xs) (λ z. true-false (or_right (has_label n.settings.label x) z) e) in
    simp f (find-inserted-own i g)

pub find-inserted-other : {n : Session} {xs ys : List Session} (l : ℕ) → Inserted n xs ys → eqb n.settings.label l ≡ false → find l ys ≡ find l xs
unfolding find
find-inserted-other l here d = simp d
find-inserted-other l (there {x = x} i) d = ap (cond (has_label l x) (some x)) (find-inserted-other l i d)

-- an open record is the one that its label finds, where each label stands once
own-found : (r : Session) (rs : List Session) → once (λ (a b : Session). eqb a.settings.label b.settings.label) rs ≡ true → Memᴰ r rs
    → find r.settings.label rs ≡ some r
unfolding find once
own-found r rs a (Memᴰ.head {x = x} {xs} e) = rw (← e) (simp (eq-eqb r.settings.label r.settings.label refl))
own-found r rs a (Memᴰ.tail {x = x} {xs} m) =
    let o = and_both (not (any (λ (b : Session). eqb x.settings.label b.settings.label) xs)) (once (λ (a b : Session). eqb a.settings.label b.settings.label) xs) a in
    split (has_label r.settings.label x)
    (λ q. no_way (any_at (λ (b : Session). eqb x.settings.label b.settings.label) m q) (not-true _ o.0))
    (λ q. simp q (own-found r xs o.1 m))

pub found-own : (rs : List Session) (r : Session) → once (λ (a b : Session). eqb a.settings.label b.settings.label) rs ≡ true → Memᴰ r rs
    → find r.settings.label rs ≡ some r
found-own rs r = own-found r rs
