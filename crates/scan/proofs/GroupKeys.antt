-- What the pass notes of groups: the key of each, 64 places behind its record's, which touches no key pair; and no two keys are alike exactly where no two
-- groups of one party have one ID.
-- Assumes nothing.
use Prim.Native.Nat.{ℕ, zero, suc, ◌+◌, ◌/◌, ◌≤◌, ◌<◌}
use native.Mathlib.Omega.{arith}
use mathlib.Core.Path.{◌≡◌, refl, sym, ap, ◌∙◌}
use mathlib.Core.Bool.{Bool, true, false, cond, not, ◌&&◌, ◌||◌}
use mathlib.Core.List.{List, [], ◌∷◌, ◌++◌}
use lib.ListN.{length, set, take, drop}
use lib.Seq.{set_at}
use lib.Dec.{eqb}
use borrow.Author.Tests.{eqb-true, eqb-false, eq-eqb, ne_eqb, lt-ltb}
use Rattle.rules.specs.Lists.{any, once}
use Rattle.rules.proofs.Bools.{split}
use Rattle.session.specs.declared.Session.{Session}
use Rattle.table.specs.Places.{first_on, opens}
use Rattle.table.specs.Table.{has_group, own_group, same_group}
use Rattle.scan.specs.Distinct.{group_key, filled, once_in}
use Rattle.scan.specs.Passing.{places, noted_group, noted_open}
use Rattle.table.proofs.GroupsApart.{none-like}
use Rattle.scan.proofs.KeyMarks.{neither}
use Rattle.scan.proofs.RowPairs.{entries_of, pair_of}

-- the key of a record's group; 0 where it has none
abbrev pub group_key_of : Session → ℕ
group_key_of r = cond (has_group r) (group_key r.settings.label r.group.id) 0

abbrev pub group_keys_of : ℕ → List Session → List ℕ
group_keys_of set rows = entries_of group_key_of set rows

-- ---- a number put into the one part or the other

take-set : (n : ℕ) (xs : List ℕ) (i v : ℕ) → take n (set xs i v) ≡ set (take n xs) i v
take-set zero xs i v = refl
take-set (suc n) [] i v = refl
take-set (suc n) (x ∷ xs) zero v = refl
take-set (suc n) (x ∷ xs) (suc i) v = ap (λ (l : List ℕ). x ∷ l) (take-set n xs i v)

take_behind : (n : ℕ) (xs : List ℕ) (i v : ℕ) → n ≤ i → take n (set xs i v) ≡ take n xs
take_behind zero xs i v h = refl
take_behind (suc n) [] i v h = refl
take_behind (suc n) (x ∷ xs) zero v h = absurd (omega arith)
take_behind (suc n) (x ∷ xs) (suc i) v h = ap (λ (l : List ℕ). x ∷ l) (take_behind n xs i v (omega arith))

drop-behind : (n : ℕ) (xs : List ℕ) (i j v : ℕ) → i ≡ j + n → drop n (set xs i v) ≡ set (drop n xs) j v
drop-behind zero xs i j v e = let same : i ≡ j = omega (arith, e) in ap (λ (k : ℕ). set xs k v) same
drop-behind (suc n) [] i j v e = refl
drop-behind (suc n) (x ∷ xs) zero j v e = absurd (omega (arith, e))
drop-behind (suc n) (x ∷ xs) (suc i) j v e = drop-behind n xs i j v (omega (arith, e))

drop-set : (n : ℕ) (xs : List ℕ) (i v : ℕ) → i < n → drop n (set xs i v) ≡ drop n xs
drop-set zero xs i v h = absurd (omega arith)
drop-set (suc n) [] i v h = refl
drop-set (suc n) (x ∷ xs) zero v h = refl
drop-set (suc n) (x ∷ xs) (suc i) v h = drop-set n xs i v (omega arith)

module _ (pairs front behind : List ℕ) (at : ℕ) (r : Session) (h : at < places) (n : length front ≡ at) where
  abbrev keyed : List ℕ
  keyed = set pairs at (pair_of r)

  -- the key pair stands among the key pairs
  pub pair_put : take places pairs ≡ front ++ (0 ∷ behind) → take places (noted_open pairs at r) ≡ front ++ (pair_of r ∷ behind)
  unfolding noted_open noted_group
  pair_put z =
      let put : take places keyed ≡ front ++ (pair_of r ∷ behind) =
      take-set places pairs at (pair_of r) ∙ ap (λ (l : List ℕ). set l at (pair_of r)) z ∙ set_at front 0 behind (pair_of r) at n in
      split (has_group r)
      (λ g. rw (g, lt-ltb at places h) (take_behind places keyed (at + places) (group_key r.settings.label r.group.id) (omega arith) ∙ put))
      (λ g. rw g put)

  -- and the key of a group behind them
  pub group-put : drop places pairs ≡ front ++ (0 ∷ behind) → drop places (noted_open pairs at r) ≡ front ++ (group_key_of r ∷ behind)
  unfolding noted_open noted_group
  group-put z =
      let key = group_key r.settings.label r.group.id in
      let same : drop places keyed ≡ front ++ (0 ∷ behind) = drop-set places pairs at (pair_of r) h ∙ z in
      split (has_group r)
      (λ g. rw (g, lt-ltb at places h) (drop-behind places keyed (at + places) at key refl ∙ ap (λ (l : List ℕ). set l at key) same ∙ set_at front 0 behind key at n))
      (λ g. rw g same)

-- ---- keys are alike where groups are

one_more : (a b : ℕ) → eqb (a + 1) (b + 1) ≡ eqb a b
one_more a b =
    split (eqb a b)
    (λ s. eq-eqb (a + 1) (b + 1) (omega (arith, eqb-true a b s)) ∙ sym s)
    (λ s. ne_eqb (a + 1) (b + 1) (λ z. eqb-false a b s (omega (arith, z))) ∙ sym s)

like : (r x : Session) → has_group r ≡ true → has_group x ≡ true → eqb (group_key_of r) (group_key_of x) ≡ same_group r x
like r x e f = rw (e, f) (one_more (own_group r) (own_group x))

unlike : (r x : Session) → has_group x ≡ false → same_group r x ≡ false
unlike r x f = split (has_group r) (λ e. rw (e, f)) (λ e. rw e)

-- a record without a group notes no key
filled-key : (x : Session) (ks : List ℕ) → has_group x ≡ true → filled (group_key_of x ∷ ks) ≡ group_key_of x ∷ filled ks
unfolding filled
filled-key x ks g = rw (g, ne_eqb (group_key x.settings.label x.group.id) 0 (λ z. omega (arith, z)))

filled_none : (x : Session) (ks : List ℕ) → has_group x ≡ false → filled (group_key_of x ∷ ks) ≡ filled ks
unfolding filled
filled_none x ks g = rw g

filled-free : (ks : List ℕ) → filled (0 ∷ ks) ≡ filled ks
unfolding filled
filled-free ks = refl

any-noted : (r : Session) → has_group r ≡ true → (on : ℕ) (rows : List Session)
    → any (eqb (group_key_of r)) (filled (group_keys_of on rows)) ≡ any (same_group r) (opens on rows)
unfolding entries_of opens any
any-noted r e on [] = unfold filled in refl
any-noted r e on (x ∷ rs) =
    let rest = any-noted r e (on / 2) rs in
    split (first_on on)
    (λ o. rw o
    (split (has_group x)
    (λ g. ap (any (eqb (group_key_of r))) (filled-key x (group_keys_of (on / 2) rs) g) ∙ (λ i. like r x e g i || rest i))
    (λ g. ap (any (eqb (group_key_of r))) (filled_none x (group_keys_of (on / 2) rs) g) ∙ rest ∙ ap (λ (b : Bool). b || any (same_group r) (opens (on / 2) rs)) (sym (unlike r x g)))))
    (λ o. rw o (ap (any (eqb (group_key_of r))) (filled-free (group_keys_of (on / 2) rs)) ∙ rest))

none-noted : (on : ℕ) (rows : List Session) → any has_group (opens on rows) ≡ false → once same_group (opens on rows) ≡ true
unfolding opens any once
none-noted on [] n = refl
none-noted on (x ∷ rs) n =
    split (first_on on)
    (λ o.
    let w = neither (has_group x) (any has_group (opens (on / 2) rs)) (rw o at n) in
    rw (o, none-like x w.0 (opens (on / 2) rs)) (none-noted (on / 2) rs w.1))
    (λ o. rw o (none-noted (on / 2) rs (rw o at n)))

noted-once : (on : ℕ) (rows : List Session) → once_in (group_keys_of on rows) ≡ once same_group (opens on rows)
unfolding once_in entries_of opens once
noted-once on [] = unfold filled in refl
noted-once on (x ∷ rs) =
    let rest = noted-once (on / 2) rs in
    let ks = group_keys_of (on / 2) rs in
    split (first_on on)
    (λ o. rw o
    (split (has_group x)
    (λ g. ap (once eqb) (filled-key x ks g) ∙ (λ i. not (any-noted x g (on / 2) rs i) && rest i))
    (λ g. ap (once eqb) (filled_none x ks g) ∙ rest ∙ ap (λ (b : Bool). not b && once same_group (opens (on / 2) rs)) (sym (none-like x g (opens (on / 2) rs))))))
    (λ o. rw o (ap (once eqb) (filled-free ks) ∙ rest))

-- where no group was met there are no two
pub keys-once : (on : ℕ) (rows : List Session) → not (any has_group (opens on rows)) || once_in (group_keys_of on rows) ≡ once same_group (opens on rows)
keys-once on rows =
    split (any has_group (opens on rows)) (λ e. rw e (noted-once on rows)) (λ e. rw e (sym (none-noted on rows e)))
