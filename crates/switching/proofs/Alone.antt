-- In a table that is in step with a history one record holds a party's group of an ID: it is found among the open records, and its label by the groups of the labels.
-- Assumes nothing.
use Prim.Native.Nat.{ℕ}
use mathlib.Core.Path.{◌≡◌, refl, sym, ap, ◌∙◌, subst}
use mathlib.Core.Bool.{true, false, not, ◌&&◌}
use mathlib.Core.Option.{Option, none, some}
use mathlib.Core.List.{List, [], ◌∷◌, Memᴰ}
use lib.Dec.{eqb}
use borrow.Author.Tests.{eqb-true, eq-eqb, not-true}
use Rattle.octets.proofs.Chain.{and_both}
use Rattle.rules.specs.Parties.{is_of}
use Rattle.rules.specs.Lists.{any, once}
use Rattle.rules.proofs.Bools.{split, no_way, both_true, refuted, true-false}
use Rattle.rules.proofs.Lists.{any_at}
use Rattle.rules.proofs.TwoParties.{same_number}
use Rattle.homing.specs.declared.Group.{Group}
use Rattle.session.specs.declared.Session.{Session}
use Rattle.session.specs.Queries.{group_at}
use Rattle.table.specs.Table.{Table, open_of, has_group, own_group, same_group, find, is_found}
use Rattle.table.proofs.Rows.{found-is, found-own}
use Rattle.grouping.specs.Grouped.{holds_group, find_group}
use Rattle.grouping.proofs.Holders.{holder-is, holder-says, no-holder}
use Rattle.meaning.specs.Stories.{Story}
use Rattle.meaning.proofs.Sim.{Sim, fit-open}
use Rattle.switching.specs.Groups.{has_id_in, group_among}
use Rattle.switching.specs.Switching.{group_in}

-- two that hold one group of a party have the same group
holders-same : (p id : ℕ) (a b : Session) → holds_group p id a ≡ true → holds_group p id b ≡ true → same_group a b ≡ true
holders-same p id a b x y =
    let j = holder-says p id a x in
    let k = holder-says p id b y in
    both_true (both_true j.grouped k.grouped)
    (eq-eqb (own_group a) (own_group b)
    ((same_number a.settings.label b.settings.label a.group.id b.group.id).1
    (eqb-true _ p j.party ∙ sym (eqb-true _ p k.party), j.id ∙ sym k.id)))

-- so they are one
alone-holder : (p id : ℕ) (r x : Session) (rs : List Session) → once same_group rs ≡ true → find_group p id rs ≡ some r → Memᴰ x rs → holds_group p id x ≡ true → x ≡ r
unfolding find_group once
alone-holder p id r x rs o f (Memᴰ.head {x = y} {xs = ys} e) q =
    let w : some y ≡ some r = simp (subst (λ (z : Session). holds_group p id z ≡ true) e q) at f in
    let same : y ≡ r = cc in
    e ∙ same
alone-holder p id r x rs o f (Memᴰ.tail {x = y} {xs = ys} m) q =
    let both = and_both (not (any (same_group y) ys)) (once same_group ys) o in
    split (holds_group p id y)
    (λ h. no_way (any_at (same_group y) m (holders-same p id y x h q)) (not-true _ both.0))
    (λ h. alone-holder p id r x ys both.1 (simp h at f) m q)

pub holder-alone : (p id : ℕ) (rs : List Session) (r x : Session) → once same_group rs ≡ true → find_group p id rs ≡ some r → Memᴰ x rs → holds_group p id x ≡ true → x ≡ r
holder-alone p id rs r x = alone-holder p id r x rs

-- what the groups of the labels tell of who holds it
label-holds : (p id u : ℕ) (rs : List Session) (m : ℕ) (o : Option Session) → find m rs ≡ o → is_of p m && has_id_in id (group_in u o) ≡ true
    → (x : Session) × Memᴰ x rs × (x.settings.label ≡ m) × (holds_group p id x ≡ true)
unfolding group_at
label-holds p id u rs m none f e = no_way (and_both (is_of p m) false e).1 refl
label-holds p id u rs m (some x) f e =
    let w = found-is m rs x f in
    let a = and_both (is_of p m) (has_id_in id (group_in u (some x))) e in
    let id-in : has_id_in id (group_in u (some x)) ≡ true = a.1 in
    split (has_group x)
    (λ g. (x, w.0, w.1, both_true (ap (is_of p) w.1 ∙ a.0) (rw g at id-in)))
    (λ g. no_way (rw g at id-in) refl)

-- and the other way round
pub holder-shown : (p id u : ℕ) (r : Session) → holds_group p id r ≡ true → (group_in u (some r) ≡ some (group_at r u)) × (is_of p r.settings.label && has_id_in id (group_in u (some r)) ≡ true)
unfolding group_at
holder-shown p id u r h =
    let k = holder-says p id r h in
    let g = k.grouped in
    (rw g, both_true k.party (rw g (both_true g (eq-eqb r.group.id id k.id))))

-- among labels of which one alone passes it is found
among-alone : (p id : ℕ) (of : ℕ → Option Group) (l : ℕ) → is_of p l && has_id_in id (of l) ≡ true → ((m : ℕ) → is_of p m && has_id_in id (of m) ≡ true → m ≡ l) → (ls : List ℕ)
    → any (eqb l) ls ≡ true → group_among p id of ls ≡ of l
unfolding group_among any
among-alone p id of l e k [] a = no_way a refl
among-alone p id of l e k (m ∷ ls) a =
    split (is_of p m && has_id_in id (of m))
    (λ q. simp q (ap of (k m q)))
    (λ q. simp q (among-alone p id of l e k ls (rest q)))
  where
    rest : is_of p m && has_id_in id (of m) ≡ false → any (eqb l) ls ≡ true
    rest q =
        split (eqb l m)
        (λ z. no_way (subst (λ (n : ℕ). is_of p n && has_id_in id (of n) ≡ true) (eqb-true l m z) e) q)
        (λ z. rw z at a)

among_none : (p id : ℕ) (of : ℕ → Option Group) → ((m : ℕ) → is_of p m && has_id_in id (of m) ≡ false) → (ls : List ℕ) → group_among p id of ls ≡ none
unfolding group_among
among_none p id of k [] = refl
among_none p id of k (m ∷ ls) = simp (k m) (among_none p id of k ls)

module _ {now : ℕ} {st : ℕ → Option Story} {ls : List ℕ} {t : Table} (S : Sim now st ls t) (p id : ℕ) where
  -- a label whose group has the ID is that of the holder
  pub holds-alone : (r : Session) → find_group p id (open_of t) ≡ some r → (u m : ℕ) → is_of p m && has_id_in id (group_in u (find m (open_of t))) ≡ true → m ≡ r.settings.label
  holds-alone r f u m e =
      let w = label-holds p id u (open_of t) m (find m (open_of t)) refl e in
      sym w.2 ∙ ap (λ (x : Session). x.settings.label) (holder-alone p id (open_of t) r w.0 S.ordered.groups f w.1 w.3)

  holds-none : find_group p id (open_of t) ≡ none → (u m : ℕ) → is_of p m && has_id_in id (group_in u (find m (open_of t))) ≡ false
  holds-none f u m =
      refuted _
      (λ e. let w = label-holds p id u (open_of t) m (find m (open_of t)) refl e in
      true-false (any_at (holds_group p id) w.1 w.3) (no-holder p id (open_of t) (ap is_found f)))

  -- the group that is found among the open labels is the one that is found among the open records
  pub among-open : group_among p id (λ l. group_in now (find l (open_of t))) ls ≡ group_in now (find_group p id (open_of t))
  among-open = go (find_group p id (open_of t)) refl
    where
      go : (o : Option Session) → find_group p id (open_of t) ≡ o → group_among p id (λ l. group_in now (find l (open_of t))) ls ≡ group_in now o
      go none f = among_none p id (λ l. group_in now (find l (open_of t))) (holds-none f now) ls
      go (some r) f =
          let w = holder-is p id (open_of t) r f in
          let l = r.settings.label in
          let own : find l (open_of t) ≡ some r = found-own (open_of t) r S.ordered.labels w.0 in
          let here : any (eqb l) ls ≡ true = S.listed l ∙ sym (fit-open now (find l (open_of t)) (st l) (S.fit l)) ∙ ap is_found own in
          let test : is_of p l && has_id_in id (group_in now (find l (open_of t))) ≡ true =
          ap (λ (o : Option Session). is_of p l && has_id_in id (group_in now o)) own ∙ (holder-shown p id now r w.1).1 in
          among-alone p id (λ m. group_in now (find m (open_of t))) l test (holds-alone r f now) ls here ∙ ap (group_in now) own
