-- One key is an equivalence; and two fault messages have one key exactly if type, IF_ID and Global_ID of the one are those of the other.
-- Assumes nothing.
use mathlib.Core.Path.{◌≡◌, refl, sym, ap, ◌∙◌}
use mathlib.Core.Bool.{Bool, true, false, ◌&&◌, ◌||◌}
use mathlib.Core.Logic.{◌⊎◌, ◌↔◌, inl, inr, ⊎_elim}
use Prim.Native.Nat.{ℕ, ◌≤◌}
use native.Mathlib.Omega.{arith}
use lib.Dec.{eqb}
use borrow.Author.Tests.{eqb-true, eq-eqb}
use Rattle.octets.proofs.Chain.{and_both}
use Rattle.fault.specs.declared.Fault.{Fault}
use Rattle.fault.specs.Identifiers.{OptionalIfId}
use Rattle.fault.specs.Identifiers.{NoIfId}
use Rattle.fault.specs.declared.IfId.{IfId}
use Rattle.std.specs.Prelude.{Some}
use Rattle.fault.specs.Identifiers.{OptionalGlobalId}
use Rattle.fault.specs.Identifiers.{NoGlobalId, AGlobalId}
use Rattle.rules.specs.declared.Key.{Key}
use Rattle.rules.specs.Conditions.{if_id_mark, node_of, interface_of, global_id_mark, global_of, key_of, same_if_id, same_global_id, same_key}
use Rattle.rules.specs.OneKey.{OneKey, OneCause}
use Rattle.rules.proofs.Lists.{Alike}
use Rattle.rules.proofs.Bools.{both_true, or_cases, or_left, or_right, same_test}

pub same-says : (a b : Key) → same_key a b ≡ true → OneKey a b
unfolding same_key same_if_id same_global_id
same-says a b e =
    let x = and_both _ (same_global_id a b) e in
    let y = and_both _ (same_if_id a b) x.0 in
    let z = and_both _ _ y.1 in
    let w = and_both _ _ x.1 in
    record {
      kind = eqb-true _ _ y.0;
      present = eqb-true _ _ z.0;
      place =
          ⊎_elim (λ n. inl (eqb-true _ _ n)) (λ n. let v = and_both _ _ n in inr (eqb-true _ _ v.0, eqb-true _ _ v.1))
          (or_cases _ _ z.1);
      carrier = eqb-true _ _ w.0;
      global = ⊎_elim (λ n. inl (eqb-true _ _ n)) (λ n. inr (eqb-true _ _ n)) (or_cases _ _ w.1);
    }

pub says_same : (a b : Key) → OneKey a b → same_key a b ≡ true
unfolding same_key same_if_id same_global_id
says_same a b s =
    both_true
    (both_true (eq-eqb _ _ s.kind)
    (both_true (eq-eqb _ _ s.present)
    (⊎_elim (λ z. or_left _ (eq-eqb _ _ z)) (λ z. or_right (eqb a.present 0) (both_true (eq-eqb _ _ z.0) (eq-eqb _ _ z.1))) s.place)))
    (both_true (eq-eqb _ _ s.carrier)
    (⊎_elim (λ z. or_left _ (eq-eqb _ _ z)) (λ z. or_right (eqb a.carrier 0) (eq-eqb _ _ z)) s.global))

flipped : (a b : Key) → OneKey a b → OneKey b a
flipped a b s =
    record {
      kind = sym s.kind;
      present = sym s.present;
      place = ⊎_elim (λ z. inl (sym s.present ∙ z)) (λ z. inr (sym z.0, sym z.1)) s.place;
      carrier = sym s.carrier;
      global = ⊎_elim (λ z. inl (sym s.carrier ∙ z)) (λ z. inr (sym z)) s.global;
    }

pub same-sym : (a b : Key) → same_key a b ≡ same_key b a
same-sym a b =
    same_test (same_key a b) (same_key b a)
    (λ e. says_same b a (flipped a b (same-says a b e))) (λ e. says_same a b (flipped b a (same-says b a e)))

pub same_refl : (a : Key) → same_key a a ≡ true
same_refl a = says_same a a (record { kind = refl; present = refl; place = inr (refl, refl); carrier = refl; global = inr refl })

pub same-trans : (a b c : Key) → same_key a b ≡ true → same_key b c ≡ true → same_key a c ≡ true
same-trans a b c p q =
    let s = same-says a b p in
    let t = same-says b c q in
    says_same a c
    (record {
      kind = s.kind ∙ t.kind;
      present = s.present ∙ t.present;
      place =
          ⊎_elim (λ z. inl z)
          (λ z. ⊎_elim (λ w. inl (s.present ∙ w)) (λ w. inr (z.0 ∙ w.0, z.1 ∙ w.1)) t.place)
          s.place;
      carrier = s.carrier ∙ t.carrier;
      global = ⊎_elim (λ z. inl z) (λ z. ⊎_elim (λ w. inl (s.carrier ∙ w)) (λ w. inr (z ∙ w)) t.global) s.global;
    })

pub keys-alike : Alike same_key
keys-alike = record { itself = same_refl; back = same-sym; through = same-trans }

-- the marks in the key of a message
pub if-id-marked : (i : OptionalIfId) → if_id_mark i ≤ 1
if-id-marked NoIfId = omega arith
if-id-marked (Some i) = omega arith

pub global-id-marked : (g : OptionalGlobalId) → global_id_mark g ≤ 1
global-id-marked NoGlobalId = omega arith
global-id-marked (AGlobalId global) = omega arith

if-id-by : (i j : IfId) → i.node ≡ j.node → i.interface ≡ j.interface → i ≡ j
if-id-by i j n k = ap (λ (x : ℕ). record { node = x; interface = i.interface }) n ∙ ap (λ (x : ℕ). record { node = j.node; interface = x }) k

-- an identifier is told by its mark and numbers: absent equals absent alone, and 0 is not absent
if-id-told : (i j : OptionalIfId) → if_id_mark i ≡ if_id_mark j → (if_id_mark i ≡ 0) ⊎ ((node_of i ≡ node_of j) × (interface_of i ≡ interface_of j)) → i ≡ j
if-id-told NoIfId NoIfId m p = refl
if-id-told NoIfId (Some j) m p = absurd (omega arith)
if-id-told (Some i) NoIfId m p = absurd (omega arith)
if-id-told (Some i) (Some j) m p = ⊎_elim (λ z. absurd (omega arith)) (λ z. ap Some (if-id-by i j z.0 z.1)) p

global-id-told : (g h : OptionalGlobalId) → global_id_mark g ≡ global_id_mark h → (global_id_mark g ≡ 0) ⊎ (global_of g ≡ global_of h) → g ≡ h
global-id-told NoGlobalId NoGlobalId m p = refl
global-id-told NoGlobalId (AGlobalId n) m p = absurd (omega arith)
global-id-told (AGlobalId n) NoGlobalId m p = absurd (omega arith)
global-id-told (AGlobalId n) (AGlobalId o) m p = ⊎_elim (λ z. absurd (omega arith)) (λ z. ap Some z) p

-- type, Global_ID and IF_ID, each absent or present
pub key-exactly : (f g : Fault) → (same_key (key_of f) (key_of g) ≡ true) ↔ OneCause f g
key-exactly f g = (
  λ e.
      let s = same-says (key_of f) (key_of g) e in
      record {
        kind = s.kind;
        interface = if-id-told f.interface g.interface s.present s.place;
        global = global-id-told f.global g.global s.carrier s.global;
      },
  λ c.
      says_same (key_of f) (key_of g)
      (record {
        kind = c.kind;
        present = ap if_id_mark c.interface;
        place = inr (ap node_of c.interface, ap interface_of c.interface);
        carrier = ap global_id_mark c.global;
        global = inr (ap global_of c.global);
      }),
)
