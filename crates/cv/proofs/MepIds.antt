-- A MEP-ID and its octets: what is written reads back, what is read writes back, and two are the same exactly when their octets are.
-- Each law is one for all types.
-- Assumes nothing.
use mathlib.Core.Path.{◌≡◌, refl, sym, ap, ◌∙◌}
use mathlib.Core.Bool.{true, ◌&&◌, ◌||◌}
use mathlib.Core.List.{List, [], ◌∷◌}
use Prim.Native.Nat.{ℕ, ◌+◌, ◌-◌, ◌^◌, ◌≤◌, ◌<◌}
use native.Mathlib.Omega.{arith}
use lib.ListN.{length, get_or, take, drop, length-take, get_or-eq_default}
use lib.Seq.{get_or-take}
use lib.Dec.{ltb, eqb}
use borrow.Author.Tests.{ltb-true, ltb-false, eqb-true, lt-ltb, le-ltb, eq-eqb}
use Rattle.octets.specs.Numbers.{number_at, octets_of}
use Rattle.octets.proofs.Chain.{and_both}
use Rattle.octets.proofs.Numbers.{at-past, read_of, run, of_at}
use Rattle.octets.proofs.Cuts.{at_front_lem, cut, front-run}
use Rattle.cv.specs.declared.MepId.{MepId}
use Rattle.cv.specs.Forms.{value_length, mep_fits}
use Rattle.cv.specs.MepId.{mep_id_at, head_octets, agi_octets, whole_octets, mep_octets, front_of, same_agi, same_group, same_mep_id, kept, kept_agi, no_agi, plain_mep, MepSized}
use Rattle.cv.proofs.Forms.{split, Formed, fixed, pseudowire, length-within, fits-formed, formed-length, formed-at}
use Rattle.cv.proofs.Fronts.{front_kept, kept-front, kept_same}
use Rattle.cv.proofs.Octets.{mep-length, Small, mep-small}

-- a MEP-ID from its numbers
built : {f s t u g n l k y z f' s' t' u' g' n' l' k' y' z' : ℕ} → f ≡ f' → s ≡ s' → t ≡ t' → u ≡ u' → g ≡ g' → n ≡ n' → l ≡ l' → k ≡ k' → y ≡ y' → z ≡ z'
    → ◌≡◌ {A = MepId}
    (record { agi = record { first = f; second = s; third = t; fourth = u }; global = g; node = n; local = l; kind = k; group = y; size = z })
    (record { agi = record { first = f'; second = s'; third = t'; fourth = u' }; global = g'; node = n'; local = l'; kind = k'; group = y'; size = z' })
built e0 e1 e2 e3 e4 e5 e6 e7 e8 e9 = rw (e0, e1, e2, e3, e4, e5, e6, e7, e8, e9)

-- the MEP-ID without what is nobody's field, by its types
plain-fixed : (id : MepId) → id.kind < 2
    → plain_mep id ≡ record { agi = no_agi; global = id.global; node = id.node; local = id.local; kind = id.kind; group = 0; size = 0 }
unfolding plain_mep
plain-fixed id h = rw (lt-ltb id.kind 2 h)

plain-pseudowire : (id : MepId) → 2 ≤ id.kind
    → plain_mep id
    ≡ record { agi = kept_agi id.size id.agi; global = id.global; node = id.node; local = id.local; kind = id.kind; group = id.group; size = id.size }
unfolding plain_mep
plain-pseudowire id h = rw (le-ltb id.kind 2 h)

-- the numbers in the first n octets of a MEP-ID
module _ (id : MepId) (s : MepSized id) (n : ℕ) where
  kind_at : 2 ≤ n → number_at 2 (take n (whole_octets id)) 0 ≡ id.kind
  unfolding head_octets agi_octets
  kind_at h = at_front_lem 2 n (whole_octets id) 0 (omega arith) ∙ read_of 2 id.kind [] s.kind

  len-at : 4 ≤ n → number_at 2 (take n (whole_octets id)) 2 ≡ value_length id.kind id.size
  unfolding head_octets agi_octets
  len-at h =
      let len = value_length id.kind id.size in
      let small : len < 256 ^ 2 = omega (arith, (length-within id.kind id.size).1) in
      at_front_lem 2 n (whole_octets id) 2 (omega arith) ∙ read_of 2 len [] small

  global-at : 8 ≤ n → number_at 4 (take n (whole_octets id)) 4 ≡ id.global
  unfolding head_octets agi_octets
  global-at h = at_front_lem 4 n (whole_octets id) 4 (omega arith) ∙ read_of 4 id.global [] s.global

  node_at : 12 ≤ n → number_at 4 (take n (whole_octets id)) 8 ≡ id.node
  unfolding head_octets agi_octets
  node_at h = at_front_lem 4 n (whole_octets id) 8 (omega arith) ∙ read_of 4 id.node [] s.node

  local_at : 16 ≤ n → number_at 4 (take n (whole_octets id)) 12 ≡ id.local
  unfolding head_octets agi_octets
  local_at h = at_front_lem 4 n (whole_octets id) 12 (omega arith) ∙ read_of 4 id.local [] s.local

  group_at_lem : 17 ≤ n → get_or (take n (whole_octets id)) 16 0 ≡ id.group
  unfolding head_octets agi_octets
  group_at_lem h = get_or-take n (whole_octets id) 16 0 (omega arith)

  size-at : 18 ≤ n → get_or (take n (whole_octets id)) 17 0 ≡ id.size
  unfolding head_octets agi_octets
  size-at h = get_or-take n (whole_octets id) 17 0 (omega arith)

  -- the words, of which only the octets before the cut are left
  first-at : (k : ℕ) → n - 18 ≡ k → number_at 8 (take n (whole_octets id)) 18 ≡ kept k id.agi.first
  unfolding head_octets agi_octets kept front_of
  first-at k e = rw (← e) (cut 8 id.agi.first 18 (whole_octets id) (drop 26 (whole_octets id)) refl s.first n)

  second_at : (k : ℕ) → n - 26 ≡ k → number_at 8 (take n (whole_octets id)) 26 ≡ kept k id.agi.second
  unfolding head_octets agi_octets kept front_of
  second_at k e = rw (← e) (cut 8 id.agi.second 26 (whole_octets id) (drop 34 (whole_octets id)) refl s.second n)

  third_at : (k : ℕ) → n - 34 ≡ k → number_at 8 (take n (whole_octets id)) 34 ≡ kept k id.agi.third
  unfolding head_octets agi_octets kept front_of
  third_at k e = rw (← e) (cut 8 id.agi.third 34 (whole_octets id) (drop 42 (whole_octets id)) refl s.third n)

  fourth-at : (k : ℕ) → n - 42 ≡ k → number_at 8 (take n (whole_octets id)) 42 ≡ kept k id.agi.fourth
  unfolding head_octets agi_octets kept front_of
  fourth-at k e = rw (← e) (cut 8 id.agi.fourth 42 (whole_octets id) [] refl s.fourth n)

  -- what lies behind a cut at 16
  past-at : (k at : ℕ) → n ≤ at → number_at k (take n (whole_octets id)) at ≡ 0
  past-at k at h = at-past k (take n (whole_octets id)) at (omega (arith, length-take n (whole_octets id)))

  gone_at : (at : ℕ) → n ≤ at → get_or (take n (whole_octets id)) at 0 ≡ 0
  gone_at at h =
      let p : length (take n (whole_octets id)) ≤ at = omega (arith, length-take n (whole_octets id)) in
      get_or-eq_default (take n (whole_octets id)) 0 p

-- the octets of a MEP-ID in range read to it, with nought where nobody's field is
pub octets-back : (id : MepId) → MepSized id → mep_fits id.kind id.size ≡ true → mep_id_at (mep_octets id) 0 ≡ plain_mep id
unfolding mep_octets
octets-back id s fits = go (fits-formed id.kind id.size fits)
  where
    n : ℕ
    n = 4 + value_length id.kind id.size

    go : Formed id.kind (value_length id.kind id.size) id.size → mep_id_at (take n (whole_octets id)) 0 ≡ plain_mep id
    go (fixed h e) =
        let end : n ≡ 16 = omega arith in
        built (past-at id s n 8 18 (omega arith)) (past-at id s n 8 26 (omega arith)) (past-at id s n 8 34 (omega arith)) (past-at id s n 8 42 (omega arith))
        (global-at id s n (omega arith)) (node_at id s n (omega arith)) (local_at id s n (omega arith)) (kind_at id s n (omega arith))
        (gone_at id s n 16 (omega arith)) (gone_at id s n 17 (omega arith))
        ∙ sym (plain-fixed id h)
    go (pseudowire k e m) =
        let end : n ≡ 18 + id.size = omega arith in
        built (first-at id s n id.size (omega arith)) (second_at id s n (id.size - 8) (omega arith)) (third_at id s n (id.size - 16) (omega arith)) (fourth-at id s n (id.size - 24) (omega arith))
        (global-at id s n (omega arith)) (node_at id s n (omega arith)) (local_at id s n (omega arith)) (kind_at id s n (omega arith))
        (group_at_lem id s n (omega arith)) (size-at id s n (omega arith))
        ∙ sym (plain-pseudowire id (omega arith))

-- the octets of a MEP-ID that was read from a list which ends where it does are that list
module _ (s : List ℕ) (o : Small s) (form : Formed (number_at 2 s 0) (number_at 2 s 2) (get_or s 17 0)) (size : length s ≡ 4 + number_at 2 s 2) where
  whole_again : whole_octets (mep_id_at s 0) ≡ run 50 s 0 []
  unfolding head_octets agi_octets
  whole_again =
      let d = octets_of 8 (number_at 8 s 42) [] in
      let c = octets_of 8 (number_at 8 s 34) d in
      let b = octets_of 8 (number_at 8 s 26) c in
      let agi = octets_of 8 (number_at 8 s 18) b in
      let group = get_or s 16 0 ∷ get_or s 17 0 ∷ agi in
      let local = octets_of 4 (number_at 4 s 12) group in
      let node = octets_of 4 (number_at 4 s 8) local in
      let global = octets_of 4 (number_at 4 s 4) node in
      let words : agi ≡ run 32 s 18 [] =
      of_at 8 s 18 b o ∙ ap (run 8 s 18) (of_at 8 s 26 c o ∙ ap (run 8 s 26) (of_at 8 s 34 d o ∙ ap (run 8 s 34) (of_at 8 s 42 [] o))) in
      let value : global ≡ run 46 s 4 [] =
      of_at 4 s 4 node o
      ∙ ap (run 4 s 4)
      (of_at 4 s 8 local o
      ∙ ap (run 4 s 8) (of_at 4 s 12 group o ∙ ap (λ (l : List ℕ). run 4 s 12 (get_or s 16 0 ∷ get_or s 17 0 ∷ l)) words)) in
      of_at 2 s 0 (octets_of 2 (value_length (number_at 2 s 0) (get_or s 17 0)) global) o
      ∙ ap (run 2 s 0) (ap (λ (v : ℕ). octets_of 2 v global) (formed-length form) ∙ of_at 2 s 2 global o ∙ ap (run 2 s 2) value)

  pub octets-again : mep_octets (mep_id_at s 0) ≡ s
  unfolding mep_octets
  octets-again =
      let n = 4 + value_length (number_at 2 s 0) (get_or s 17 0) in
      let long : length s ≡ n = omega (arith, size, formed-length form) in
      let most : 50 ≡ n + (50 - n) = omega (arith, (length-within (number_at 2 s 0) (get_or s 17 0)).1) in
      ap (take n) (whole_again ∙ ap (λ (k : ℕ). run k s 0 []) most) ∙ front-run n (50 - n) s [] long

-- the numbers in the octets of a MEP-ID
module _ (id : MepId) (s : MepSized id) where
  pub mep-kind : number_at 2 (mep_octets id) 0 ≡ id.kind
  unfolding mep_octets
  mep-kind = kind_at id s (4 + value_length id.kind id.size) (omega arith)

  pub mep-len : number_at 2 (mep_octets id) 2 ≡ value_length id.kind id.size
  unfolding mep_octets
  mep-len = len-at id s (4 + value_length id.kind id.size) (omega arith)

  pub mep-agi : 14 ≤ value_length id.kind id.size → get_or (mep_octets id) 17 0 ≡ id.size
  unfolding mep_octets
  mep-agi h = size-at id s (4 + value_length id.kind id.size) (omega arith)

  pub mep-whole : length (mep_octets id) ≡ 4 + number_at 2 (mep_octets id) 2
  mep-whole = rw mep-len (mep-length id)

  -- of one in range they have a form
  pub mep-formed : mep_fits id.kind id.size ≡ true → Formed (number_at 2 (mep_octets id) 0) (number_at 2 (mep_octets id) 2) (get_or (mep_octets id) 17 0)
  mep-formed fits =
      rw (mep-kind, mep-len)
      (formed-at (get_or (mep_octets id) 17 0) (fits-formed id.kind id.size fits) (λ w. mep-agi (omega arith)))

  -- what is nobody's field is not written
  pub octets-plain : mep_fits id.kind id.size ≡ true → mep_octets (plain_mep id) ≡ mep_octets id
  octets-plain fits = ap mep_octets (sym (octets-back id s fits)) ∙ octets-again (mep_octets id) (mep-small id s) (mep-formed fits) mep-whole

-- the same MEP-ID is the same numbers where they are somebody's
same-plain : (a b : MepId) → same_mep_id a b ≡ true → plain_mep a ≡ plain_mep b
unfolding same_mep_id same_group same_agi
same-plain a b e =
    let kinds = eqb a.kind b.kind in
    let globals = eqb a.global b.global in
    let nodes = eqb a.node b.node in
    let x = and_both (kinds && globals && nodes && eqb a.local b.local) (ltb a.kind 2 || same_group a b) e in
    let y = and_both (kinds && globals && nodes) (eqb a.local b.local) x.0 in
    let z = and_both (kinds && globals) nodes y.0 in
    let w = and_both kinds globals z.0 in
    let k : a.kind ≡ b.kind = eqb-true a.kind b.kind w.0 in
    let g : a.global ≡ b.global = eqb-true a.global b.global w.1 in
    let n : a.node ≡ b.node = eqb-true a.node b.node z.1 in
    let l : a.local ≡ b.local = eqb-true a.local b.local y.1 in
    split (ltb a.kind 2)
    (λ t.
    let h : a.kind < 2 = ltb-true a.kind 2 t in
    plain-fixed a h ∙ built refl refl refl refl g n l k refl refl ∙ sym (plain-fixed b (omega arith)))
    (λ t.
    let h : 2 ≤ a.kind = ltb-false a.kind 2 t in
    let i = a.size in
    let p = and_both (eqb a.group b.group && eqb a.size b.size) (same_agi i a.agi b.agi) (rw t at x.1) in
    let q = and_both (eqb a.group b.group) (eqb a.size b.size) p.0 in
    let one = eqb (front_of i a.agi.first) (front_of i b.agi.first) in
    let two = eqb (front_of (i - 8) a.agi.second) (front_of (i - 8) b.agi.second) in
    let three = eqb (front_of (i - 16) a.agi.third) (front_of (i - 16) b.agi.third) in
    let four = eqb (front_of (i - 24) a.agi.fourth) (front_of (i - 24) b.agi.fourth) in
    let r = and_both (one && two && three) four p.1 in
    let v = and_both (one && two) three r.0 in
    let u = and_both one two v.0 in
    let size : a.size ≡ b.size = eqb-true a.size b.size q.1 in
    plain-pseudowire a h
    ∙ built
    (kept-front i a.agi.first b.agi.first (eqb-true _ _ u.0) ∙ ap (λ (x : ℕ). kept x b.agi.first) size)
    (kept-front (i - 8) a.agi.second b.agi.second (eqb-true _ _ u.1) ∙ ap (λ (x : ℕ). kept (x - 8) b.agi.second) size)
    (kept-front (i - 16) a.agi.third b.agi.third (eqb-true _ _ v.1) ∙ ap (λ (x : ℕ). kept (x - 16) b.agi.third) size)
    (kept-front (i - 24) a.agi.fourth b.agi.fourth (eqb-true _ _ r.1) ∙ ap (λ (x : ℕ). kept (x - 24) b.agi.fourth) size)
    g n l k (eqb-true a.group b.group q.0) size
    ∙ sym (plain-pseudowire b (omega arith)))

plain-same : (a b : MepId) → plain_mep a ≡ plain_mep b → same_mep_id a b ≡ true
unfolding plain_mep same_mep_id same_group same_agi
plain-same a b e =
    let k : a.kind ≡ b.kind = ap (λ (x : MepId). x.kind) e in
    let g : a.global ≡ b.global = ap (λ (x : MepId). x.global) e in
    let n : a.node ≡ b.node = ap (λ (x : MepId). x.node) e in
    let l : a.local ≡ b.local = ap (λ (x : MepId). x.local) e in
    split (ltb a.kind 2)
    (λ t. rw (eq-eqb a.kind b.kind k, eq-eqb a.global b.global g, eq-eqb a.node b.node n, eq-eqb a.local b.local l, t))
    (λ t.
    let h : 2 ≤ a.kind = ltb-false a.kind 2 t in
    let f : ◌≡◌ {A = MepId} (record { agi = kept_agi a.size a.agi; global = a.global; node = a.node; local = a.local; kind = a.kind; group = a.group; size = a.size }) (record { agi = kept_agi b.size b.agi; global = b.global; node = b.node; local = b.local; kind = b.kind; group = b.group; size = b.size }) = sym (plain-pseudowire a h) ∙ e ∙ plain-pseudowire b (omega arith) in
    let y : a.group ≡ b.group = ap (λ (x : MepId). x.group) f in
    let z : a.size ≡ b.size = ap (λ (x : MepId). x.size) f in
    let one = kept_same a.size a.agi.first b.agi.first (ap (λ (x : MepId). x.agi.first) f ∙ ap (λ (x : ℕ). kept x b.agi.first) (sym z)) in
    let two = kept_same (a.size - 8) a.agi.second b.agi.second (ap (λ (x : MepId). x.agi.second) f ∙ ap (λ (x : ℕ). kept (x - 8) b.agi.second) (sym z)) in
    let three = kept_same (a.size - 16) a.agi.third b.agi.third (ap (λ (x : MepId). x.agi.third) f ∙ ap (λ (x : ℕ). kept (x - 16) b.agi.third) (sym z)) in
    let four = kept_same (a.size - 24) a.agi.fourth b.agi.fourth (ap (λ (x : MepId). x.agi.fourth) f ∙ ap (λ (x : ℕ). kept (x - 24) b.agi.fourth) (sym z)) in
    rw (
      eq-eqb a.kind b.kind k,
      eq-eqb a.global b.global g,
      eq-eqb a.node b.node n,
      eq-eqb a.local b.local l,
      t,
      eq-eqb a.group b.group y,
      eq-eqb a.size b.size z,
      eq-eqb (front_of a.size a.agi.first) (front_of a.size b.agi.first) one,
      eq-eqb (front_of (a.size - 8) a.agi.second) (front_of (a.size - 8) b.agi.second) two,
      eq-eqb (front_of (a.size - 16) a.agi.third) (front_of (a.size - 16) b.agi.third) three,
      eq-eqb (front_of (a.size - 24) a.agi.fourth) (front_of (a.size - 24) b.agi.fourth) four,
    ))

-- two MEP-IDs in range are the same exactly when their octets are
pub same-is-octets : (a b : MepId) → MepSized a → MepSized b → mep_fits a.kind a.size ≡ true → mep_fits b.kind b.size ≡ true
    → (same_mep_id a b ≡ true → mep_octets a ≡ mep_octets b) × (mep_octets a ≡ mep_octets b → same_mep_id a b ≡ true)
same-is-octets a b s t f h = (
  (λ e. sym (octets-plain a s f) ∙ ap mep_octets (same-plain a b e) ∙ octets-plain b t h),
  (λ e. plain-same a b (sym (octets-back a s f) ∙ ap (λ (l : List ℕ). mep_id_at l 0) e ∙ octets-back b t h)),
)

-- a MEP-ID is the same as itself without what is nobody's field
pub same-as-plain : (id : MepId) → same_mep_id id (plain_mep id) ≡ true
same-as-plain id = plain-same id (plain_mep id) twice
  where
    twice : plain_mep id ≡ plain_mep (plain_mep id)
    twice =
        split (ltb id.kind 2)
        (λ t.
        let h : id.kind < 2 = ltb-true id.kind 2 t in
        let p = plain-fixed id h in
        sym (ap plain_mep p ∙ plain-fixed (record { agi = no_agi; global = id.global; node = id.node; local = id.local; kind = id.kind; group = 0; size = 0 }) h ∙ sym p))
        (λ t.
        let h : 2 ≤ id.kind = ltb-false id.kind 2 t in
        let p = plain-pseudowire id h in
        let i = id.size in
        let g = id.agi in
        let again : (n v : ℕ) → kept n (kept n v) ≡ kept n v = λ n v. kept-front n (kept n v) v (front_kept n v) in
        sym
        (ap plain_mep p
        ∙ plain-pseudowire (record { agi = kept_agi id.size id.agi; global = id.global; node = id.node; local = id.local; kind = id.kind; group = id.group; size = id.size }) h
        ∙ built (again i g.first) (again (i - 8) g.second) (again (i - 16) g.third) (again (i - 24) g.fourth) refl refl refl refl refl refl
        ∙ sym p))
