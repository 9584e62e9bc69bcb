-- Fields go to numbers and back, and what is written from numbers reads back to the same numbers.
-- Assumes nothing.
use mathlib.Core.Path.{◌≡◌, refl, sym, ap, ◌∙◌}
use mathlib.Core.Bool.{Bool, true, false, cond}
use mathlib.Core.List.{List, ◌++◌}
use Prim.Native.Nat.{ℕ, ◌^◌, ◌≤◌, ◌<◌}
use native.Mathlib.Omega.{arith}
use lib.Dec.{leb, eqb}
use borrow.Author.Tests.{eqb-true, eqb-false, leb-true}
use Rattle.octets.specs.Choice.{bit_of, need, bar}
use Rattle.octets.proofs.Chain.{bit-back, bit-again, need-passed, or_else-passed}
use Rattle.coordination.specs.declared.Dhc.{Dhc}
use Rattle.std.specs.Prelude.{Some}
use Rattle.coordination.specs.Carried.{OptionalStatus}
use Rattle.coordination.specs.Carried.{NoStatus, AStatus}
use Rattle.coordination.specs.Carried.{OptionalSwitching}
use Rattle.coordination.specs.Carried.{NoSwitching, ASwitching}
use Rattle.coordination.specs.declared.numbers.StatusNumbers.{StatusNumbers}
use Rattle.coordination.specs.declared.numbers.SwitchingNumbers.{SwitchingNumbers}
use Rattle.coordination.specs.declared.numbers.DhcNumbers.{DhcNumbers}
use Rattle.coordination.specs.declared.numbers.DhcRead.{DhcRead}
use Rattle.coordination.specs.Message.{read_dhc}
use Rattle.coordination.specs.Octets.{field_refusal, dhc_octets}
use Rattle.coordination.specs.Plain.{Three, SizedStatus, SizedSwitching, Sized}
use Rattle.coordination.specs.Numbers.{status_numbers, switching_numbers, dhc_numbers, status_from, switching_from, dhc_from, lost_numbers, status_marks, switching_marks, dhc_marks, numbers_refusal, numbers_by}
use Rattle.coordination.proofs.Verdict.{decide}
use Rattle.coordination.proofs.RoundTrip.{read-written}

-- fields in numbers, and back
status-back : (s : OptionalStatus) → status_from (status_numbers s) ≡ s
status-back NoStatus = refl
status-back (Some st) =
    rw (bit-back st.protection (bit_of st.protection) refl, bit-back st.degrade (bit_of st.degrade) refl, bit-back st.fail (bit_of st.fail) refl)

switching-back : (s : OptionalSwitching) → switching_from (switching_numbers s) ≡ s
switching-back NoSwitching = refl
switching-back (Some sw) =
    rw (bit-back sw.switch (bit_of sw.switch) refl, bit-back sw.protection (bit_of sw.protection) refl)

pub dhc-back : (d : Dhc) → dhc_from (dhc_numbers d) ≡ d
dhc-back d = rw (status-back d.status, switching-back d.switching)

-- behind a mark that is not 1 nothing is lost
lost-none : (present a b c : ℕ) → (present ≡ 1 → ⊥) → lost_numbers present a b c ≡ 0 → (a ≡ 0) × ((b ≡ 0) × (c ≡ 0))
unfolding lost_numbers
lost-none present a b c f e =
    decide (eqb present 1) (λ x. absurd (f (eqb-true _ _ x))) (λ x.
    let p = need-passed (eqb a 0) 9 _ (rw x at e) in
    let q = need-passed (eqb b 0) 9 _ p.1 in
    let r = need-passed (eqb c 0) 9 _ q.1 in
    (eqb-true _ _ p.0, (eqb-true _ _ q.0, eqb-true _ _ r.0)))

bit-of : (present x : ℕ) → present ≡ 1 → x ≤ present → bit_of (eqb x 1) ≡ x
bit-of present x e h = bit-again x (omega arith)

same-status : {a b c p q r s a' b' c' p' q' r' s' : ℕ} → a ≡ a' → b ≡ b' → c ≡ c' → p ≡ p' → q ≡ q' → r ≡ r' → s ≡ s'
    → ◌≡◌ {A = StatusNumbers} (record { destination = a; source = b; pw = c; present = p; protection = q; degrade = r; fail = s })
    (record { destination = a'; source = b'; pw = c'; present = p'; protection = q'; degrade = r'; fail = s' })
same-status x1 x2 x3 x4 x5 x6 x7 = cc

same-switching : {a b c p q r a' b' c' p' q' r' : ℕ} → a ≡ a' → b ≡ b' → c ≡ c' → p ≡ p' → q ≡ q' → r ≡ r'
    → ◌≡◌ {A = SwitchingNumbers} (record { destination = a; source = b; pw = c; present = p; switch = q; protection = r })
    (record { destination = a'; source = b'; pw = c'; present = p'; switch = q'; protection = r' })
same-switching x1 x2 x3 x4 x5 x6 = cc

-- numbers whose marks are not refused, as fields and back
status-again : (n : StatusNumbers) → status_marks n ≡ 0 → status_numbers (status_from n) ≡ n
unfolding status_marks
status-again n e =
    let p = need-passed (leb n.present 1) 9 _ e in
    let q = need-passed (leb n.protection n.present) 9 _ p.1 in
    let r = need-passed (leb n.degrade n.present) 9 _ q.1 in
    let s = need-passed (leb n.fail n.present) 9 _ r.1 in
    let p' = leb-true n.present 1 p.0 in
    let q' = leb-true n.protection n.present q.0 in
    let r' = leb-true n.degrade n.present r.0 in
    let s' = leb-true n.fail n.present s.0 in
    decide (eqb n.present 1)
    (λ x. let one : n.present ≡ 1 = eqb-true _ _ x in
    rw x (same-status refl refl refl (sym one) (bit-of n.present n.protection one q') (bit-of n.present n.degrade one r')
    (bit-of n.present n.fail one s')))
    (λ x. let none : n.present ≡ 1 → ⊥ = eqb-false _ _ x in
    let l = lost-none n.present n.destination n.source n.pw none s.1 in
    let z : n.present ≡ 0 = omega (arith, none) in
    rw x (same-status (sym l.0) (sym l.1.0) (sym l.1.1) (sym z) (omega arith) (omega arith) (omega arith)))

switching-again : (n : SwitchingNumbers) → switching_marks n ≡ 0 → switching_numbers (switching_from n) ≡ n
unfolding switching_marks
switching-again n e =
    let p = need-passed (leb n.present 1) 9 _ e in
    let q = need-passed (leb n.switch n.present) 9 _ p.1 in
    let r = need-passed (leb n.protection n.present) 9 _ q.1 in
    let p' = leb-true n.present 1 p.0 in
    let q' = leb-true n.switch n.present q.0 in
    let r' = leb-true n.protection n.present r.0 in
    decide (eqb n.present 1)
    (λ x. let one : n.present ≡ 1 = eqb-true _ _ x in
    rw x (same-switching refl refl refl (sym one) (bit-of n.present n.switch one q') (bit-of n.present n.protection one r')))
    (λ x. let none : n.present ≡ 1 → ⊥ = eqb-false _ _ x in
    let l = lost-none n.present n.destination n.source n.pw none r.1 in
    let z : n.present ≡ 0 = omega (arith, none) in
    rw x (same-switching (sym l.0) (sym l.1.0) (sym l.1.1) (sym z) (omega arith) (omega arith)))

same_numbers : {a b : ℕ} {s s' : StatusNumbers} {w w' : SwitchingNumbers} → a ≡ b → s ≡ s' → w ≡ w'
    → ◌≡◌ {A = DhcNumbers} (record { id = a; status = s; switching = w }) (record { id = b; status = s'; switching = w' })
same_numbers x y z = cc

pub numbers-back : (n : DhcNumbers) → dhc_marks n ≡ 0 → dhc_numbers (dhc_from n) ≡ n
unfolding dhc_marks
numbers-back n e =
    let p = or_else-passed (status_marks n.status) _ e in
    same_numbers refl (status-again n.status p.0) (switching-again n.switching p.1)

-- numbers that the code's types hold
sized-status : (n : StatusNumbers) → Three n.destination n.source n.pw → SizedStatus (status_from n)
sized-status n t = go (eqb n.present 1)
  where
    go : (x : Bool) → SizedStatus (cond x (AStatus n.destination n.source n.pw (eqb n.protection 1) (eqb n.degrade 1) (eqb n.fail 1)) NoStatus)
    go true = t
    go false = tt

sized-switching : (n : SwitchingNumbers) → Three n.destination n.source n.pw → SizedSwitching (switching_from n)
sized-switching n t = go (eqb n.present 1)
  where
    go : (x : Bool) → SizedSwitching (cond x (ASwitching n.destination n.source n.pw (eqb n.switch 1) (eqb n.protection 1)) NoSwitching)
    go true = t
    go false = tt

-- what is written from numbers reads back to them, whatever stands behind it
pub there_and_back : (n : DhcNumbers) (pad : List ℕ) → n.id < 256 ^ 4
    → Three n.status.destination n.status.source n.status.pw → Three n.switching.destination n.switching.source n.switching.pw
    → numbers_refusal n ≡ 0 → numbers_by (read_dhc (dhc_octets (dhc_from n) ++ pad)) ≡ record { answer = 0; dhc = n }
there_and_back n pad i s w e =
    let p = or_else-passed (dhc_marks n) _ e in
    let z : Sized (dhc_from n) = record { id = i; status = sized-status n.status s; switching = sized-switching n.switching w } in
    ap numbers_by (read-written (dhc_from n) pad z p.1) ∙ ap (λ (d : DhcNumbers). record { answer = 0; dhc = d }) (numbers-back n p.0)
