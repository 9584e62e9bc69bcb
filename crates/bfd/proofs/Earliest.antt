-- The place behind a refusal is that of the earliest field that breaks a rule ("Of several such fields the earliest is named").
-- Assumes nothing.
use mathlib.Core.Path.{◌≡◌, refl, sym, subst}
use mathlib.Core.Bool.{Bool, true, false}
use mathlib.Core.List.{List}
use mathlib.Core.Logic.{◌⊎◌, inl, inr, ⊎_elim}
use Prim.Native.Nat.{ℕ, zero, suc, ◌/◌, ◌%◌, ◌≤◌, ◌<◌, min}
use native.Mathlib.Nat.{min-eq_left}
use native.Mathlib.Omega.{arith}
use lib.Dec.{ltb, eqb}
use lib.ListN.{length, get_or}
use borrow.Author.Tests.{leb-true, ltb-true, ltb-false, eqb-true, eqb-false}
use Rattle.octets.specs.Numbers.{number_at}
use Rattle.octets.specs.Choice.{need, bar, or_else}
use Rattle.octets.proofs.Chain.{or_else-assoc}
use Rattle.gach.specs.Header.{cc_channel, channel_refusal, channel_place}
use Rattle.gach.specs.Places.{Told}
use Rattle.gach.proofs.Says.{ChannelSays}
use Rattle.gach.proofs.Places.{need-step, bar-step, told_none, told-short, told-rule, channel-told}
use Rattle.bfd.specs.Packet.{version_octet, flag_octet, length_of}
use Rattle.bfd.specs.Reception.{rule_refusal, your_refusal, body_refusal, control_refusal, end_refusal, cc_refusal, rule_place, your_place, body_place, cc_end, cc_place}
use Rattle.bfd.specs.Broken.{Broken, version, authentication, multipoint, multiplier, too_small, my, CcBroken, packet, your}
use Rattle.bfd.proofs.Says.{ControlSays}

-- no rule of a packet is broken below k, said of each rule
none_below : (k : ℕ) (m : List ℕ)
    → ((version_octet m / 32 ≡ 1 → ⊥) → k ≤ 4) → (flag_octet m / 4 % 2 ≡ 1 → k ≤ 5) → (flag_octet m % 2 ≡ 1 → k ≤ 5)
    → (get_or m 6 0 ≡ 0 → k ≤ 6) → (length_of m < 24 → k ≤ 7) → (number_at 4 m 8 ≡ 0 → k ≤ 8) → (q : ℕ) → Broken q m → k ≤ q
none_below k m v a p n l y q (version b) = v b
none_below k m v a p n l y q (authentication b) = a b
none_below k m v a p n l y q (multipoint b) = p b
none_below k m v a p n l y q (multiplier b) = n b
none_below k m v a p n l y q (too_small b) = l b
none_below k m v a p n l y q (my b) = y b

-- nor anywhere, of a message that is not refused for them
pub none-broken : (own k : ℕ) (m : List ℕ) → ControlSays own m → (q : ℕ) → Broken q m → k ≤ q
none-broken own k m s =
    none_below k m (λ b. absurd (b s.version)) (λ b. absurd (omega (arith, s.unauthenticated))) (λ b. absurd (omega (arith, s.point_to_point)))
    (λ b. absurd (s.multiplier b)) (λ b. absurd (omega (arith, s.whole))) (λ b. absurd (s.my b))

-- a bit that is not clear is set
bit-set : (n : ℕ) → n < 2 → (n ≡ 0 → ⊥) → n ≡ 1
bit-set zero h e = absurd (e refl)
bit-set (suc zero) h e = refl
bit-set (suc (suc n)) h e = absurd (omega arith)

mod-two : (n : ℕ) → n % 2 < 2
mod-two n = omega arith

-- what a test says is not what its rule says
zero_one : {n : ℕ} → n ≡ 0 → n ≡ 1 → ⊥
zero_one a b = omega arith

less-more : {n k : ℕ} → n < k → k ≤ n → ⊥
less-more a b = omega arith

-- the packet of either kind, whose rules are among the kind's, and the kind's others lie behind them
module _ (Rules : ℕ → List ℕ → Type 0) (m : List ℕ) (among : (q : ℕ) → Broken q m → Rules q m)
    (behind : (q : ℕ) → Rules q m → Broken q m ⊎ (9 ≤ q)) where
  earliest : (k : ℕ) → k ≤ 9 → Broken k m → ((q : ℕ) → Broken q m → k ≤ q) → Told Rules m 6 k
  earliest k h b first =
      told-rule Rules m 6 k (omega arith)
      (record { broken = among k b; first = λ q rule. ⊎_elim (first q) (λ far. omega arith) (behind q rule) })

  body-told : (own r p : ℕ) → ChannelSays own m → (ControlSays own m → Told Rules m r p) → Told Rules m (or_else (body_refusal m) r) (body_place m p)
  unfolding rule_refusal rule_place body_place
  body-told own r p header next =
      let T = Told Rules m in
      bar-step T (ltb (length m) 28) 2 _ _ _ _ (λ _. told-short Rules m)
      (λ long. need-step T (eqb (version_octet m / 32) 1) 5 _ _ _ _
      (λ e. earliest 4 (leb-true _ _ refl) (version (eqb-false _ _ e))
      (none_below 4 m (λ b. leb-true _ _ refl) (λ b. leb-true _ _ refl) (λ b. leb-true _ _ refl) (λ b. leb-true _ _ refl) (λ b. leb-true _ _ refl) (λ b. leb-true _ _ refl)))
      (λ e1. let v = eqb-true _ _ e1 in
      need-step T (eqb (flag_octet m / 4 % 2) 0) 5 _ _ _ _
      (λ e. earliest 5 (leb-true _ _ refl) (authentication (bit-set _ (mod-two _) (eqb-false _ _ e)))
      (none_below 5 m (λ b. absurd (b v)) (λ b. leb-true _ _ refl) (λ b. leb-true _ _ refl) (λ b. leb-true _ _ refl) (λ b. leb-true _ _ refl) (λ b. leb-true _ _ refl)))
      (λ e2. let a = eqb-true _ _ e2 in
      need-step T (eqb (flag_octet m % 2) 0) 5 _ _ _ _
      (λ e. earliest 5 (leb-true _ _ refl) (multipoint (bit-set _ (mod-two _) (eqb-false _ _ e)))
      (none_below 5 m (λ b. absurd (b v)) (λ b. leb-true _ _ refl) (λ b. leb-true _ _ refl) (λ b. leb-true _ _ refl) (λ b. leb-true _ _ refl) (λ b. leb-true _ _ refl)))
      (λ e3. let c = eqb-true _ _ e3 in
      bar-step T (eqb (get_or m 6 0) 0) 5 _ _ _ _
      (λ e. earliest 6 (leb-true _ _ refl) (multiplier (eqb-true _ _ e))
      (none_below 6 m (λ b. absurd (b v)) (λ b. absurd (zero_one a b)) (λ b. absurd (zero_one c b)) (λ b. leb-true _ _ refl) (λ b. leb-true _ _ refl) (λ b. leb-true _ _ refl)))
      (λ e4. let n = eqb-false _ _ e4 in
      bar-step T (ltb (length_of m) 24) 5 _ _ _ _
      (λ e. earliest 7 (leb-true _ _ refl) (too_small (ltb-true _ _ e))
      (none_below 7 m (λ b. absurd (b v)) (λ b. absurd (zero_one a b)) (λ b. absurd (zero_one c b)) (λ b. absurd (n b)) (λ b. leb-true _ _ refl) (λ b. leb-true _ _ refl)))
      (λ e5. let l = ltb-false _ _ e5 in
      bar-step T (eqb (number_at 4 m 8) 0) 5 _ _ _ _
      (λ e. earliest 8 (leb-true _ _ refl) (my (eqb-true _ _ e))
      (none_below 8 m (λ b. absurd (b v)) (λ b. absurd (zero_one a b)) (λ b. absurd (zero_one c b)) (λ b. absurd (n b)) (λ b. absurd (less-more b l)) (λ b. leb-true _ _ refl)))
      (λ e6. next
      (record {
        header = header;
        long = ltb-false _ _ long;
        version = v;
        unauthenticated = a;
        point_to_point = c;
        multiplier = n;
        whole = l;
        my = eqb-false _ _ e6;
      }))))))))

  pub control-told : (own r p : ℕ) → (ControlSays own m → Told Rules m r p)
      → Told Rules m (or_else (control_refusal own m) r) (channel_place own m (body_place m p))
  unfolding control_refusal
  control-told own r p next =
      subst (λ (n : ℕ). Told Rules m n (channel_place own m (body_place m p))) (sym (or_else-assoc (channel_refusal own m) (body_refusal m) r))
      (channel-told Rules m own (or_else (body_refusal m) r) (body_place m p) (λ header. body-told own r p header next))

cc-behind : (m : List ℕ) (q : ℕ) → CcBroken q m → Broken q m ⊎ (9 ≤ q)
cc-behind m q (packet b) = inl b
cc-behind m q (your s z) = inr (omega arith)

-- a Your Discriminator of 0 where no rule of the packet is broken
your-first : (m : List ℕ) → ControlSays cc_channel m → (q : ℕ) → CcBroken q m → 12 ≤ q
your-first m s q (packet b) = none-broken cc_channel 12 m s q b
your-first m s q (your a z) = omega arith

your-step : (m : List ℕ) (zeroed low : Bool) (k r p : ℕ) → (zeroed ≡ true → low ≡ false → Told CcBroken m 6 k) → Told CcBroken m r p
    → Told CcBroken m (or_else (need zeroed 0 (need low 6 0)) r) (need zeroed p (need low k p))
your-step m true true k r p here next = next
your-step m true false k r p here next = here refl refl
your-step m false low k r p here next = next

end_step : (m : List ℕ) (past : Bool) (p : ℕ) → (past ≡ true → p ≡ length m) → Told CcBroken m (bar past 3 0) p
end_step m true p e = rw (e refl) (told-short CcBroken m)
end_step m false p e = told_none CcBroken m p

-- behind the packet's rules: Your, then a Length past the end
end-told : (m : List ℕ) → ControlSays cc_channel m
    → Told CcBroken m (end_refusal m) (your_place (flag_octet m / 64) (number_at 4 m 12) (min (length m) (cc_end m)))
unfolding your_refusal your_place
end-told m s =
    your-step m (eqb (number_at 4 m 12) 0) (ltb (flag_octet m / 64) 2) _ _ _
    (λ z high. told-rule CcBroken m 6 _ (omega arith)
    (record { broken = your (ltb-false _ _ high) (eqb-true _ _ z); first = your-first m s }))
    (end_step m (ltb (length m) (cc_end m)) _ (λ e. min-eq_left (omega (arith, ltb-true (length m) (cc_end m) e))))

pub place-earliest : (m : List ℕ) → Told CcBroken m (cc_refusal m) (cc_place m)
unfolding cc_refusal cc_place
place-earliest m = control-told CcBroken m (λ q b. packet b) (cc-behind m) cc_channel (end_refusal m) _ (end-told m)
