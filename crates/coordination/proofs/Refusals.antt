-- Each refusal of a DHC message is given exactly where its words hold.
-- Assumes nothing.
use mathlib.Core.Path.{◌≡◌, refl, sym, ap, ◌∙◌}
use mathlib.Core.Bool.{Bool, true, false}
use mathlib.Core.List.{List}
use Prim.Native.Nat.{ℕ, ◌/◌, ◌%◌, ◌≤◌, ◌<◌}
use native.Mathlib.Omega.{arith}
use lib.ListN.{length, get_or}
use lib.Dec.{ltb, eqb}
use borrow.Author.Tests.{ltb-true, ltb-false, lt-ltb, le-ltb, eqb-true, eqb-false, eq-eqb, ne_eqb}
use Rattle.octets.proofs.Chain.{and_both}
use Rattle.gach.specs.Header.{channel_of, header_refusal, channel_refusal}
use Rattle.gach.proofs.Says.{ChannelSays, channel-passes}
use Rattle.coordination.specs.declared.tlv.Tlvs.{Tlvs}
use Rattle.coordination.specs.Tlvs.{repeated}
use Rattle.coordination.specs.Message.{dhc_channel, tlvs_end, tlvs_in, neither as neither_in, tlvs_refusal, refusal_with, dhc_refusal}
use Rattle.coordination.specs.Refused.{type_at, StartsAt, Known, status, switching, WrongTlv, Broken, tlv, neither, Headed, Whole, Comes, short, header, channel, short_head, short_tlvs, broken, accepted}
use Rattle.coordination.proofs.Verdict.{decide, unequal}
use Rattle.coordination.proofs.WalkEnds.{Earlier, Walked, clean, ill, all-walked}
use Rattle.coordination.proofs.Says.{passes}

-- what the TLVs come to
data Ended (m : List ℕ) (n : ℕ) : Type 0 where
  wrong : n ≡ 25 → Broken m → Ended m n
  right : n ≡ 0 → (Broken m → ⊥) → Ended m n

-- a place is kept exactly if it is not 0
status-kept : (t : Tlvs) → repeated t 1 ≡ ltb 0 t.status
unfolding repeated
status-kept t = refl

switching-kept : (t : Tlvs) → repeated t 2 ≡ ltb 0 t.switching
unfolding repeated
switching-kept t = refl

module _ (m : List ℕ) (t : Tlvs) where
  -- neither place is kept: neither TLV is there
  none-there : ((p : ℕ) → StartsAt m p → Known (type_at m p) → repeated t (type_at m p) ≡ true) → neither_in t ≡ true
      → (p : ℕ) → StartsAt m p → Known (type_at m p) → ⊥
  none-there kept a p s n = go n (kept p s n)
    where
      noughts : (eqb t.status 0 ≡ true) × (eqb t.switching 0 ≡ true)
      noughts = and_both _ _ a

      go : Known (type_at m p) → repeated t (type_at m p) ≡ true → ⊥
      go (status k) e =
          let x : ltb 0 t.status ≡ true = sym (ap (repeated t) k ∙ status-kept t) ∙ e in
          omega (arith, ltb-true 0 t.status x, eqb-true t.status 0 noughts.0)
      go (switching k) e =
          let x : ltb 0 t.switching ≡ true = sym (ap (repeated t) k ∙ switching-kept t) ∙ e in
          omega (arith, ltb-true 0 t.switching x, eqb-true t.switching 0 noughts.1)

  -- a place is kept: one is there
  one-there : ((kind : ℕ) → repeated t kind ≡ true → Earlier m kind t.at) → neither_in t ≡ false
      → ((p : ℕ) → StartsAt m p → Known (type_at m p) → ⊥) → ⊥
  one-there met a f =
      decide (eqb t.status 0)
      (λ b. decide (eqb t.switching 0)
      (λ c. unequal (rw (b, c) at a))
      (λ c. let n = eqb-false t.switching 0 c in
      let o = met 2 (switching-kept t ∙ lt-ltb 0 t.switching (omega (arith, n))) in
      f o.place o.starts (switching o.alike)))
      (λ b. let n = eqb-false t.status 0 b in
      let o = met 1 (status-kept t ∙ lt-ltb 0 t.status (omega (arith, n))) in
      f o.place o.starts (status o.alike))

  by-tlvs : Walked m t → Ended m (tlvs_refusal t)
  unfolding tlvs_refusal
  by-tlvs (ill e p s w) = wrong (rw e) (tlv p s w)
  by-tlvs (clean e sound kept met) =
      decide (neither_in t) (λ a. wrong (rw (e, a)) (neither (none-there kept a))) (λ a. right (rw (e, a)) (unbroken a))
    where
      unbroken : neither_in t ≡ false → Broken m → ⊥
      unbroken a (tlv p s w) = sound p s w
      unbroken a (neither f) = one-there met a f

module _ (m : List ℕ) where
  ended : Ended m (tlvs_refusal (tlvs_in m))
  ended = by-tlvs m (tlvs_in m) (all-walked m)

  told : (n : ℕ) → Whole m → Ended m n → Comes m n
  told n w (wrong e b) = broken e w b
  told n w (right e f) = accepted e w f

  -- the number has its words
  pub refused-in-words : Comes m (dhc_refusal m)
  unfolding dhc_refusal refusal_with channel_refusal header_refusal
  refused-in-words =
      decide (ltb (length m) 4) (λ a. rw a (short refl (ltb-true _ _ a))) (λ a. rw a (
      let long : 4 ≤ length m = ltb-false _ _ a in
      decide (eqb (get_or m 0 0 / 16) 1) (λ b. rw b (
      decide (eqb (get_or m 0 0 % 16) 0) (λ c. rw c (
      let first : get_or m 0 0 ≡ 16 = omega (arith, eqb-true (get_or m 0 0 / 16) 1 b, eqb-true (get_or m 0 0 % 16) 0 c) in
      decide (eqb (channel_of m) dhc_channel) (λ d. rw d (
      let h : Headed m = record { long = long; first = first; channel = eqb-true _ _ d } in
      decide (ltb (length m) 12) (λ e. rw e (short_head refl h (ltb-true _ _ e))) (λ e. rw e (
      decide (ltb (length m) (tlvs_end m)) (λ f. rw f (short_tlvs refl h (ltb-false _ _ e) (ltb-true _ _ f))) (λ f. rw f (
      told _ (record { headed = h; long = ltb-false _ _ e; fits = ltb-false _ _ f }) ended))))))
      (λ d. rw d (channel refl long first (eqb-false _ _ d)))))
      (λ c. rw c (header refl long (λ x. eqb-false (get_or m 0 0 % 16) 0 c (omega arith))))))
      (λ b. rw b (header refl long (λ x. eqb-false (get_or m 0 0 / 16) 1 b (omega arith))))))

  -- the header as its reader says it
  head-says : Headed m → ChannelSays dhc_channel m
  head-says h =
      record { long = h.long; nibble = omega (arith, h.first); version = omega (arith, h.first); channel = h.channel }

  whole_is : Whole m → dhc_refusal m ≡ tlvs_refusal (tlvs_in m)
  unfolding dhc_refusal
  whole_is w = passes m (tlvs_in m) (record { channel = head-says w.headed; long = w.long; fits = w.fits })

  headless : (get_or m 0 0 ≡ 16 → ⊥) → 4 ≤ length m → dhc_refusal m ≡ 4
  unfolding dhc_refusal refusal_with channel_refusal header_refusal
  headless f l =
      decide (eqb (get_or m 0 0 / 16) 1)
      (λ b. decide (eqb (get_or m 0 0 % 16) 0)
      (λ c. absurd (f (omega (arith, eqb-true (get_or m 0 0 / 16) 1 b, eqb-true (get_or m 0 0 % 16) 0 c))))
      (λ c. rw (le-ltb (length m) 4 l, b, c)))
      (λ b. rw (le-ltb (length m) 4 l, b))

  -- and where the words hold, it is that number
  pub words-decide : (n : ℕ) → Comes m n → dhc_refusal m ≡ n
  unfolding dhc_refusal refusal_with channel_refusal header_refusal
  words-decide n (short e h) = rw (lt-ltb (length m) 4 h) (sym e)
  words-decide n (header e l f) = headless f l ∙ sym e
  words-decide n (channel e l g f) =
      rw (le-ltb (length m) 4 l, g, ne_eqb (channel_of m) dhc_channel f) (sym e)
  words-decide n (short_head e h l) = rw (channel-passes dhc_channel m (head-says h), lt-ltb (length m) 12 l) (sym e)
  words-decide n (short_tlvs e h l k) =
      rw (channel-passes dhc_channel m (head-says h), le-ltb (length m) 12 l, lt-ltb (length m) (tlvs_end m) k) (sym e)
  words-decide n (broken e w b) = go ended
    where
      go : Ended m (tlvs_refusal (tlvs_in m)) → dhc_refusal m ≡ n
      go (wrong x y) = whole_is w ∙ x ∙ sym e
      go (right x f) = absurd (f b)
  words-decide n (accepted e w f) = go ended
    where
      go : Ended m (tlvs_refusal (tlvs_in m)) → dhc_refusal m ≡ n
      go (wrong x y) = absurd (f y)
      go (right x g) = whole_is w ∙ x ∙ sym e
