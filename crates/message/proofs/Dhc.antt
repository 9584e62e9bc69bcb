-- A DHC message is refused, and never 5; any other message is refused as one of the three kinds.
-- Assumes nothing.
use mathlib.Core.Path.{◌≡◌, sym, ◌∙◌}
use mathlib.Core.List.{List}
use Prim.Native.Nat.{ℕ, zero, suc}
use native.Mathlib.Omega.{arith}
use lib.Dec.{eqb-suc-zero}
use borrow.Author.Tests.{eq-eqb, ne_eqb}
use Rattle.octets.specs.Choice.{or_else}
use Rattle.octets.proofs.Chain.{or_else-passed}
use Rattle.gach.specs.Header.{channel_of}
use Rattle.coordination.specs.Message.{dhc_channel, dhc_refusal}
use Rattle.coordination.specs.Refused.{Comes, short, header, channel, short_head, short_tlvs, broken, accepted}
use Rattle.coordination.proofs.Refusals.{refused-in-words}
use Rattle.message.specs.Message.{three_refusal, unheard_dhc, message_refusal}

either-5 : (n : ℕ) → (n ≡ 5 → ⊥) → or_else n 24 ≡ 5 → ⊥
either-5 zero f e = omega arith
either-5 (suc n) f e = f (rw (eqb-suc-zero n) at e)

module _ (m : List ℕ) where
  pub other-refused : (channel_of m ≡ dhc_channel → ⊥) → message_refusal m ≡ three_refusal m
  unfolding message_refusal
  other-refused other = rw (ne_eqb _ _ other)

  module _ (dhc : channel_of m ≡ dhc_channel) where
    -- by its reader's number, or by 24 where the reader has none
    pub dhc-number : message_refusal m ≡ or_else (dhc_refusal m) 24
    unfolding message_refusal unheard_dhc
    dhc-number = rw (eq-eqb _ _ dhc)

    pub dhc-refused : message_refusal m ≡ 0 → ⊥
    dhc-refused e = omega (arith, (or_else-passed (dhc_refusal m) 24 (sym dhc-number ∙ e)).1)

    -- the reader's 5 is for another channel
    readers-5 : (n : ℕ) → Comes m n → n ≡ 5 → ⊥
    readers-5 n (short three l) e = omega arith
    readers-5 n (header four l f) e = omega arith
    readers-5 n (channel five l g other) e = other dhc
    readers-5 n (short_head three h l) e = omega arith
    readers-5 n (short_tlvs three h l k) e = omega arith
    readers-5 n (broken last w b) e = omega arith
    readers-5 n (accepted nought w f) e = omega arith

    pub dhc-never-5 : message_refusal m ≡ 5 → ⊥
    dhc-never-5 e = either-5 (dhc_refusal m) (readers-5 (dhc_refusal m) (refused-in-words m)) (sym dhc-number ∙ e)
