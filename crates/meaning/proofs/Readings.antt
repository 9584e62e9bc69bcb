-- Plain readings of the numbers in the rules paper's table: 10, 11 and 12 for open, 9 for a fault message, and the held-back alarm of a
-- report, each given exactly where what the paper says in words holds. 26 is read so in the crate `table`, where the records are.
-- Assumes nothing.
use Prim.Native.Nat.{ℕ, ◌≤◌}
use native.Mathlib.Omega.{arith}
use mathlib.Core.Path.{◌≡◌, refl, sym, ap, ◌∙◌}
use mathlib.Core.Bool.{Bool, true, false, not, ◌&&◌}
use mathlib.Core.Option.{Option, none, some}
use mathlib.Core.List.{List, Memᴰ}
use mathlib.Core.Logic.{◌↔◌, ⊎_elim}
use lib.Dec.{ltb, eqb}
use lib.ListN.{length}
use borrow.Author.Tests.{ltb-true, eqb-true, not-true, lt-ltb, eq-eqb, ne_eqb}
use Rattle.octets.specs.Choice.{need, bar, bit_of}
use Rattle.octets.proofs.Chain.{and_both}
use Rattle.fault.specs.declared.Fault.{Fault}
use Rattle.rules.specs.declared.Settings.{Settings}
use Rattle.rules.specs.declared.Key.{Key}
use Rattle.rules.specs.Times.{late}
use Rattle.rules.specs.Settings.{settings_fit}
use Rattle.rules.specs.Unfit.{Unfit}
use Rattle.rules.specs.Parties.{party_of, is_of}
use Rattle.rules.specs.Conditions.{key_of}
use Rattle.rules.specs.Diagnostics.{loss_alarm}
use Rattle.rules.specs.Lists.{any, only}
use Rattle.rules.proofs.Bools.{no_way, both_true, or_cases, or_left, or_right}
use Rattle.rules.proofs.Failing.{and_right}
use Rattle.rules.proofs.Unfit.{settings-unfit}
use Rattle.rules.proofs.Lists.{any_at, any-who}
use Rattle.meaning.specs.Stories.{Story, settings_of}
use Rattle.meaning.specs.Standing.{loss, stands, conditions, report}
use Rattle.meaning.specs.Histories.{History, story, labels}
use Rattle.meaning.specs.Answers.{has_discriminator, claims, rival, full, open_number, crowded}
use Rattle.meaning.proofs.Accounted.{stands-some, some-stands}

-- 10: a setting out of range, and the reading is neither below the clock nor above the greatest
chain-10 : (l f r u : Bool) → (bar l 1 (need f 10 (bar r 11 (bar u 12 0))) ≡ 10) ↔ ((l ≡ false) × (f ≡ false))
chain-10 l f r u = (to l f r u, λ w. rw (w.0, w.1))
  where
    to : (l f r u : Bool) → bar l 1 (need f 10 (bar r 11 (bar u 12 0))) ≡ 10 → (l ≡ false) × (f ≡ false)
    to true f r u e = absurd (omega arith)
    to false false r u e = (refl, refl)
    to false true true u e = absurd (omega arith)
    to false true false true e = absurd (omega arith)
    to false true false false e = absurd (omega arith)

pub reading-10 : (now : ℕ) (st : ℕ → Option Story) (ls : List ℕ) (g : Settings) (t : ℕ)
    → (open_number now st ls g t ≡ 10) ↔ ((late now t ≡ false) × Unfit g)
unfolding open_number
reading-10 now st ls g t =
    let c = chain-10 (late now t) (settings_fit g) (rival st ls g) (full g.label ls) in
    (λ e. let w = c.0 e in (w.0, (settings-unfit g).0 w.1), λ w. c.1 (w.0, (settings-unfit g).1 w.1))

-- 11: label already open, or local discriminator already open in one's own party
pub data Taken (h : History) (g : Settings) : Type 0 where
  label_taken : (l : ℕ) → Memᴰ l (labels h) → l ≡ g.label → Taken h g
  discriminator_taken : (l : ℕ) (s : Story) → Memᴰ l (labels h) → party_of l ≡ party_of g.label → story l h ≡ some s → (settings_of s).discriminator ≡ g.discriminator → Taken h g

module _ (h : History) (g : Settings) where
  taken-by : (l : ℕ) → Memᴰ l (labels h) → party_of l ≡ party_of g.label → (o : Option Story) → story l h ≡ o
      → has_discriminator g.discriminator o ≡ true → Taken h g
  taken-by l m p none q e = no_way e refl
  taken-by l m p (some s) q e = discriminator_taken l s m p q (eqb-true _ _ e)

  -- 11 of the table
  pub reading-11 : (rival (λ l. story l h) (labels h) g ≡ true) ↔ Taken h g
  unfolding rival
  reading-11 = (
    λ e.
        let w = any-who (claims (λ l. story l h) g) (labels h) e in
        let l = w.0 in
        ⊎_elim (λ q. label_taken l w.1 (eqb-true _ _ q))
        (λ q.
        let own = and_both (is_of (party_of g.label) l) (has_discriminator g.discriminator (story l h)) q in
        taken-by l w.1 (eqb-true (party_of l) (party_of g.label) own.0) (story l h) refl own.1)
        (or_cases (eqb l g.label) (is_of (party_of g.label) l && has_discriminator g.discriminator (story l h)) w.2),
    back,
  )
    where
      back : Taken h g → any (claims (λ l. story l h) g) (labels h) ≡ true
      back (label_taken l m e) = any_at (claims (λ l. story l h) g) m (or_left _ (eq-eqb l g.label e))
      back (discriminator_taken l s m p q e) =
          any_at (claims (λ l. story l h) g) m
          (or_right (eqb l g.label)
          (both_true (eq-eqb (party_of l) (party_of g.label) p) (ap (has_discriminator g.discriminator) q ∙ eq-eqb _ _ e)))

-- 12: one's own 32 are open
pub reading-12 : (h : History) (l : ℕ) → (full l (labels h) ≡ true) ↔ (length (only (is_of (party_of l)) (labels h)) ≡ 32)
reading-12 h l = (eqb-true (length (only (is_of (party_of l)) (labels h))) 32, eq-eqb (length (only (is_of (party_of l)) (labels h))) 32)

-- 9, a new condition and 4 already stand: R is clear, the key does not stand at the reading, and at least 4 conditions stand
pub reading-9 : (s : Story) (f : Fault) (t : ℕ)
    → (crowded s f t ≡ true) ↔ ((f.removed ≡ false) × (stands t s (key_of f) ≡ false) × (4 ≤ conditions t s))
reading-9 s f t = (
  λ e.
      let a = and_both (not f.removed && not (stands t s (key_of f))) (ltb 3 (conditions t s)) e in
      let b = and_both (not f.removed) (not (stands t s (key_of f))) a.0 in
      (not-true _ b.0, not-true _ b.1, omega (arith, ltb-true 3 (conditions t s) a.1)),
  λ w. both_true (both_true (ap not w.0) (ap not w.1)) (lt-ltb 3 (conditions t s) (omega (arith, w.2))),
)

-- the report: an alarm is held back exactly where there is a loss and some key stands
pub reading-held-back : (now : ℕ) (s : Story)
    → (((report now s).loss ≡ 1) × ((report now s).alarm ≡ 0)) ↔ ((loss now s ≡ true) × ((k : Key) × (stands now s k ≡ true)))
unfolding report
reading-held-back now s = (
  λ e. let lost = bit-true (loss now s) e.0 in (lost, stands-some now s (λ z. no-alarm lost z e.1)),
  λ w. (ap bit_of w.0, alarm-off (some-stands now s w.1.0 w.1.1)),
)
  where
    bit-true : (b : Bool) → bit_of b ≡ 1 → b ≡ true
    bit-true true e = refl
    bit-true false e = absurd (omega arith)

    no-alarm : loss now s ≡ true → conditions now s ≡ 0 → bit_of (loss_alarm (loss now s) (conditions now s)) ≡ 0 → ⊥
    no-alarm lost z e = let y : ◌≡◌ {A = ℕ} 1 0 = sym (ap bit_of (both_true lost (eq-eqb (conditions now s) 0 z))) ∙ e in omega arith

    alarm-off : (conditions now s ≡ 0 → ⊥) → bit_of (loss_alarm (loss now s) (conditions now s)) ≡ 0
    alarm-off n = ap bit_of (and_right (loss now s) (ne_eqb (conditions now s) 0 n))
