-- What a report shows is what accepted calls account for.
-- Assumes nothing.
use Prim.Native.Nat.{ℕ, ◌+◌, ◌<◌}
use native.Mathlib.Omega.{arith}
use mathlib.Core.Path.{◌≡◌, refl, sym, ap, ◌∙◌}
use mathlib.Core.Bool.{Bool, true, false, ◌&&◌}
use mathlib.Core.Option.{Option, none, some}
use mathlib.Core.Logic.{◌↔◌, inl, inr}
use mathlib.Core.List.{List, [], ◌∷◌}
use lib.ListN.{length}
use borrow.Author.Tests.{eqb-true, eq-eqb, ne_eqb}
use Rattle.octets.specs.Choice.{bit_of}
use Rattle.octets.proofs.Chain.{and_both, bar-passed, or_else-passed}
use Rattle.message.specs.Message.{message_refusal, message_of}
use Rattle.message.proofs.Read.{read-in-range}
use Rattle.rules.specs.declared.Key.{Key}
use Rattle.rules.specs.Times.{late}
use Rattle.rules.specs.Conditions.{same_key}
use Rattle.rules.specs.Diagnostics.{loss_alarm}
use Rattle.rules.specs.Lists.{any, only}
use Rattle.rules.specs.Calls.{Receive, On, is_accepted}
use Rattle.rules.proofs.Bools.{split, both_true, true-false, same_test}
use Rattle.rules.proofs.Lists.{any-who, none_only, same_length, any-only, once-only}
use Rattle.rules.proofs.SameKeys.{keys-alike}
use Rattle.meaning.specs.Stories.{Story}
use Rattle.meaning.specs.Standing.{crossing, loss, stands, keys_of, conditions, report}
use Rattle.meaning.specs.Histories.{History, start, after, clock_of, story}
use Rattle.meaning.specs.Answers.{receive_number, act_said, says_of, says}
use Rattle.meaning.specs.Accounts.{Took, AccountsForCrossing, AccountsForLoss, AccountsForCondition, AccountedKeys, AccountsForHeldBack}
use Rattle.meaning.proofs.Crossings.{crossing-accounted}
use Rattle.meaning.proofs.Conditions.{condition-accounted}
use Rattle.meaning.proofs.Losses.{loss-accounted}
use Rattle.meaning.specs.Worlds.{Right}
use Rattle.meaning.proofs.Places.{keys-once, stands-has, stands_alike}
use Rattle.meaning.proofs.Fits.{told-in-range}

bit-true : (b : Bool) → bit_of b ≡ 1 → b ≡ true
bit-true true e = refl
bit-true false e = absurd (omega arith)

true-bit : (b : Bool) → b ≡ true → bit_of b ≡ 1
true-bit b e = ap bit_of e

module _ (now : ℕ) (s : Story) where
  -- some key stands exactly when the number of conditions is not 0
  pub stands-some : (conditions now s ≡ 0 → ⊥) → (key : Key) × (stands now s key ≡ true)
  unfolding conditions
  stands-some z =
      split (any (stands now s) (keys_of s))
      (λ e. let w = any-who (stands now s) (keys_of s) e in (w.0, w.2))
      (λ e. absurd (z (ap length (none_only (stands now s) (keys_of s) e))))

  -- a key stands exactly when it is like one of the keys that stand
  pub keys-standing : (key : Key) → any (same_key key) (only (stands now s) (keys_of s)) ≡ stands now s key
  keys-standing key =
      any-only same_key keys-alike (stands now s) (λ a b e. stands_alike a b e now s) key (keys_of s)
      ∙ same_test (any (same_key key) (keys_of s) && stands now s key) (stands now s key)
      (λ e. (and_both (any (same_key key) (keys_of s)) (stands now s key) e).1) (λ e. both_true (stands-has now s key e) e)

  pub some-stands : (key : Key) → stands now s key ≡ true → conditions now s ≡ 0 → ⊥
  unfolding conditions
  some-stands key e z = none-there (only (stands now s) (keys_of s)) z (keys-standing key ∙ e)
    where
      none-there : (ks : List Key) → length ks ≡ 0 → any (same_key key) ks ≡ true → ⊥
      none-there [] n w = true-false w (unfold any in refl)
      none-there (k ∷ ks) n w = omega arith

module _ (h : History) (l : ℕ) (s : Story) (o : story l h ≡ some s) (now : ℕ) where
  pub shown-crossing : ((report now s).crossing ≡ 1) ↔ ((p : ℕ) × AccountsForCrossing h l now p)
  unfolding report
  shown-crossing =
      let a = crossing-accounted h l s o now in
      (λ e. a.0 (bit-true (crossing now s) e), λ w. true-bit (crossing now s) (a.1 w.0 w.1))

  pub shown-loss : ((report now s).loss ≡ 1) ↔ ((p : ℕ) × AccountsForLoss h l now p)
  unfolding report
  shown-loss =
      let a = loss-accounted h l s o now in
      (λ e. a.0 (bit-true (loss now s) e), λ w. true-bit (loss now s) (a.1 w.0 w.1))

  pub shown-held-back : (((report now s).loss ≡ 1) × ((report now s).alarm ≡ 0)) ↔ ((p : ℕ) × AccountsForHeldBack h l now p)
  unfolding report
  shown-held-back = (
    λ e.
        let lost : loss now s ≡ true = bit-true (loss now s) e.0 in
        let k = stands-some now s (λ z. no-alarm lost z e.1) in
        let w = (condition-accounted h l s o k.0 now).0 k.1 in
        (w.0, record { loss = (loss-accounted h l s o now).0 lost; condition = (k.0, w.1) }),
    λ w.
        let lost : loss now s ≡ true = (loss-accounted h l s o now).1 w.1.loss.0 w.1.loss.1 in
        let up : stands now s w.1.condition.0 ≡ true = (condition-accounted h l s o w.1.condition.0 now).1 w.0 w.1.condition.1 in
        (true-bit (loss now s) lost, alarm-off lost (some-stands now s w.1.condition.0 up)),
  )
    where
      no-alarm : loss now s ≡ true → conditions now s ≡ 0 → bit_of (loss_alarm (loss now s) (conditions now s)) ≡ 0 → ⊥
      no-alarm a z b =
          let c : bit_of (loss_alarm (loss now s) (conditions now s)) ≡ 1 = true-bit _ (both_true a (eq-eqb (conditions now s) 0 z)) in
          omega arith

      alarm-off : loss now s ≡ true → (conditions now s ≡ 0 → ⊥) → bit_of (loss_alarm (loss now s) (conditions now s)) ≡ 0
      alarm-off a z = ap (λ (b : Bool). bit_of b) (ap (λ (b : Bool). loss now s && b) (ne_eqb (conditions now s) 0 z) ∙ ap (λ (b : Bool). b && false) a)

  -- the keys that stand are those accounted for, and the report shows their number
  pub shown-conditions : (keys : List Key) × AccountedKeys h l now keys × ((report now s).conditions ≡ length keys)
  unfolding report conditions
  shown-conditions = (
    only (stands now s) (keys_of s),
    record {
      each-once = once-only same_key keys-alike (stands now s) (λ a b e. stands_alike a b e now s) (keys_of s) (keys-once s);
      exactly = λ key.
          let a = condition-accounted h l s o key now in
          (λ e. a.0 (sym (keys-standing now s key) ∙ e), λ w. keys-standing now s key ∙ a.1 w.0 w.1);
    },
    refl,
  )

-- any list of the keys accounted for has one length
pub one-count : (h : History) (l now : ℕ) (xs ys : List Key) → AccountedKeys h l now xs → AccountedKeys h l now ys → length xs ≡ length ys
one-count h l now xs ys a b =
    same_length same_key keys-alike xs ys a.each-once b.each-once
    (λ key.
    same_test (any (same_key key) xs) (any (same_key key) ys) (λ e. (b.exactly key).1 ((a.exactly key).0 e)) (λ e. (a.exactly key).1 ((b.exactly key).0 e)))

-- a message that was accepted was not refused by its reader
read-there : (o : Option Story) (m : List ℕ) (t : ℕ) → receive_number o m t ≡ 0 → message_refusal m ≡ 0
read-there none m t e = absurd (omega arith)
read-there (some s) m t e = (or_else-passed (message_refusal m) _ e).0

accepted-read : (h : History) → Right h → (p l : ℕ) (m : List ℕ) (t : ℕ) → Took h p (On l (Receive m t)) → message_refusal m ≡ 0
unfolding Right Took says says_of act_said
accepted-read start r p l m t w = absurd w
accepted-read (after h d a) r p l m t (inl w) =
    let y : is_accepted (says h (On l (Receive m t))) ≡ true = ap is_accepted (ap (says h) w.1 ∙ sym r.1) ∙ w.2 in
    read-there (story l h) m t (bar-passed (late (clock_of h) t) 0 (receive_number (story l h) m t) (eqb-true _ 0 y)).1
accepted-read (after h d a) r p l m t (inr w) = accepted-read h r.0 p l m t w

-- so what accounts for a condition is less than 70 seconds old
pub condition-fresh : (h : History) → Right h → (l now p : ℕ) (key : Key) (a : AccountsForCondition h l key now p) → now < a.reading + 70000000
condition-fresh h r l now p key a =
    let m = a.message.message in
    let g = told-in-range (message_of m.0) a.settings a.fault m.2 (read-in-range m.0 (accepted-read h r p l m.0 a.reading m.1)) in
    omega (arith, a.fresh, g.3)
