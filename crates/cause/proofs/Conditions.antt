-- The cause of a condition is its key's last message since the opening.
-- Assumes nothing.
use Prim.Native.Nat.{ℕ, ◌+◌, ◌-◌, ◌*◌, ◌≤◌, ◌<◌}
use native.Mathlib.Omega.{arith}
use mathlib.Core.Path.{◌≡◌, sym, ap, ◌∙◌, subst}
use mathlib.Core.Bool.{true, false}
use mathlib.Core.Option.{none, some}
use mathlib.Core.Logic.{◌↔◌}
use Rattle.octets.specs.Choice.{accepted}
use Rattle.fault.specs.declared.Fault.{Fault}
use Rattle.message.specs.Message.{message_of}
use Rattle.rules.specs.declared.Key.{Key}
use Rattle.rules.specs.declared.Settings.{Settings}
use Rattle.rules.specs.declared.Received.TheVariants.{FaultMessage}
use Rattle.rules.specs.Received.{received_as}
use Rattle.rules.specs.Conditions.{key_of, same_key}
use Rattle.rules.specs.Calls.{Receive, On}
use Rattle.meaning.specs.Stories.{Story, settings_of}
use Rattle.meaning.specs.Standing.{stands}
use Rattle.meaning.specs.Histories.{History, clock_of, story}
use Rattle.meaning.specs.Accounts.{ReceivedSince, AccountsForCondition}
use Rattle.meaning.specs.Worlds.{Right}
use Rattle.meaning.proofs.Positions.{took-same}
use Rattle.meaning.proofs.LossPositions.{heard-one}
use Rattle.meaning.proofs.Conditions.{condition-accounted}
use Rattle.cause.specs.Marks.{Mark, if_of_key, last_of_key}
use Rattle.cause.specs.Causes.{Condition, Cause, condition_end, cause_of, fault_by, reason_by}
use Rattle.cause.specs.Reasons.{ConditionReason}
use Rattle.cause.proofs.Lasts.{Known, known}
use Rattle.cause.proofs.Sorts.{Was, was-received, received_as_lem, message-kind, is-of-key, of-key-is}
use Rattle.cause.proofs.Readings.{message-in-past}
use Rattle.cause.proofs.Asked.{same-opening, granted, by-mark}

-- two fault messages at one position have one reading and one set of fields
module _ {h : History} {l o : ℕ} {g : Settings} {p t u : ℕ} {a b : Fault} (v : ReceivedSince h l o g p t (FaultMessage a)) (w : ReceivedSince h l o g p u (FaultMessage b)) where
  one-reading : t ≡ u
  one-reading =
      let z : On l (Receive v.message.0 t) ≡ On l (Receive w.message.0 u) = took-same h p _ _ v.message.1 w.message.1 in cc z

  one-fault : a ≡ b
  one-fault = let z : FaultMessage a ≡ FaultMessage b = heard-one h l o g p t u _ _ v w in cc z

module _ (h : History) (l : ℕ) (key : Key) (s : Story) (e : story l h ≡ some s) where
  marks : Known (Was (if_of_key key)) h l (settings_of s) (last_of_key l key h)
  marks = known (message-kind (if_of_key key)) h l s e

  -- a message that accounts is one of the key since the opening
  was-of-key : {t p : ℕ} (A : AccountsForCondition h l key t p) → Was (if_of_key key) h l marks.o (settings_of s) p A.reading A.fault
  was-of-key {t} {p} A =
      same-opening (λ (o : ℕ) (g : Settings). Was (if_of_key key) h l o g p A.reading A.fault) h l A.opening marks.opening
      (was-received (if_of_key key) A.message (of-key-is key A.message.message.0 A.fault A.own))

  -- so where a condition stands there is a mark
  pub condition-marked : (t : ℕ) → stands t s key ≡ true → last_of_key l key h ≡ none → ⊥
  condition-marked t c z = let w = (condition-accounted h l s e key t).0 c in marks.nothing z w.0 _ _ (was-of-key w.1)

  module _ (k : Mark Fault) (f : last_of_key l key h ≡ some k) where
    mark-so : (received_as (settings_of s) (message_of (marks.there k f).octets) ≡ FaultMessage k.what) × (same_key (key_of k.what) key ≡ true)
    mark-so = let w = marks.there k f in is-of-key key w.octets (received_as (settings_of s) (message_of w.octets)) w.so

    mark-received : ReceivedSince h l marks.o (settings_of s) k.position k.reading (FaultMessage k.what)
    mark-received = received_as_lem (if_of_key key) (marks.there k f) mark-so.0

    -- it accounts while it is fresh, if R is clear
    pub mark-accounts : k.what.removed ≡ false → (t : ℕ) → t < condition_end k → AccountsForCondition h l key t k.position
    mark-accounts n t b =
        record {
          o = marks.o;
          settings = settings_of s;
          opened_at = marks.t;
          opening = marks.opening;
          reading = k.reading;
          fault = k.what;
          message = mark-received;
          own = mark-so.1;
          latest = λ q u g i H w. marks.latest k f q u g i (was-received (if_of_key key) H (of-key-is key H.message.0 g w));
          present = n;
          fresh = b;
        }

    -- and no other accounts
    module _ {t p : ℕ} (A : AccountsForCondition h l key t p) where
      pub mark-place : p ≡ k.position
      mark-place =
          let n : k.position < p → ⊥ = λ i. marks.latest k f p A.reading A.fault i (was-of-key A) in
          let m : p < k.position → ⊥ = λ i.
          A.latest k.position k.reading k.what i
          (same-opening (λ o g. ReceivedSince h l o g k.position k.reading (FaultMessage k.what)) h l marks.opening A.opening mark-received) mark-so.1 in
          omega arith

      same_received : ReceivedSince h l marks.o (settings_of s) k.position A.reading (FaultMessage A.fault)
      same_received =
          subst (λ (q : ℕ). ReceivedSince h l marks.o (settings_of s) q A.reading (FaultMessage A.fault)) mark-place
          (same-opening (λ o g. ReceivedSince h l o g p A.reading (FaultMessage A.fault)) h l A.opening marks.opening A.message)

      pub mark-reading : A.reading ≡ k.reading
      mark-reading = one-reading same_received mark-received

      pub mark-fault : A.fault ≡ k.what
      mark-fault = one-fault same_received mark-received

      pub mark-end : A.reading + 3500000 * A.fault.refresh ≡ condition_end k
      mark-end = λ i. mark-reading i + 3500000 * (mark-fault i).refresh

    -- a condition that stands at one clock stands exactly while its mark is fresh
    module _ (now : ℕ) (c : stands now s key ≡ true) where
      pub mark-present : k.what.removed ≡ false
      mark-present = let w = (condition-accounted h l s e key now).0 c in ap (λ (g : Fault). g.removed) (sym (mark-fault w.1)) ∙ w.1.present

      pub condition-until : (t : ℕ) → (stands t s key ≡ true) ↔ (t < condition_end k)
      condition-until t = (
        λ d. let w = (condition-accounted h l s e key t).0 d in subst (λ (n : ℕ). t < n) (mark-end w.1) w.1.fresh,
        λ b. (condition-accounted h l s e key t).1 k.position (mark-accounts mark-present t b),
      )

    pub mark-past : Right h → k.reading ≤ clock_of h
    mark-past r = message-in-past h r mark-received

-- two keys' marks at one position are one
pub same_place : (h : History) (l : ℕ) (a b : Key) (s : Story) → story l h ≡ some s → (j k : Mark Fault) → last_of_key l a h ≡ some j → last_of_key l b h ≡ some k
    → j.position ≡ k.position → j ≡ k
same_place h l a b s e j k f g i =
    let v : ReceivedSince h l (marks h l b s e).o (settings_of s) k.position j.reading (FaultMessage j.what) =
    subst (λ (q : ℕ). ReceivedSince h l (marks h l b s e).o (settings_of s) q j.reading (FaultMessage j.what)) i
    (same-opening (λ o g. ReceivedSince h l o g j.position j.reading (FaultMessage j.what)) h l (marks h l a s e).opening (marks h l b s e).opening
    (mark-received h l a s e j f)) in
    let w = mark-received h l b s e k g in
    λ n. record { position = i n; reading = one-reading v w n; what = one-fault v w n }

pub condition-cause : (h : History) → Right h → (l : ℕ) (key : Key) (c : Cause) → cause_of h l (Condition key) ≡ accepted c → ConditionReason h l key c
unfolding mark-accounts
condition-cause h r l key c e =
    let G = granted h l (Condition key) c e in
    let s : Story = G.0 in
    let f : story l h ≡ some s = G.1.told in
    let M = by-mark (clock_of h) condition_end c (last_of_key l key h) G.1.by in
    let k : Mark Fault = M.0 in
    let z : last_of_key l key h ≡ some k = M.1.found in
    let b : clock_of h < condition_end k = (condition-until h l key s f k z (clock_of h) G.1.standing (clock_of h)).0 G.1.standing in
    record {
      position = k.position;
      number = M.1.number;
      accounts = mark-accounts h l key s f k z (mark-present h l key s f k z (clock_of h) G.1.standing) (clock_of h) b;
      latest = λ q A. let i = mark-place h l key s f k z A in omega arith;
      reading = M.1.reading;
      age = let i : k.reading ≤ clock_of h = mark-past h l key s f k z r in let j : c.age ≡ clock_of h - k.reading = M.1.age in omega arith;
      end = M.1.ends;
      was = G.1.was ∙ ap (reason_by fault_by) z;
    }
