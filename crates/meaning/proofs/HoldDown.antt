-- A crossing or a followed condition holds a session down: of every story, by induction.
-- Assumes nothing.
use Prim.Native.Nat.{ℕ, ◌≤◌}
use mathlib.Core.Path.{◌≡◌, refl, sym, ap, ◌∙◌}
use mathlib.Core.Bool.{Bool, true, false, cond, not, ◌&&◌, ◌||◌}
use mathlib.Core.List.{◌∷◌, Memᴰ}
use mathlib.Core.Logic.{⊎_elim}
use lib.Dec.{eqb}
use Rattle.octets.proofs.Chain.{and_both}
use Rattle.bfd.specs.declared.Packet.{Packet}
use Rattle.fault.specs.declared.Fault.{Fault}
use Rattle.message.specs.declared.Message.{Message}
use Rattle.rules.specs.declared.Mode.{Mode}
use Rattle.rules.specs.declared.State.{State}
use Rattle.rules.specs.declared.Input.TheVariants.{Timer}
use Rattle.rules.specs.declared.Key.{Key}
use Rattle.rules.specs.declared.Received.{Received}
use Rattle.rules.specs.declared.Received.TheVariants.{CrossedMessage, HeardCc, HeardCv, FaultMessage}
use Rattle.rules.specs.Times.{within, crossing_time, lifetime}
use Rattle.rules.specs.States.{is_coming_up}
use Rattle.rules.specs.Modes.{moved_in, is_coordinated}
use Rattle.rules.specs.Conditions.{key_of, same_key, acts_on, fault_state}
use Rattle.rules.specs.Lists.{any}
use Rattle.rules.proofs.Bools.{split, both_true, or_cases, or_left, or_right, no_way}
use Rattle.rules.proofs.Ages.{within-before}
use Rattle.rules.proofs.Lists.{any_at, any-who}
use Rattle.rules.proofs.SameKeys.{same_refl}
use Rattle.rules.proofs.States.{lowered, by_timer, by_link_down, by_lock_report, by_crossed, held-lowered}
use Rattle.meaning.specs.Stories.{Story, opened, lock, unlock, got, wrote_cc, settings_of, was_to, is_crossed}
use Rattle.meaning.specs.Standing.{mode, locked, crossing, loss, stands, stands_by, followed_last, followed_by, keys_of, keys_by, followed, defect, held, after_timer, state, state_by, state_at}
use Rattle.meaning.specs.HoldDown.{ReadBy, StoryDown}

-- 1. What stands at a clock stood at every earlier one, as far as the story goes.

module _ (now later : ℕ) (h : now ≤ later) where
  crossing-before : (s : Story) → crossing later s ≡ true → crossing now s ≡ true
  unfolding crossing
  crossing-before (opened g t) e = e
  crossing-before (lock s t) e = crossing-before s e
  crossing-before (unlock s t) e = crossing-before s e
  crossing-before (got s m t) e =
      ⊎_elim
      (λ a. let x = and_both (is_crossed (was_to s m)) (within t crossing_time later) a in
      or_left (crossing now s) (both_true x.0 (within-before t crossing_time now later h x.1)))
      (λ a. or_right (is_crossed (was_to s m) && within t crossing_time now) (crossing-before s a))
      (or_cases (is_crossed (was_to s m) && within t crossing_time later) (crossing later s) e)
  crossing-before (wrote_cc s) e = crossing-before s e

  stands-by-before : (t : ℕ) (key : Key) (x : Received) {old young : Bool} → (old ≡ true → young ≡ true)
      → stands_by later t key x old ≡ true → stands_by now t key x young ≡ true
  stands-by-before t key CrossedMessage k e = k e
  stands-by-before t key (HeardCc p) k e = k e
  stands-by-before t key HeardCv k e = k e
  stands-by-before t key (FaultMessage f) k e =
      split (same_key (key_of f) key)
      (λ q. let x = and_both (not f.removed) (within t (lifetime f.refresh) later) (rw q at e) in
      rw q (both_true x.0 (within-before t (lifetime f.refresh) now later h x.1)))
      (λ q. rw q (k (rw q at e)))

  stands-before : (s : Story) (key : Key) → stands later s key ≡ true → stands now s key ≡ true
  unfolding stands
  stands-before (opened g t) key e = e
  stands-before (lock s t) key e = stands-before s key e
  stands-before (unlock s t) key e = stands-before s key e
  stands-before (got s m t) key e = stands-by-before t key (was_to s m) (stands-before s key) e
  stands-before (wrote_cc s) key e = stands-before s key e

  followed-before : (s : Story) → followed later s ≡ true → followed now s ≡ true
  unfolding followed
  followed-before s e =
      let w = any-who (λ key. stands later s key && followed_last s key) (keys_of s) e in
      let x = and_both (stands later s w.0) (followed_last s w.0) w.2 in
      any_at (λ key. stands now s key && followed_last s key) w.1 (both_true (stands-before s w.0 x.0) x.1)

  defect-before : (s : Story) → defect later s ≡ true → defect now s ≡ true
  unfolding defect
  defect-before s e =
      ⊎_elim (λ a. or_left (followed now s) (crossing-before s a)) (λ a. or_right (crossing now s) (followed-before s a))
      (or_cases (crossing later s) (followed later s) e)

-- 2. Where a message that was not crossed and did not act leaves a session with a defect, it had one before.

module _ (now : ℕ) (s : Story) (t : ℕ) where
  -- whether a session has a defect behind a message, by what that was to it
  abbrev defect_behind : Received → Bool
  defect_behind x =
      (is_crossed x && within t crossing_time now || crossing now s)
      || any (λ key. stands_by now t key x (stands now s key) && followed_by (settings_of s) key x (followed_last s key)) (keys_by x (keys_of s))

  behind-message : (m : Message) (x : Received) → was_to s m ≡ x → defect now (got s m t) ≡ true → defect_behind x ≡ true
  unfolding defect crossing followed stands followed_last keys_of
  behind-message m x e k = sym (ap defect_behind e) ∙ k

  cc-defect : (p : Packet) → defect_behind (HeardCc p) ≡ true → defect now s ≡ true
  unfolding defect followed
  cc-defect p k = k

  cv-defect : defect_behind HeardCv ≡ true → defect now s ≡ true
  unfolding defect followed
  cv-defect k = k

  -- a key of the list with the message's key in it, and not that key, was in the list
  other_key : (f : Fault) (key : Key) → same_key (key_of f) key ≡ false → Memᴰ key (keys_by (FaultMessage f) (keys_of s)) → Memᴰ key (keys_of s)
  other_key f key d m = split (any (same_key (key_of f)) (keys_of s)) (λ e. rw e at m) (λ e. tail_of (rw e at m))
    where
      tail_of : Memᴰ key (key_of f ∷ keys_of s) → Memᴰ key (keys_of s)
      tail_of (Memᴰ.head e) = no_way (ap (same_key (key_of f)) e ∙ same_refl (key_of f)) d
      tail_of (Memᴰ.tail n) = n

  -- a fault message that leaves a followed condition of its own key has acted
  fault-followed : (f : Fault) → acts_on (settings_of s) f ≡ false
      → any (λ key. stands_by now t key (FaultMessage f) (stands now s key) && followed_by (settings_of s) key (FaultMessage f) (followed_last s key)) (keys_by (FaultMessage f) (keys_of s)) ≡ true
      → followed now s ≡ true
  unfolding followed
  fault-followed f a e =
      let w = any-who (λ key. stands_by now t key (FaultMessage f) (stands now s key) && followed_by (settings_of s) key (FaultMessage f) (followed_last s key)) (keys_by (FaultMessage f) (keys_of s)) e in
      let x = and_both (stands_by now t w.0 (FaultMessage f) (stands now s w.0)) (followed_by (settings_of s) w.0 (FaultMessage f) (followed_last s w.0)) w.2 in
      split (same_key (key_of f) w.0)
      (λ q.
      let own = and_both (not f.removed) (within t (lifetime f.refresh) now) (rw q at x.0) in
      no_way (both_true own.0 (rw q at x.1)) a)
      (λ q. any_at (λ key. stands now s key && followed_last s key) (other_key f w.0 q w.1) (both_true (rw q at x.0) (rw q at x.1)))

  fault-defect : (f : Fault) → acts_on (settings_of s) f ≡ false → defect_behind (FaultMessage f) ≡ true → defect now s ≡ true
  unfolding defect
  fault-defect f a k =
      ⊎_elim (λ c. or_left (followed now s) c) (λ c. or_right (crossing now s) (fault-followed f a c))
      (or_cases (crossing now s) _ k)

-- 3. A held story is down.

timer-down : (m : Mode) (b : Bool) (x : State) → is_coordinated m ≡ true → is_coming_up x ≡ false → is_coming_up (cond b (moved_in m x Timer) x) ≡ false
timer-down m true x c e = lowered m x c by_timer
timer-down m false x c e = e

fault-down : (m : Mode) (kind : ℕ) (x : State) → is_coordinated m ≡ true → is_coming_up (fault_state m true x kind) ≡ false
fault-down m kind x c = split (eqb kind 1) (λ e. rw e (lowered m x c by_link_down)) (λ e. rw e (lowered m x c by_lock_report))

-- what a message leaves, by what it was: `before` is how the state was before it, for a session that had a defect then
message-down : (now : ℕ) (s : Story) (t : ℕ) (x : Received) (from : State) → t ≤ now → is_coordinated (mode s) ≡ true
    → (defect now s ≡ true → is_coming_up from ≡ false) → defect_behind now s t x ≡ true
    → is_coming_up (state_by (held t s) (settings_of s) x from) ≡ false
unfolding held
message-down now s t CrossedMessage from h c before k = lowered (mode s) from c by_crossed
message-down now s t (HeardCc p) from h c before k =
    rw (c, defect-before t now h s (cc-defect now s t p k)) (held-lowered (mode s) from p.state c)
message-down now s t HeardCv from h c before k = before (cv-defect now s t k)
message-down now s t (FaultMessage f) from h c before k =
    split (acts_on (settings_of s) f) (λ a. rw a (fault-down (mode s) f.kind from c)) (λ a. rw a (before (fault-defect now s t f a k)))

unlock-defect : (now : ℕ) (s : Story) (t : ℕ) → defect now (unlock s t) ≡ true → defect now s ≡ true
unfolding defect crossing followed stands followed_last keys_of
unlock-defect now s t k = k

wrote-defect : (now : ℕ) (s : Story) → defect now (wrote_cc s) ≡ true → defect now s ≡ true
unfolding defect crossing followed stands followed_last keys_of
wrote-defect now s k = k

state-down : (now : ℕ) (s : Story) → ReadBy now s → is_coordinated (mode s) ≡ true → defect now s ≡ true → is_coming_up (state s) ≡ false
unfolding ReadBy state settings_of
state-down now (opened g t) b c k = refl
state-down now (lock s t) b c k = refl
state-down now (unlock s t) b c k =
    split (locked s) (λ e. rw e) (λ e. rw e (timer-down (mode s) (loss t s) (state s) c (state-down now s b.1 c (unlock-defect now s t k))))
state-down now (got s m t) b c k =
    message-down now s t (was_to s m) (after_timer t s (state s)) b.0 c
    (λ e. timer-down (mode s) (loss t s) (state s) c (state-down now s b.1 c e))
    (behind-message now s t m (was_to s m) refl k)
state-down now (wrote_cc s) b c k = state-down now s b c (wrote-defect now s k)

-- at every clock from the story's readings on
pub held_down : (now : ℕ) (s : Story) → StoryDown now s
unfolding state_at held
held_down now s b k =
    let w = and_both (is_coordinated (mode s)) (defect now s) k in
    timer-down (mode s) (loss now s) (state s) w.0 (state-down now s b w.0 w.1)
