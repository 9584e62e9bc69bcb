-- Why a thing stands: the record of the call that accounts for it, the call's reading and age, and the first reading at which the thing no longer stands, of a loss the
-- first at which it stood ("The regulator's three questions").
-- Assumes nothing.
use Rattle.std.specs.Prelude.{ℕ, suc, ◌+◌, ◌-◌, Bool, cond, not, ◌&&◌, ◌||◌, List, [], ◌∷◌, ltb, eqb}
use Rattle.std.proofs.Math.Option.{Option, none, some}
use Rattle.octets.specs.Choice.{Answer, accepted, refused}
use Rattle.fault.specs.declared.Fault.{Fault}
use Rattle.rules.specs.declared.Key.{Key}
use Rattle.rules.specs.Times.{crossing_time, detection_time, lifetime}
use Rattle.rules.specs.Lists.{only}
use Rattle.meaning.specs.Stories.{Story, settings_of}
use Rattle.meaning.specs.Standing.{crossing, multiplier_of, loss, stands, keys_of, conditions}
use Rattle.meaning.specs.Histories.{History, clock_of, story}
pub use Rattle.cause.specs.declared.Cause.{Cause}
pub use Rattle.cause.specs.declared.Thing.{Thing}
pub use Rattle.cause.specs.declared.Thing.TheVariants.{Crossing, Loss, Condition, HeldBack}
use Rattle.cause.specs.declared.Timed.{Timed}
use Rattle.cause.specs.Marks.{Mark, last_crossed, last_restart, last_of_key}

-- records are counted from 1, and each is one call
abbrev pub number_at : ℕ → ℕ
number_at position = suc position

-- an alarm is held back while a loss and a condition stand
abbrev pub is_held_back : ℕ → Story → Bool
is_held_back now s = loss now s && not (eqb (conditions now s) 0)

-- whether the thing stands at a clock
abbrev pub stands_at : ℕ → Story → Thing → Bool
stands_at now s Crossing = crossing now s
stands_at now s Loss = loss now s
stands_at now s (Condition key) = stands now s key
stands_at now s HeldBack = is_held_back now s

-- the end of a crossing: 3,500,000 behind its message
abbrev pub crossing_end : Mark (List ℕ) → ℕ
crossing_end k = k.reading + crossing_time

-- a loss stood once more than period times multiplier had gone
abbrev pub loss_from : Story → Mark Timed → ℕ
loss_from s k = suc (k.reading + detection_time (settings_of s).period (multiplier_of s))

-- the end of a condition: 3,500,000 times its refresh behind its message
abbrev pub condition_end : Mark Fault → ℕ
condition_end k = k.reading + lifetime k.what.refresh

-- of two conditions the one that ends last, of equal ends the later record
abbrev pub is_before : Mark Fault → Mark Fault → Bool
is_before j k = ltb (condition_end j) (condition_end k) || eqb (condition_end j) (condition_end k) && ltb j.position k.position

abbrev pub last_to_end : Option (Mark Fault) → Option (Mark Fault) → Option (Mark Fault)
last_to_end none k = k
last_to_end (some j) none = some j
last_to_end (some j) (some k) = cond (is_before j k) (some k) (some j)

-- of a list of keys, each by its last message
unfoldable pub last_ending : ℕ → History → List Key → Option (Mark Fault)
last_ending l h [] = none
last_ending l h (key ∷ keys) = last_to_end (last_of_key l key h) (last_ending l h keys)

-- the condition that holds the alarm back: of those that stand
abbrev pub last_holding : History → ℕ → Story → Option (Mark Fault)
last_holding h l s = last_ending l h (only (stands (clock_of h) s) (keys_of s))

-- the answer by a mark: record, reading, age, end
abbrev pub cause_by : {A : Type 0} → ℕ → (Mark A → ℕ) → Option (Mark A) → Answer Cause
cause_by now end none = refused 15
cause_by now end (some k) = accepted (record { number = number_at k.position; reading = k.reading; age = now - k.reading; end = end k })

-- of a thing that stands
abbrev pub cause_in : History → ℕ → Story → Thing → Answer Cause
cause_in h l s Crossing = cause_by (clock_of h) crossing_end (last_crossed l h)
cause_in h l s Loss = cause_by (clock_of h) (loss_from s) (last_restart l h)
cause_in h l s (Condition key) = cause_by (clock_of h) condition_end (last_of_key l key h)
cause_in h l s HeldBack = cause_by (clock_of h) condition_end (last_holding h l s)

-- 2 where the label is not open, then 15 where the thing does not stand
abbrev pub cause_told : History → ℕ → Thing → Option Story → Answer Cause
cause_told h l thing none = refused 2
cause_told h l thing (some s) = cond (stands_at (clock_of h) s thing) (cause_in h l s thing) (refused 15)

unfoldable pub cause_of : History → ℕ → Thing → Answer Cause
cause_of h l thing = cause_told h l thing (story l h)

-- what the named call was: a crossed message by its octets, what a loss is timed from, a fault message
pub data Reason : Type 0 where
  crossed_by : (message : List ℕ) → Reason
  timed_by : (timed : Timed) → Reason
  fault_by : (fault : Fault) → Reason

abbrev pub reason_by : {A : Type 0} → (A → Reason) → Option (Mark A) → Option Reason
reason_by f none = none
reason_by f (some k) = some (f k.what)

-- by the same marks
abbrev pub reason_in : History → ℕ → Story → Thing → Option Reason
reason_in h l s Crossing = reason_by crossed_by (last_crossed l h)
reason_in h l s Loss = reason_by timed_by (last_restart l h)
reason_in h l s (Condition key) = reason_by fault_by (last_of_key l key h)
reason_in h l s HeldBack = reason_by fault_by (last_holding h l s)

-- none where the answer is a refusal
abbrev pub reason_told : History → ℕ → Thing → Option Story → Option Reason
reason_told h l thing none = none
reason_told h l thing (some s) = cond (stands_at (clock_of h) s thing) (reason_in h l s thing) none

unfoldable pub reason_of : History → ℕ → Thing → Option Reason
reason_of h l thing = reason_told h l thing (story l h)
