-- What an answer promises, by positions in the history and the paper's own accounts ("While a thing stands, these calls account for it").
-- Assumes nothing.
use Rattle.std.specs.Prelude.{ℕ, suc, ◌+◌, ◌*◌, ◌≤◌, ◌<◌, ◌≡◌, Bool, false, eqb}
use Rattle.std.proofs.Math.Option.{some}
use Rattle.rules.specs.declared.Key.{Key}
use Rattle.rules.specs.declared.Settings.{Settings}
use Rattle.rules.specs.Calls.{Call, Tick, Open, On}
use Rattle.meaning.specs.Histories.{History, clock_of}
use Rattle.meaning.specs.Accounts.{Restart, by_opening, by_unlock, by_cc, by_cv, AccountsForCrossing, AccountsForLoss, AccountsForCondition, AccountsForHeldBack}
use Rattle.cause.specs.declared.Timed.{Timed}
use Rattle.cause.specs.declared.Timed.TheVariants.{Opening, Unlock, Cc, Cv}
use Rattle.cause.specs.Causes.{Thing, Crossing, Loss, Condition, HeldBack, Cause, crossed_by, timed_by, fault_by, reason_of}

-- the call at position p accounts for the thing at the clock now
abbrev pub Accounts : History → ℕ → Thing → ℕ → ℕ → Type 0
Accounts h l Crossing now p = AccountsForCrossing h l now p
Accounts h l Loss now p = AccountsForLoss h l now p
Accounts h l (Condition key) now p = AccountsForCondition h l key now p
Accounts h l HeldBack now p = AccountsForHeldBack h l now p

-- for a crossing the latest that accounts for it, and its octets
pub record CrossingReason (h : History) (l : ℕ) (c : Cause) : Type 0 where
  pub position : ℕ
  pub number : c.number ≡ suc position
  pub accounts : AccountsForCrossing h l (clock_of h) position
  pub latest : (q : ℕ) → AccountsForCrossing h l (clock_of h) q → q ≤ position
  pub reading : c.reading ≡ accounts.reading
  pub age : accounts.reading + c.age ≡ clock_of h
  pub end : c.end ≡ accounts.reading + 3500000
  pub was : reason_of h l Crossing ≡ some (crossed_by accounts.message.message.0)

-- for a condition the latest too, and its fields
pub record ConditionReason (h : History) (l : ℕ) (key : Key) (c : Cause) : Type 0 where
  pub position : ℕ
  pub number : c.number ≡ suc position
  pub accounts : AccountsForCondition h l key (clock_of h) position
  pub latest : (q : ℕ) → AccountsForCondition h l key (clock_of h) q → q ≤ position
  pub reading : c.reading ≡ accounts.reading
  pub age : accounts.reading + c.age ≡ clock_of h
  pub end : c.end ≡ accounts.reading + 3500000 * accounts.fault.refresh
  pub was : reason_of h l (Condition key) ≡ some (fault_by accounts.fault)

-- which of the four a restart is
abbrev pub timed_as : {h : History} {l o : ℕ} {g : Settings} {p t : ℕ} → Restart h l o g p t → Timed
timed_as (by_opening e w) = Opening
timed_as (by_unlock w) = Unlock
timed_as (by_cc packet w) = Cc
timed_as (by_cv w) = Cv

-- for a loss the call that it is timed from, and which of the four that was
pub record LossReason (h : History) (l : ℕ) (c : Cause) : Type 0 where
  pub position : ℕ
  pub number : c.number ≡ suc position
  pub accounts : AccountsForLoss h l (clock_of h) position
  pub reading : c.reading ≡ accounts.reading
  pub age : accounts.reading + c.age ≡ clock_of h
  pub end : c.end ≡ accounts.reading + accounts.settings.period * accounts.multiplier + 1
  pub was : reason_of h l Loss ≡ some (timed_by (timed_as accounts.restart))

-- the end of the condition by which a call accounts for an alarm held back
abbrev pub held_end : {h : History} {l now p : ℕ} → AccountsForHeldBack h l now p → ℕ
held_end a = a.condition.1.reading + 3500000 * a.condition.1.fault.refresh

-- for an alarm held back the condition that ends last, of equal ends the later record
pub record HeldBackReason (h : History) (l : ℕ) (c : Cause) : Type 0 where
  pub position : ℕ
  pub number : c.number ≡ suc position
  pub accounts : AccountsForHeldBack h l (clock_of h) position
  pub last : (q : ℕ) (b : AccountsForHeldBack h l (clock_of h) q) → held_end b ≤ c.end
  pub ties : (q : ℕ) (b : AccountsForHeldBack h l (clock_of h) q) → held_end b ≡ c.end → q ≤ position
  pub reading : c.reading ≡ accounts.condition.1.reading
  pub age : accounts.condition.1.reading + c.age ≡ clock_of h
  pub end : c.end ≡ held_end accounts
  pub was : reason_of h l HeldBack ≡ some (fault_by accounts.condition.1.fault)

-- the readings, from the clock on, at which the thing stands if nothing more arrives: up to its end, a loss from its end on
abbrev pub Stands : Thing → Cause → ℕ → Type 0
Stands Crossing c t = t < c.end
Stands Loss c t = c.end ≤ t
Stands (Condition key) c t = t < c.end
Stands HeldBack c t = t < c.end

-- a call on the label: of these none comes where nothing more arrives
abbrev pub is_on : ℕ → Call → Bool
is_on l (Tick t) = false
is_on l (Open g t) = eqb g.label l
is_on l (On k b) = eqb k l
