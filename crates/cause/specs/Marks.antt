-- The last call on a label, since its opening, that was a given kind of call to its session: where it stands in the history, its reading, and what it was. Worked out
-- call by call, from whether the call was accepted, the story before it and the number of calls before it.
-- Assumes nothing.
use Rattle.std.specs.Prelude.{ℕ, cond, List, eqb}
use Rattle.std.proofs.Math.Option.{Option, none, some}
use Rattle.fault.specs.declared.Fault.{Fault}
use Rattle.message.specs.Message.{message_of}
use Rattle.rules.specs.declared.Key.{Key}
use Rattle.rules.specs.declared.Received.{Received}
use Rattle.rules.specs.declared.Received.TheVariants.{CrossedMessage, HeardCc, HeardCv, FaultMessage}
use Rattle.rules.specs.Conditions.{key_of, same_key}
use Rattle.rules.specs.Calls.{Act, Close, Lock, Unlock, Receive, ReportOn, WriteCc, WriteCv, Call, Tick, Open, On, is_accepted}
use Rattle.meaning.specs.Stories.{Story, was_to}
use Rattle.meaning.specs.Standing.{locked}
use Rattle.meaning.specs.Histories.{History, start, after, act_reading, clock_of, story}
use Rattle.meaning.specs.Accounts.{size}
use Rattle.cause.specs.declared.Timed.{Timed}
use Rattle.cause.specs.declared.Timed.TheVariants.{Opening as ByOpening, Unlock as ByUnlock, Cc as ByCc, Cv as ByCv}

-- a call's position, counted from 0, the refused ones too; its reading; and what it was
pub record Mark (A : Type 0) : Type 0 where
  pub position : ℕ
  pub reading : ℕ
  pub what : A

module _ {A : Type 0} where
  -- a new mark where the call was of the kind, else the old one
  abbrev pub marked : Option A → ℕ → ℕ → Option (Mark A) → Option (Mark A)
  marked none n t old = old
  marked (some x) n t old = some (record { position = n; reading = t; what = x })

  -- what an act was to the session, nothing where there is none
  abbrev pub acted : (Story → Act → Option A) → Option Story → Act → Option A
  acted pick none b = none
  acted pick (some s) b = pick s b

  -- after an accepted call at position n: an open of the label begins anew, an act on it is held to the story before it
  abbrev pub marked_by : Option A → (Story → Act → Option A) → ℕ → ℕ → ℕ → Option Story → Call → Option (Mark A) → Option (Mark A)
  marked_by first pick l n now o (Tick t) old = old
  marked_by first pick l n now o (Open g t) old = cond (eqb g.label l) (marked first n t none) old
  marked_by first pick l n now o (On m b) old = cond (eqb m l) (marked (acted pick o b) n (act_reading b now) old) old

  -- the last call of the kind since the opening: `first` is what the opening itself was, `pick` what an act was
  unfoldable pub last_mark : Option A → (Story → Act → Option A) → ℕ → History → Option (Mark A)
  last_mark first pick l start = none
  last_mark first pick l (after h c a) =
      cond (is_accepted a) (marked_by first pick l (size h) (clock_of h) (story l h) c (last_mark first pick l h)) (last_mark first pick l h)

-- what a message was, from its octets and what it was to the session
abbrev pub received : {A : Type 0} → (List ℕ → Received → Option A) → Story → Act → Option A
received f s (Close t) = none
received f s (Lock t) = none
received f s (Unlock t) = none
received f s (Receive m t) = f m (was_to s (message_of m))
received f s ReportOn = none
received f s (WriteCc b) = none
received f s (WriteCv b) = none

-- a crossed message, its octets as they were received
abbrev pub if_crossed : List ℕ → Received → Option (List ℕ)
if_crossed m CrossedMessage = some m
if_crossed m (HeardCc p) = none
if_crossed m HeardCv = none
if_crossed m (FaultMessage f) = none

-- a heard message, by its kind
abbrev pub if_heard : List ℕ → Received → Option Timed
if_heard m CrossedMessage = none
if_heard m (HeardCc p) = some ByCc
if_heard m HeardCv = some ByCv
if_heard m (FaultMessage f) = none

-- a fault message of a key, its fields
abbrev pub if_of_key : Key → List ℕ → Received → Option Fault
if_of_key key m CrossedMessage = none
if_of_key key m (HeardCc p) = none
if_of_key key m HeardCv = none
if_of_key key m (FaultMessage f) = cond (same_key (key_of f) key) (some f) none

-- what restarts the detection time, the opening apart: an unlock while locked, a heard message
abbrev pub restarts : Story → Act → Option Timed
restarts s (Close t) = none
restarts s (Lock t) = none
restarts s (Unlock t) = cond (locked s) (some ByUnlock) none
restarts s (Receive m t) = if_heard m (was_to s (message_of m))
restarts s ReportOn = none
restarts s (WriteCc b) = none
restarts s (WriteCv b) = none

-- the last crossed message since the opening
abbrev pub last_crossed : ℕ → History → Option (Mark (List ℕ))
last_crossed l h = last_mark none (received if_crossed) l h

-- the last of opening, real unlock and heard message
abbrev pub last_restart : ℕ → History → Option (Mark Timed)
last_restart l h = last_mark (some ByOpening) restarts l h

-- the last fault message of the key since the opening
abbrev pub last_of_key : ℕ → Key → History → Option (Mark Fault)
last_of_key l key h = last_mark none (received (if_of_key key)) l h
