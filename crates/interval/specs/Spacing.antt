-- How late, exactly, over a history: the errors of successive heard CCs of a label within one opening and one stretch unlocked, and their five numbers.
-- Assumes nothing.
use Rattle.std.specs.Prelude.{ℕ, cond, List, [], ◌∷◌, ◌++◌, eqb, ℤ}
use Rattle.std.proofs.Math.Option.{Option, none, some, map}
use Rattle.message.specs.Message.{message_of}
use Rattle.rules.specs.declared.Settings.{Settings}
use Rattle.rules.specs.declared.Received.{Received}
use Rattle.rules.specs.declared.Received.TheVariants.{CrossedMessage, HeardCc, HeardCv, FaultMessage}
use Rattle.rules.specs.Received.{received_as}
use Rattle.rules.specs.Calls.{Act, Close, Lock, Unlock, Receive, ReportOn, WriteCc, WriteCv, Call, Tick, Open, On, is_accepted}
use Rattle.meaning.specs.Stories.{Story, settings_of}
use Rattle.meaning.specs.Histories.{History, start, after, story}
use Rattle.account.specs.Figures.{Spaced}
use Rattle.account.specs.Figures.{error_of, exact, finished}
pub use Rattle.interval.specs.declared.Event.{Event}
pub use Rattle.interval.specs.declared.Event.TheVariants.{Nothing, Forgotten, Heard}

-- a heard CC; a CV, a crossed message and a fault message break nothing
abbrev pub if_heard_cc : ℕ → ℕ → Received → Event
if_heard_cc t period CrossedMessage = Nothing
if_heard_cc t period (HeardCc p) = Heard t period
if_heard_cc t period HeardCv = Nothing
if_heard_cc t period (FaultMessage f) = Nothing

-- an accepted act on the label: a close ends the opening, a lock the stretch unlocked; an unlock breaks nothing. The period is the opening's
abbrev pub act_event : Settings → Act → Event
act_event g (Close t) = Forgotten
act_event g (Lock t) = Forgotten
act_event g (Unlock t) = Nothing
act_event g (Receive m t) = if_heard_cc t g.period (received_as g (message_of m))
act_event g ReportOn = Nothing
act_event g (WriteCc b) = Nothing
act_event g (WriteCv b) = Nothing

abbrev pub act_event_in : Option Settings → Act → Event
act_event_in none b = Nothing
act_event_in (some g) b = act_event g b

-- an accepted call, by the label's settings before it: an open of the label begins anew
abbrev pub call_event : ℕ → Option Settings → Call → Event
call_event l o (Tick t) = Nothing
call_event l o (Open g t) = cond (eqb g.label l) Forgotten Nothing
call_event l o (On m b) = cond (eqb m l) (act_event_in o b) Nothing

-- the last heard CC then
abbrev pub last_by : Event → Option ℕ → Option ℕ
last_by Nothing last = last
last_by Forgotten last = none
last_by (Heard t period) last = some t

-- a pair is a heard CC with one before it
abbrev pub errors_by : Event → Option ℕ → List ℤ
errors_by Nothing last = []
errors_by Forgotten last = []
errors_by (Heard t period) none = []
errors_by (Heard t period) (some earlier) = error_of t earlier period ∷ []

-- the settings under which the label is open
abbrev pub open_with : ℕ → History → Option Settings
open_with l h = map settings_of (story l h)

-- the reading of the label's last heard CC within its opening and stretch unlocked
unfoldable pub last_of : ℕ → History → Option ℕ
last_of l start = none
last_of l (after h c a) = cond (is_accepted a) (last_by (call_event l (open_with l h) c) (last_of l h)) (last_of l h)

-- the errors of all pairs, the latest last
unfoldable pub errors : ℕ → History → List ℤ
errors l start = []
errors l (after h c a) = cond (is_accepted a) (errors l h ++ errors_by (call_event l (open_with l h) c) (last_of l h)) (errors l h)

-- the five numbers, or 21
unfoldable pub spacing_of : ℕ → History → Spaced
spacing_of l h = finished (exact (errors l h))
