-- What stands at the clock `now`, worked out from a story ("How long each thing stands", "How a session moves").
-- Assumes nothing.
use Rattle.std.specs.Prelude.{ℕ, Bool, true, false, cond, not, ◌&&◌, ◌||◌, List, [], ◌∷◌, length}
use Rattle.bfd.specs.declared.Packet.{Packet}
use Rattle.bfd.specs.Octets.{cc_octets}
use Rattle.cv.specs.Cv.{cv_octets}
use Rattle.rules.specs.declared.Mode.{Mode}
use Rattle.rules.specs.declared.Settings.{Settings}
use Rattle.rules.specs.declared.State.{State}
use Rattle.rules.specs.declared.State.TheVariants.{AdminDown, Down}
use Rattle.rules.specs.declared.Input.TheVariants.{Timer, Crossed}
use Rattle.rules.specs.declared.Key.{Key}
use Rattle.rules.specs.declared.Report.{Report}
use Rattle.rules.specs.declared.Received.{Received}
use Rattle.rules.specs.declared.Received.TheVariants.{CrossedMessage, HeardCc, HeardCv, FaultMessage}
use Rattle.rules.specs.Times.{past, within, detection_time, crossing_time, lifetime}
use Rattle.rules.specs.States.{heard_input, down_by_neighbor}
use Rattle.rules.specs.Modes.{mode_in, moved_in, is_source_up, is_coordinated, required_interval}
use Rattle.rules.specs.Conditions.{key_of, same_key, follows, acts_on, fault_state}
use Rattle.rules.specs.Diagnostics.{remote_defect, diagnostic_of, report_of, packet_out}
use Rattle.rules.specs.Lists.{any, only}
use Rattle.meaning.specs.Stories.{Story, opened, lock, unlock, got, wrote_cc, settings_of, was_to, is_crossed, is_heard}

-- the mode that the opening gave
abbrev pub mode : Story → Mode
mode s = mode_in (settings_of s)

-- locked when the last accepted lock or unlock since opening is a lock
unfoldable pub locked : Story → Bool
locked (opened g t) = false
locked (lock s t) = true
locked (unlock s t) = false
locked (got s m t) = locked s
locked (wrote_cc s) = locked s

-- crossing: since opening, a crossed message was accepted less than 3,500,000 before now
unfoldable pub crossing : ℕ → Story → Bool
crossing now (opened g t) = false
crossing now (lock s t) = crossing now s
crossing now (unlock s t) = crossing now s
crossing now (got s m t) = is_crossed (was_to s m) && within t crossing_time now || crossing now s
crossing now (wrote_cc s) = crossing now s

-- the latest of opening, real unlock and last heard message. An unlock is real when accepted while locked
unfoldable pub timed_from : Story → ℕ
timed_from (opened g t) = t
timed_from (lock s t) = timed_from s
timed_from (unlock s t) = cond (locked s) t (timed_from s)
timed_from (got s m t) = cond (is_heard (was_to s m)) t (timed_from s)
timed_from (wrote_cc s) = timed_from s

abbrev pub multiplier_by : Received → ℕ → ℕ
multiplier_by CrossedMessage old = old
multiplier_by (HeardCc p) old = p.multiplier
multiplier_by HeardCv old = old
multiplier_by (FaultMessage f) old = old

-- the multiplier of the last heard CC since opening or real unlock, else 3
unfoldable pub multiplier_of : Story → ℕ
multiplier_of (opened g t) = 3
multiplier_of (lock s t) = multiplier_of s
multiplier_of (unlock s t) = cond (locked s) 3 (multiplier_of s)
multiplier_of (got s m t) = multiplier_by (was_to s m) (multiplier_of s)
multiplier_of (wrote_cc s) = multiplier_of s

-- loss, of a session that its calls left in the state `from`: not locked, no source in UP, and more than period times multiplier has gone since
unfoldable pub loss_in : ℕ → Story → State → Bool
loss_in now s from =
    not (locked s) && (not (is_source_up (mode s) from) && past (timed_from s) (detection_time (settings_of s).period (multiplier_of s)) now)

abbrev pub diagnostic_by : Received → ℕ → ℕ
diagnostic_by CrossedMessage old = old
diagnostic_by (HeardCc p) old = p.diagnostic
diagnostic_by HeardCv old = old
diagnostic_by (FaultMessage f) old = old

-- the diagnostic of the last heard CC since opening or real unlock, else 0; a lock forgets it
unfoldable pub remote_diagnostic : Story → ℕ
remote_diagnostic (opened g t) = 0
remote_diagnostic (lock s t) = 0
remote_diagnostic (unlock s t) = remote_diagnostic s
remote_diagnostic (got s m t) = diagnostic_by (was_to s m) (remote_diagnostic s)
remote_diagnostic (wrote_cc s) = remote_diagnostic s

abbrev pub remote_by : Received → ℕ → ℕ
remote_by CrossedMessage old = old
remote_by (HeardCc p) old = p.my
remote_by HeardCv old = old
remote_by (FaultMessage f) old = old

-- My of the last heard CC since opening, 0 before any, kept through a lock
unfoldable pub remote_of : Story → ℕ
remote_of (opened g t) = 0
remote_of (lock s t) = remote_of s
remote_of (unlock s t) = remote_of s
remote_of (got s m t) = remote_by (was_to s m) (remote_of s)
remote_of (wrote_cc s) = remote_of s

abbrev pub owed_by : Received → Bool → Bool
owed_by CrossedMessage old = old
owed_by (HeardCc p) old = p.poll || old
owed_by HeardCv old = old
owed_by (FaultMessage f) old = old

-- a reply is owed from a heard CC with P to the next written CC; a lock forgets it
unfoldable pub owed : Story → Bool
owed (opened g t) = false
owed (lock s t) = false
owed (unlock s t) = owed s
owed (got s m t) = owed_by (was_to s m) (owed s)
owed (wrote_cc s) = false

abbrev pub stands_by : ℕ → ℕ → Key → Received → Bool → Bool
stands_by now t key CrossedMessage old = old
stands_by now t key (HeardCc p) old = old
stands_by now t key HeardCv old = old
stands_by now t key (FaultMessage f) old = cond (same_key (key_of f) key) (not f.removed && within t (lifetime f.refresh) now) old

-- condition: the last accepted fault message of the key since opening has R clear and came less than 3,500,000 times its refresh before now
unfoldable pub stands : ℕ → Story → Key → Bool
stands now (opened g t) key = false
stands now (lock s t) key = stands now s key
stands now (unlock s t) key = stands now s key
stands now (got s m t) key = stands_by now t key (was_to s m) (stands now s key)
stands now (wrote_cc s) key = stands now s key

abbrev pub followed_by : Settings → Key → Received → Bool → Bool
followed_by g key CrossedMessage old = old
followed_by g key (HeardCc p) old = old
followed_by g key HeardCv old = old
followed_by g key (FaultMessage f) old = cond (same_key (key_of f) key) (follows g f.kind f.linkdown) old

-- the last accepted fault message of the key is one that the session follows
unfoldable pub followed_last : Story → Key → Bool
followed_last (opened g t) key = false
followed_last (lock s t) key = followed_last s key
followed_last (unlock s t) key = followed_last s key
followed_last (got s m t) key = followed_by (settings_of s) key (was_to s m) (followed_last s key)
followed_last (wrote_cc s) key = followed_last s key

abbrev pub keys_by : Received → List Key → List Key
keys_by CrossedMessage ks = ks
keys_by (HeardCc p) ks = ks
keys_by HeardCv ks = ks
keys_by (FaultMessage f) ks = cond (any (same_key (key_of f)) ks) ks (key_of f ∷ ks)

-- the keys of the accepted fault messages since opening, each once
unfoldable pub keys_of : Story → List Key
keys_of (opened g t) = []
keys_of (lock s t) = keys_of s
keys_of (unlock s t) = keys_of s
keys_of (got s m t) = keys_by (was_to s m) (keys_of s)
keys_of (wrote_cc s) = keys_of s

-- the number of conditions: of those keys, the ones that stand
unfoldable pub conditions : ℕ → Story → ℕ
conditions now s = length (only (stands now s) (keys_of s))

-- a condition stands that the session follows
unfoldable pub followed : ℕ → Story → Bool
followed now s = any (λ key. stands now s key && followed_last s key) (keys_of s)

-- a crossing stands, or a condition that the session follows
unfoldable pub defect : ℕ → Story → Bool
defect now s = crossing now s || followed now s

-- held down: a coordinated session while one of these stands
unfoldable pub held : ℕ → Story → Bool
held now s = is_coordinated (mode s) && defect now s

-- TIMER, where there is a loss
abbrev pub after_timer : ℕ → Story → State → State
after_timer now s from = cond (loss_in now s from) (moved_in (mode s) from Timer) from

abbrev pub state_by : Bool → Settings → Received → State → State
state_by hold g CrossedMessage from = moved_in (mode_in g) from Crossed
state_by hold g (HeardCc p) from = moved_in (mode_in g) from (heard_input hold p.state)
state_by hold g HeardCv from = from
state_by hold g (FaultMessage f) from = fault_state (mode_in g) (acts_on g f) from f.kind

-- the state after the story's last call. Before a call acts, TIMER is given where there is a loss at its reading; whether a message finds
-- the session held down is judged at its reading, on the story before it
unfoldable pub state : Story → State
state (opened g t) = Down
state (lock s t) = AdminDown
state (unlock s t) = cond (locked s) Down (after_timer t s (state s))
state (got s m t) = state_by (held t s) (settings_of s) (was_to s m) (after_timer t s (state s))
state (wrote_cc s) = state s

-- loss at the clock
abbrev pub loss : ℕ → Story → Bool
loss now s = loss_in now s (state s)

-- the state at the clock, TIMER given
unfoldable pub state_at : ℕ → Story → State
state_at now s = after_timer now s (state s)

-- the report, the diagnostic and the messages of a session at the clock
unfoldable pub report : ℕ → Story → Report
report now s =
    report_of (state_at now s) (crossing now s) (loss now s) (remote_defect (locked s) (loss now s) (remote_diagnostic s)) (conditions now s)

unfoldable pub diagnostic : ℕ → Story → ℕ
diagnostic now s = diagnostic_of (locked s) (crossing now s) (followed now s) (loss now s) (down_by_neighbor (state_at now s))

unfoldable pub packet : ℕ → Story → Bool → Packet
packet now s fin =
    packet_out (diagnostic now s) (state_at now s) fin (settings_of s).discriminator (remote_of s) (settings_of s).period
    (required_interval (mode s) (settings_of s).period)

unfoldable pub cc_written : ℕ → Story → List ℕ
cc_written now s = cc_octets (packet now s (owed s))

unfoldable pub cv_written : ℕ → Story → List ℕ
cv_written now s = cv_octets (packet now s false) (settings_of s).own
