-- The table of records: what a call says and what it leaves. This is what the code is proved to do. For a table that calls have made from
-- an empty one nobody has to believe it: demand 3 says there what the calls say. For any other lent row it is the promise itself, and 26
-- is told in words in Disorder.
-- Assumes nothing.
use Rattle.std.specs.Prelude.{ℕ, ◌+◌, ◌-◌, ◌^◌, Bool, true, false, cond, not, ◌&&◌, ◌||◌, List, [], ◌∷◌, length, get_or, set, eqb, leb}
use Rattle.std.proofs.Math.Option.{Option, none, some}
use Rattle.octets.specs.Choice.{need, bar, or_else}
use Rattle.octets.specs.Writing.{writing}
use Rattle.message.specs.Message.{message_refusal, message_of}
use Rattle.cv.specs.declared.MepId.{MepId}
use Rattle.cv.specs.MepId.{no_agi}
use Rattle.rules.specs.declared.Settings.{Settings}
use Rattle.rules.specs.Times.{late}
use Rattle.rules.specs.Settings.{settings_fit}
use Rattle.rules.specs.Received.{received_as}
use Rattle.rules.specs.Parties.{party_of, is_of, own_most, own_number, own_discriminator}
use Rattle.rules.specs.Lists.{any, only, once}
use Rattle.rules.specs.Calls.{Act, Close, Lock, Unlock, Receive, ReportOn, WriteCc, WriteCv, Call, Tick, Open, On, Said, is_accepted, number_only, reporting, writes}
use Rattle.session.specs.declared.Session.{Session}
use Rattle.session.specs.Queries.{report_at, cc_octets_at, cv_octets_at}
use Rattle.session.specs.Steps.{new_session, locked_at, unlocked_at, reply_settled}
use Rattle.session.specs.Reception.{received_answer, received_by}
use Rattle.session.specs.Soundness.{session_sound}
use Rattle.table.specs.Places.{lowest_free, opens, has_label, place_of}

pub record Table : Type 0 where
  pub row : List Session
  pub clock : ℕ
  pub occupied : ℕ

abbrev pub open_of : Table → List Session
open_of t = opens t.occupied t.row

abbrev pub same_label : Session → Session → Bool
same_label a b = eqb a.settings.label b.settings.label

-- one party, and one discriminator
abbrev pub same_discriminator : Session → Session → Bool
same_discriminator a b = eqb (own_discriminator a.settings) (own_discriminator b.settings)

-- a group counts within its party too: both records have one, of one party and one ID
abbrev pub has_group : Session → Bool
has_group r = eqb r.group.set 1

abbrev pub own_group : Session → ℕ
own_group r = own_number r.settings.label r.group.id

abbrev pub same_group : Session → Session → Bool
same_group a b = (has_group a && has_group b) && eqb (own_group a) (own_group b)

-- how many sessions of a party are open
abbrev pub open_by : ℕ → Table → ℕ
open_by p t = length (only (λ r. is_of p r.settings.label) (open_of t))

-- every one passes
abbrev pub every : (Session → Bool) → List Session → Bool
every p rs = not (any (λ r. not (p r)) rs)

-- 26 is for a table that is not in order: 64 records, each open one sound at the clock, no two with one label, no two of one party with one
-- discriminator, of either party no more than 32, and no two groups of one party with one ID
unfoldable pub in_order : Table → Bool
in_order t =
    eqb (length t.row) 64 && every (λ r. session_sound r t.clock) (open_of t)
    && once same_label (open_of t) && once same_discriminator (open_of t)
    && leb (open_by 0 t) own_most && leb (open_by 1 t) own_most
    && once same_group (open_of t)

-- the open record with a label
unfoldable pub find : ℕ → List Session → Option Session
find l [] = none
find l (r ∷ rs) = cond (has_label l r) (some r) (find l rs)

abbrev pub is_found : Option Session → Bool
is_found none = false
is_found (some r) = true

-- a record with the label of these settings, or with their discriminator in their party
abbrev pub rivals : Settings → Session → Bool
rivals g r = eqb r.settings.label g.label || eqb (own_discriminator r.settings) (own_discriminator g)

unfoldable pub open_answer : Table → Settings → ℕ → ℕ
open_answer t g reading =
    bar (late t.clock reading) 1
    (need (settings_fit g) 10
    (bar (any (rivals g) (open_of t)) 11
    (bar (eqb (open_by (party_of g.label) t) own_most) 12 0)))

abbrev pub receive_answer : Option Session → List ℕ → ℕ → ℕ
receive_answer none m reading = 2
receive_answer (some r) m reading = or_else (message_refusal m) (received_answer r reading (received_as r.settings (message_of m)))

abbrev pub report_answer : Call → ℕ → Option Session → Said
report_answer c clock none = number_only c 2
report_answer c clock (some r) = reporting (report_at r clock)

abbrev pub write_answer : Call → (Session → List ℕ) → List ℕ → Option Session → Said
write_answer c octets buffer none = number_only c 2
write_answer c octets buffer (some r) = writes (writing 0 (octets r) buffer)

unfoldable pub act_answer : ℕ → Option Session → ℕ → Act → Said
act_answer clock o l (Close u) = number_only (On l (Close u)) (bar (late clock u) 1 (need (is_found o) 2 0))
act_answer clock o l (Lock u) = number_only (On l (Lock u)) (bar (late clock u) 1 (need (is_found o) 2 0))
act_answer clock o l (Unlock u) = number_only (On l (Unlock u)) (bar (late clock u) 1 (need (is_found o) 2 0))
act_answer clock o l (Receive m u) = number_only (On l (Receive m u)) (bar (late clock u) 1 (receive_answer o m u))
act_answer clock o l ReportOn = report_answer (On l ReportOn) clock o
act_answer clock o l (WriteCc b) = write_answer (On l (WriteCc b)) (λ r. cc_octets_at r clock) b o
act_answer clock o l (WriteCv b) = write_answer (On l (WriteCv b)) (λ r. cv_octets_at r clock) b o

unfoldable pub asked : Table → Call → Said
asked t (Tick u) = number_only (Tick u) (bar (late t.clock u) 1 0)
asked t (Open g u) = number_only (Open g u) (open_answer t g u)
asked t (On l a) = act_answer t.clock (find l (open_of t)) l a

-- 26 before all
unfoldable pub answer : Table → Call → Said
answer t c = cond (in_order t) (asked t c) (number_only c 26)

-- a MEP-ID of noughts
abbrev no_mep_id : MepId
no_mep_id = record { agi = no_agi; global = 0; node = 0; local = 0; kind = 0; group = 0; size = 0 }

-- what lies past a row's end is never stored
abbrev pub absent : Session
absent =
    new_session
    (record {
      own = no_mep_id;
      expected = no_mep_id;
      label = 0;
      discriminator = 0;
      period = 0;
      followlink = 0;
      followlock = 0;
      mode = 0;
    })
    0

-- the record of a label altered, at a clock
unfoldable pub altered : Table → ℕ → (Session → Session) → ℕ → Table
altered t l f clock =
    let place = place_of l t.occupied t.row in
    record { row = set t.row place (f (get_or t.row place absent)); clock = clock; occupied = t.occupied }

-- a new record in the lowest free place
unfoldable pub added : Table → Settings → ℕ → Table
added t g reading =
    let place = lowest_free 64 t.occupied in
    record { row = set t.row place (new_session g reading); clock = reading; occupied = t.occupied + 2 ^ place }

-- a place given back; the record lies there and is not looked at
unfoldable pub closed : Table → ℕ → ℕ → Table
closed t l reading =
    record { row = t.row; clock = reading; occupied = t.occupied - 2 ^ place_of l t.occupied t.row }

abbrev pub receiving : List ℕ → ℕ → Session → Session
receiving m reading r = received_by r reading (received_as r.settings (message_of m))

unfoldable pub act_done : Table → ℕ → Act → Table
act_done t l (Close u) = closed t l u
act_done t l (Lock u) = altered t l (λ r. locked_at r u) u
act_done t l (Unlock u) = altered t l (λ r. unlocked_at r u) u
act_done t l (Receive m u) = altered t l (receiving m u) u
act_done t l ReportOn = t
act_done t l (WriteCc b) = altered t l reply_settled t.clock
act_done t l (WriteCv b) = t

-- what an accepted call leaves
unfoldable pub done : Table → Call → Table
done t (Tick u) = record { row = t.row; clock = u; occupied = t.occupied }
done t (Open g u) = added t g u
done t (On l a) = act_done t l a

-- a refused call leaves row, clock and set as they were
unfoldable pub next : Table → Call → Table
next t c = cond (is_accepted (answer t c)) (done t c) t

-- a row made empty
unfoldable pub emptied : List Session → Table
emptied row = record { row = row; clock = 0; occupied = 0 }
