-- What each accepted call does to a session's record. A record is settled (TIMER, where there is a loss) before its own call acts, and a loss is
-- looked for in its group where TIMER is given.
-- Assumes nothing.
use Rattle.std.specs.Prelude.{ℕ, cond, ◌||◌, eqb}
use Rattle.octets.specs.Choice.{bit_of}
use Rattle.bfd.specs.declared.Packet.{Packet}
use Rattle.fault.specs.declared.Fault.{Fault}
use Rattle.rules.specs.declared.Settings.{Settings}
use Rattle.rules.specs.declared.State.TheVariants.{AdminDown, Down}
use Rattle.rules.specs.declared.Input.TheVariants.{Crossed}
use Rattle.rules.specs.States.{heard_input, stored}
use Rattle.rules.specs.Modes.{mode_in, moved_in}
use Rattle.rules.specs.Conditions.{acts_on, fault_state}
use Rattle.homing.specs.Groups.{no_group, crossed_by}
use Rattle.conditions.specs.Taking.{no_conditions, taken_in}
use Rattle.session.specs.declared.Session.{Session}
use Rattle.session.specs.Queries.{locked_in, held_at, state_at, group_at}

-- a new session is DOWN, timed from its opening, with multiplier 3; it has no group, whatever lay in its place
unfoldable pub new_session : Settings → ℕ → Session
new_session settings reading =
    record {
      timed = reading;
      crossed = 0;
      conditions = no_conditions;
      settings = settings;
      peer = record { remote = 0; multiplier = 3; diagnostic = 0; owed = 0 };
      state = stored Down;
      crossing = 0;
      group = no_group;
    }

-- TIMER
unfoldable pub settled : Session → ℕ → Session
settled s reading =
    record {
      timed = s.timed;
      crossed = s.crossed;
      conditions = s.conditions;
      settings = s.settings;
      peer = s.peer;
      state = stored (state_at s reading);
      crossing = s.crossing;
      group = group_at s reading;
    }

-- lock: ADMIN DOWN; the remote diagnostic and any reply owed are forgotten. A locked session has no loss: it is looked for before
unfoldable pub locked_at : Session → ℕ → Session
locked_at s reading =
    record {
      timed = s.timed;
      crossed = s.crossed;
      conditions = s.conditions;
      settings = s.settings;
      peer = record { remote = s.peer.remote; multiplier = s.peer.multiplier; diagnostic = 0; owed = 0 };
      state = stored AdminDown;
      crossing = s.crossing;
      group = group_at s reading;
    }

-- unlock: a locked session is DOWN, with multiplier 3, timed from the reading; another is settled
unfoldable pub unlocked_at : Session → ℕ → Session
unlocked_at s reading =
    record {
      timed = cond (locked_in s) reading s.timed;
      crossed = s.crossed;
      conditions = s.conditions;
      settings = s.settings;
      peer = record {
        remote = s.peer.remote;
        multiplier = cond (locked_in s) 3 s.peer.multiplier;
        diagnostic = s.peer.diagnostic;
        owed = s.peer.owed;
      };
      state = stored (cond (locked_in s) Down (state_at s reading));
      crossing = s.crossing;
      group = group_at s reading;
    }

-- a heard CC restarts the detection time, gives multiplier, remote discriminator and diagnostic, a reply owed if P is set, and its state as
-- input, or TIMER in its place where the session is held down at the reading
unfoldable pub heard_cc : Session → ℕ → Packet → Session
heard_cc s reading p =
    record {
      timed = reading;
      crossed = s.crossed;
      conditions = s.conditions;
      settings = s.settings;
      peer = record {
        remote = p.my;
        multiplier = p.multiplier;
        diagnostic = p.diagnostic;
        owed = bit_of (p.poll || eqb s.peer.owed 1);
      };
      state = stored (moved_in (mode_in s.settings) (state_at s reading) (heard_input (held_at s reading) p.state));
      crossing = s.crossing;
      group = group_at s reading;
    }

-- a heard CV restarts the detection time
unfoldable pub heard_cv : Session → ℕ → Session
heard_cv s reading =
    record {
      timed = reading;
      crossed = s.crossed;
      conditions = s.conditions;
      settings = s.settings;
      peer = s.peer;
      state = stored (state_at s reading);
      crossing = s.crossing;
      group = group_at s reading;
    }

-- a crossed message: INIT becomes DOWN, and UP of all but a source; the crossing is dated, and the detection time goes on; a
-- working PE makes its PW standby
unfoldable pub crossed_at : Session → ℕ → Session
crossed_at s reading =
    record {
      timed = s.timed;
      crossed = reading;
      conditions = s.conditions;
      settings = s.settings;
      peer = s.peer;
      state = stored (moved_in (mode_in s.settings) (state_at s reading) Crossed);
      crossing = 1;
      group = crossed_by (group_at s reading);
    }

-- an accepted fault message: LDI and LKR act when they arrive
unfoldable pub fault_taken : Session → ℕ → Fault → Session
fault_taken s reading f =
    record {
      timed = s.timed;
      crossed = s.crossed;
      conditions = taken_in s.conditions f reading;
      settings = s.settings;
      peer = s.peer;
      state = stored (fault_state (mode_in s.settings) (acts_on s.settings f) (state_at s reading) f.kind);
      crossing = s.crossing;
      group = group_at s reading;
    }

-- writing a CC settles the reply owed
unfoldable pub reply_settled : Session → Session
reply_settled s =
    record {
      timed = s.timed;
      crossed = s.crossed;
      conditions = s.conditions;
      settings = s.settings;
      peer = record { remote = s.peer.remote; multiplier = s.peer.multiplier; diagnostic = s.peer.diagnostic; owed = 0 };
      state = s.state;
      crossing = s.crossing;
      group = s.group;
    }
