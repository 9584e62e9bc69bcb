-- The octets of an index file: a head of 24 octets, and an entry of 252. The fields of a record stand in the order in which it is declared. Its group has no octets: a log
-- has no call on a group, and leaves no record that has one. Each part is written before the octets of rest.
-- Assumes nothing.
use Rattle.std.specs.Prelude.{ℕ, List, ◌∷◌, get_or, drop}
use Rattle.octets.specs.Numbers.{number_at, octets_of}
use Rattle.cv.specs.declared.Agi.{Agi}
use Rattle.cv.specs.declared.MepId.{MepId}
use Rattle.rules.specs.declared.Key.{Key}
use Rattle.rules.specs.declared.Settings.{Settings}
use Rattle.homing.specs.Groups.{no_group}
use Rattle.conditions.specs.declared.Condition.{Condition}
use Rattle.conditions.specs.declared.Conditions.{Conditions}
use Rattle.session.specs.declared.Peer.{Peer}
use Rattle.session.specs.declared.Session.{Session}
use Rattle.indexing.specs.declared.IndexHead.{IndexHead}
use Rattle.index_file.specs.declared.Entry.{Entry}

-- ---- written
-- 15 octets
abbrev pub key_octets : Key → List ℕ → List ℕ
key_octets k rest = octets_of 4 k.node (octets_of 4 k.interface (octets_of 4 k.global (k.kind ∷ k.present ∷ k.carrier ∷ rest)))

-- 25
abbrev pub condition_octets : Condition → List ℕ → List ℕ
condition_octets c rest = octets_of 8 c.at (key_octets c.key (c.refresh ∷ c.linkdown ∷ rest))

-- 100
abbrev pub conditions_octets : Conditions → List ℕ → List ℕ
conditions_octets cs rest = condition_octets cs.first (condition_octets cs.second (condition_octets cs.third (condition_octets cs.fourth rest)))

-- 32
abbrev pub agi_octets : Agi → List ℕ → List ℕ
agi_octets a rest = octets_of 8 a.first (octets_of 8 a.second (octets_of 8 a.third (octets_of 8 a.fourth rest)))

-- 48
abbrev pub mep_octets : MepId → List ℕ → List ℕ
mep_octets m rest =
    agi_octets m.agi (octets_of 4 m.global (octets_of 4 m.node (octets_of 4 m.local (octets_of 2 m.kind (m.group ∷ m.size ∷ rest)))))

-- 111
abbrev pub settings_octets : Settings → List ℕ → List ℕ
settings_octets g rest =
    mep_octets g.own
    (mep_octets g.expected
    (octets_of 4 g.label (octets_of 4 g.discriminator (octets_of 4 g.period (g.followlink ∷ g.followlock ∷ g.mode ∷ rest)))))

-- 7
abbrev pub peer_octets : Peer → List ℕ → List ℕ
peer_octets p rest = octets_of 4 p.remote (p.multiplier ∷ p.diagnostic ∷ p.owed ∷ rest)

-- 236
abbrev pub session_octets : Session → List ℕ → List ℕ
session_octets s rest =
    octets_of 8 s.timed
    (octets_of 8 s.crossed (conditions_octets s.conditions (settings_octets s.settings (peer_octets s.peer (s.state ∷ s.crossing ∷ rest)))))

-- the clock, the place of the next record in the log, and the label's record
abbrev pub entry_octets : Entry → List ℕ → List ℕ
entry_octets e rest = octets_of 8 e.clock (octets_of 8 e.place (session_octets e.session rest))

-- `TPX`, 16-bit version 1, three zero bytes; the octets of the log, the label, and the number of entries
abbrev pub mark_octets : List ℕ → List ℕ
mark_octets rest = 84 ∷ 80 ∷ 88 ∷ 0 ∷ 1 ∷ 0 ∷ 0 ∷ 0 ∷ rest

abbrev pub head_octets : IndexHead → List ℕ → List ℕ
head_octets h rest = mark_octets (octets_of 8 h.length (octets_of 4 h.label (octets_of 4 h.count rest)))

-- ---- read
abbrev pub key_in : List ℕ → Key
key_in s = record { node = number_at 4 s 0; interface = number_at 4 s 4; global = number_at 4 s 8; kind = get_or s 12 0; present = get_or s 13 0; carrier = get_or s 14 0 }

abbrev pub condition_in : List ℕ → Condition
condition_in s = record { at = number_at 8 s 0; key = key_in (drop 8 s); refresh = get_or s 23 0; linkdown = get_or s 24 0 }

unfoldable pub conditions_in : List ℕ → Conditions
conditions_in s = record { first = condition_in s; second = condition_in (drop 25 s); third = condition_in (drop 50 s); fourth = condition_in (drop 75 s) }

abbrev pub agi_in : List ℕ → Agi
agi_in s = record { first = number_at 8 s 0; second = number_at 8 s 8; third = number_at 8 s 16; fourth = number_at 8 s 24 }

abbrev pub mep_in : List ℕ → MepId
mep_in s =
    record {
      agi = agi_in s;
      global = number_at 4 s 32;
      node = number_at 4 s 36;
      local = number_at 4 s 40;
      kind = number_at 2 s 44;
      group = get_or s 46 0;
      size = get_or s 47 0;
    }

unfoldable pub settings_in : List ℕ → Settings
settings_in s =
    record {
      own = mep_in s;
      expected = mep_in (drop 48 s);
      label = number_at 4 s 96;
      discriminator = number_at 4 s 100;
      period = number_at 4 s 104;
      followlink = get_or s 108 0;
      followlock = get_or s 109 0;
      mode = get_or s 110 0;
    }

unfoldable pub peer_in : List ℕ → Peer
peer_in s = record { remote = number_at 4 s 0; multiplier = get_or s 4 0; diagnostic = get_or s 5 0; owed = get_or s 6 0 }

unfoldable pub session_in : List ℕ → Session
session_in s =
    record {
      timed = number_at 8 s 0;
      crossed = number_at 8 s 8;
      conditions = conditions_in (drop 16 s);
      settings = settings_in (drop 116 s);
      peer = peer_in (drop 227 s);
      state = get_or s 234 0;
      crossing = get_or s 235 0;
      group = no_group;
    }

unfoldable pub entry_in : List ℕ → Entry
entry_in s = record { clock = number_at 8 s 0; place = number_at 8 s 8; session = session_in (drop 16 s) }

abbrev pub head_in : List ℕ → IndexHead
head_in s = record { length = number_at 8 s 8; label = number_at 4 s 16; count = number_at 4 s 20 }
