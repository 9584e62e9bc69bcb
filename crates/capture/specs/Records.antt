-- A capture: a header, and records one behind the other, big-endian. What each record calls.
-- Assumes nothing.
use Rattle.std.specs.Prelude.{ℕ, ◌+◌, ◌/◌, ◌%◌, Bool, true, false, not, cond, ◌&&◌, ◌||◌, List, [], ◌∷◌, length, get_or, take, drop, replicate, eqb, ltb, leb}
use Rattle.std.specs.List.{starts_with}
use Rattle.octets.specs.Numbers.{number_at}
use Rattle.cv.specs.declared.MepId.{MepId}
use Rattle.cv.specs.MepId.{no_agi}
use Rattle.rules.specs.declared.Settings.{Settings}
use Rattle.rules.specs.Calls.{Act, Close, Lock, Unlock, Receive, ReportOn, WriteCc, WriteCv, Call, Tick, Open, On}
use Rattle.capture.specs.declared.Record.{Record}
use Rattle.capture.specs.declared.Next.{Next}
use Rattle.capture.specs.declared.Next.TheVariants.{Whole, Broken, Short, End}

-- `TPO`, 16-bit version 1, three zero bytes
abbrev pub header_is : ℕ → ℕ → ℕ → ℕ → ℕ → ℕ → ℕ → Bool
header_is first second third version x y z =
    eqb first 84 && eqb second 80 && eqb third 79 && eqb version 1 && eqb x 0 && eqb y 0 && eqb z 0

unfoldable pub header_fits : List ℕ → Bool
header_fits s = leb 8 (length s) && header_is (get_or s 0 0) (get_or s 1 0) (get_or s 2 0) (number_at 2 s 3) (get_or s 5 0) (get_or s 6 0) (get_or s 7 0)

-- a mark of three letters with its version, as one run of octets at the front; `proofs/Marks.antt` says that a capture's header is such a mark
unfoldable pub is_marked : ℕ → List ℕ → Bool
is_marked letter s = starts_with eqb s (84 ∷ 80 ∷ letter ∷ 0 ∷ 1 ∷ 0 ∷ 0 ∷ 0 ∷ [])

-- of the octets from a record's first on: 64-bit time, 32-bit label, 16-bit kind, 16-bit length, and the body
unfoldable pub record_in : List ℕ → Record
record_in s = record { time = number_at 8 s 0; label = number_at 4 s 8; kind = number_at 2 s 12; size = number_at 2 s 14 }

-- what is read at a place: noughts where there are not 16 octets
abbrev pub no_record : Record
no_record = record { time = 0; label = 0; kind = 0; size = 0 }

abbrev pub record_from : List ℕ → Record
record_from s = cond (ltb (length s) 16) no_record (record_in s)

abbrev pub body_in : List ℕ → ℕ → List ℕ
body_in s size = take size (drop 16 s)

-- a kind above 8, or a body above 2,048 octets
abbrev pub is_broken : ℕ → ℕ → Bool
is_broken kind size = ltb 8 kind || ltb 2048 size

-- what stands there, of so many octets: nothing, part of a record, one that no octet to come can mend, or a whole one
abbrev pub next_of : ℕ → Record → Next
next_of octets r =
    cond (eqb octets 0) End
    (cond (ltb octets 16) Short
    (cond (is_broken r.kind r.size) Broken
    (cond (ltb octets (16 + r.size)) Short (Whole r))))

unfoldable pub next_in : List ℕ → Next
next_in s = next_of (length s) (record_in s)

abbrev pub is_whole : Next → Bool
is_whole (Whole r) = true
is_whole Broken = false
is_whole Short = false
is_whole End = false

-- the octets of a whole record
abbrev pub size_of : Next → ℕ
size_of (Whole r) = 16 + r.size
size_of Broken = 0
size_of Short = 0
size_of End = 0

-- a MEP-ID of a type, its 12 octets from a place on; there is no AGI
abbrev pub mep_in : ℕ → List ℕ → ℕ → MepId
mep_in kind b at =
    record {
      agi = no_agi;
      global = number_at 4 b at;
      node = number_at 4 b (at + 4);
      local = number_at 4 b (at + 8);
      kind = kind;
      group = 0;
      size = 0;
    }

-- an open's body has 35 octets, its marks are at most 3, and its type is not that of a pseudowire: 12 octets are no length of type 2
abbrev pub body_fits : ℕ → ℕ → ℕ → Bool
body_fits octets marks kind = eqb octets 35 && ltb marks 4 && not (eqb kind 2)

-- the settings of an open: discriminator, period, 16-bit type, own, expected, and a byte of marks (1 link-down, 2 lock). Of another body, settings that
-- do not fit: the discriminator is 0. In a capture all sessions are coordinated
unfoldable pub settings_in : ℕ → List ℕ → Settings
settings_in label b =
    record {
      own = mep_in (number_at 2 b 8) b 10;
      expected = mep_in (number_at 2 b 8) b 22;
      label = label;
      discriminator = cond (body_fits (length b) (get_or b 34 0) (number_at 2 b 8)) (number_at 4 b 0) 0;
      period = number_at 4 b 4;
      followlink = get_or b 34 0 % 2;
      followlock = get_or b 34 0 / 2 % 2;
      mode = 0;
    }

-- the act of a kind from 2 on; a CC has 28 octets to write, a CV 44
abbrev pub act_of : ℕ → List ℕ → ℕ → Act
act_of kind body time =
    cond (eqb kind 2) (Close time)
    (cond (eqb kind 3) (Lock time)
    (cond (eqb kind 4) (Unlock time)
    (cond (eqb kind 5) (Receive body time)
    (cond (eqb kind 6) ReportOn
    (cond (eqb kind 7) (WriteCc (replicate 28 0)) (WriteCv (replicate 44 0)))))))

-- 0 tick, 1 open, 2 close, 3 lock, 4 unlock, 5 receive, 6 report, 7 write CC, 8 write CV. Time is unread for 6 to 8, label for 0, bodies for all but 1 and 5
unfoldable pub call_of : Record → List ℕ → Call
call_of r body =
    cond (eqb r.kind 0) (Tick r.time)
    (cond (eqb r.kind 1) (Open (settings_in r.label body) r.time)
    (On r.label (act_of r.kind body r.time)))

unfoldable pub call_in : List ℕ → Call
call_in s = call_of (record_in s) (body_in s (record_in s).size)
