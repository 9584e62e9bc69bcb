-- The rules paper's edges a to k: after these calls, the last one says this.
-- Assumes nothing.
use Rattle.std.specs.Prelude.{ℕ, ◌≡◌, false, List, [], ◌∷◌, replicate}
use Rattle.bfd.specs.declared.Packet.{Packet}
use Rattle.bfd.specs.Octets.{cc_octets}
use Rattle.cv.specs.declared.MepId.{MepId}
use Rattle.cv.specs.MepId.{no_agi}
use Rattle.cv.specs.Cv.{cv_octets}
use Rattle.fault.specs.Identifiers.{NoIfId}
use Rattle.fault.specs.Identifiers.{NoGlobalId}
use Rattle.fault.specs.Octets.{fault_octets}
use Rattle.rules.specs.declared.Settings.{Settings}
use Rattle.rules.specs.Calls.{Receive, ReportOn, WriteCc, Call, Tick, Open, On, Said, number_only, no_report, reporting}
use Rattle.meaning.specs.Histories.{History, start, after}
use Rattle.meaning.specs.Answers.{says}

pub record Edge : Type 0 where
  pub calls : List Call
  pub last : Call
  pub said : Said

-- a list of calls, answered as the paper has it
unfoldable pub told-all : History → List Call → History
told-all h [] = h
told-all h (c ∷ cs) = told-all (after h c (says h c)) cs

unfoldable pub last_said : Edge → Said
last_said e = says (told-all start e.calls) e.last

-- every edge of a list holds
unfoldable pub Hold : List Edge → Type 0
Hold [] = Unit {0}
Hold (e ∷ es) = (last_said e ≡ e.said) × Hold es

-- discriminator 17, period 1,000,000, nothing followed
abbrev mep : ℕ → MepId
mep local = record { agi = no_agi; global = 7; node = 8; local = local; kind = 1; group = 0; size = 0 }

abbrev pub settings : Settings
settings = record { own = mep 1; expected = mep 2; label = 100; discriminator = 17; period = 1000000; followlink = 0; followlock = 0; mode = 0 }

abbrev pub opening : Call
opening = Open settings 0

abbrev pub seven : ℕ → ℕ → ℕ → ℕ → ℕ → Said
seven state crossing loss alarm conditions =
    reporting (record { state = state; crossing = crossing; loss = loss; alarm = alarm; rdi = 0; blocked = crossing; conditions = conditions })

-- a CC or CV of the far end, discriminator 9, multiplier 3, in a state, to the discriminator `your`
abbrev packet_in : ℕ → ℕ → Packet
packet_in state your =
    record {
      diagnostic = 0;
      state = state;
      poll = false;
      fin = false;
      independent = false;
      demand = false;
      multiplier = 3;
      my = 9;
      your = your;
      transmit = 1000000;
      receive = 1000000;
      echo = 0;
    }

abbrev pub cc : ℕ → ℕ → ℕ → Call
cc state your t = On 100 (Receive (cc_octets (packet_in state your)) t)

-- edge i's CC is refused by its reader, so its octets are written out: state UP, Your 0
abbrev cc_up_your0 : Call
cc_up_your0 =
    On 100
    (Receive
    (0x10 ∷ 0 ∷ 0 ∷ 0x22 ∷ 0x20 ∷ 0xc0 ∷ 3 ∷ 24 ∷ 0 ∷ 0 ∷ 0 ∷ 9 ∷ 0 ∷ 0 ∷ 0 ∷ 0
    ∷ 0 ∷ 0x0f ∷ 0x42 ∷ 0x40 ∷ 0 ∷ 0x0f ∷ 0x42 ∷ 0x40 ∷ 0 ∷ 0 ∷ 0 ∷ 0 ∷ []) 0)

abbrev cv : ℕ → ℕ → ℕ → ℕ → Call
cv state your local t = On 100 (Receive (cv_octets (packet_in state your) (mep local)) t)

abbrev ais : ℕ → Call
ais t = On 100 (Receive (fault_octets (record { kind = 1; linkdown = false; removed = false; refresh = 1; interface = NoIfId; global = NoGlobalId })) t)

abbrev pub report_now : Call
report_now = On 100 ReportOn

-- UP at 0, last heard at 0 with multiplier 3
abbrev up : List Call → List Call
up more = opening ∷ cc 1 0 0 ∷ cc 2 17 0 ∷ more

unfoldable pub edges : List Edge
edges =
    -- a, b: no loss at 3,000,000; loss at 3,000,001
    record { calls = opening ∷ Tick 3000000 ∷ []; last = report_now; said = seven 1 0 0 0 0 }
    ∷ record { calls = opening ∷ Tick 3000001 ∷ []; last = report_now; said = seven 1 0 1 1 0 }
    -- c, d: crossed CV at 0: blocked at 3,499,999, free at 3,500,000
    ∷ record { calls = opening ∷ cv 1 0 3 0 ∷ Tick 3499999 ∷ []; last = report_now; said = seven 1 1 1 1 0 }
    ∷ record { calls = opening ∷ cv 1 0 3 0 ∷ Tick 3500000 ∷ []; last = report_now; said = seven 1 0 1 1 0 }
    -- e, f: AIS, refresh 1, at 0: at 3,499,999 loss and no alarm; at 3,500,000 loss and alarm
    ∷ record { calls = opening ∷ ais 0 ∷ Tick 3499999 ∷ []; last = report_now; said = seven 1 0 1 0 1 }
    ∷ record { calls = opening ∷ ais 0 ∷ Tick 3500000 ∷ []; last = report_now; said = seven 1 0 1 1 0 }
    -- g, h: UP, last heard at 0 with multiplier 3: a CC of state DOWN at 3,000,001 gives INIT, at 3,000,000 DOWN
    ∷ record { calls = up []; last = report_now; said = seven 3 0 0 0 0 }
    ∷ record { calls = up (cc 1 17 3000001 ∷ []); last = report_now; said = seven 2 0 0 0 0 }
    ∷ record { calls = up (cc 1 17 3000000 ∷ []); last = report_now; said = seven 1 0 0 0 0 }
    -- i: a CC with Your 0 is refused, 6, if it says UP; accepted if it says DOWN, and heard: the session goes to INIT
    ∷ record { calls = opening ∷ []; last = cc_up_your0; said = number_only cc_up_your0 6 }
    ∷ record { calls = opening ∷ []; last = cc 1 0 0; said = number_only (cc 1 0 0) 0 }
    ∷ record { calls = opening ∷ cc 1 0 0 ∷ []; last = report_now; said = seven 2 0 0 0 0 }
    -- j: a CV with Your 0 and state UP is taken, and restarts the detection time
    ∷ record { calls = opening ∷ []; last = cv 3 0 2 1; said = number_only (cv 3 0 2 1) 0 }
    ∷ record { calls = opening ∷ cv 3 0 2 1 ∷ Tick 3000001 ∷ []; last = report_now; said = seven 1 0 0 0 0 }
    -- k: the CC written at 0
    ∷ record {
      calls = opening ∷ [];
      last = On 100 (WriteCc (replicate 28 0));
      said =
          record {
            number = 0;
            report = no_report;
            buffer =
                0x10 ∷ 0x00 ∷ 0x00 ∷ 0x22 ∷ 0x20 ∷ 0x40 ∷ 0x03 ∷ 0x18 ∷ 0x00 ∷ 0x00 ∷ 0x00 ∷ 0x11 ∷ 0x00 ∷ 0x00 ∷ 0x00 ∷ 0x00
                ∷ 0x00 ∷ 0x0f ∷ 0x42 ∷ 0x40 ∷ 0x00 ∷ 0x0f ∷ 0x42 ∷ 0x40 ∷ 0x00 ∷ 0x00 ∷ 0x00 ∷ 0x00 ∷ [];
          };
    }
    ∷ []
