-- Worked groups: 100 the service PW and 101 the DNI-PW, both opened at 0 with a period of 1,000,000; group 7 of party 0, peer 55, set at 0. Each line is a list of
-- commands and what asking tells after it, or what its last command is answered.
-- Assumes nothing.
use Rattle.std.specs.Prelude.{ℕ, Bool, true, false, List, [], ◌∷◌, ◌++◌}
use Rattle.bfd.specs.Octets.{cc_octets}
use Rattle.cv.specs.declared.MepId.{MepId}
use Rattle.cv.specs.MepId.{no_agi}
use Rattle.coordination.specs.Carried.{AStatus}
use Rattle.coordination.specs.Carried.{ASwitching}
use Rattle.coordination.specs.Octets.{dhc_octets}
use Rattle.rules.specs.Calls.{Close, Lock, Receive, Tick, Open, On}
use Rattle.grouping.specs.Commands.{Command, Ordinary, SetGroup, SetAc, ReturnGroup, Coordinate}
use Rattle.grouping.specs.Asking.{Told, refused_with}
use Rattle.switching.specs.Groups.{Past, start, after, tells, says_to, number_of}

-- commands, each answered from those before it
unfoldable pub answered_all : Past → List Command → Past
answered_all h [] = h
answered_all h (c ∷ cs) = answered_all (after h c (says_to h c)) cs

-- what asking of group 7 tells party 0 after commands, and what one more command is answered
unfoldable pub told_after : List Command → Told
told_after cs = tells 0 7 (answered_all start cs)

unfoldable pub number_after : List Command × Command → ℕ
number_after line = number_of (answered_all start line.0) line.1

abbrev mep : ℕ → MepId
mep local = record { agi = no_agi; global = 7; node = 8; local = local; kind = 1; group = 0; size = 0 }

abbrev opens : ℕ → ℕ → ℕ → Command
opens label discriminator t =
    Ordinary
    (Open (record { own = mep 1; expected = mep 2; label = label; discriminator = discriminator; period = 1000000; followlink = 0; followlock = 0; mode = 0 }) t)

-- a CC: the label, the sender's state and the discriminator that it takes for the session's
abbrev cc : ℕ → ℕ → ℕ → ℕ → Command
cc label state your t =
    Ordinary
    (On label
    (Receive
    (cc_octets
    (record {
      diagnostic = 0;
      state = state;
      poll = false;
      fin = false;
      independent = false;
      demand = false;
      multiplier = 3;
      my = 9;
      your = your;
      transmit = 1000000;
      receive = 1000000;
      echo = 0;
    }))
    t))

abbrev sets : ℕ → ℕ → ℕ → ℕ → Command
sets id service dni t = SetGroup 0 (record { id = id; peer = 55; service = service; dni = dni; role = 0 }) t

-- a DHC message of group 7: its sender, S and F
abbrev dhc : ℕ → ℕ → Bool → Bool → ℕ → Command
dhc label source switch fail t =
    Coordinate label (dhc_octets (record { id = 7; status = AStatus 1 source 2 true true fail; switching = ASwitching 1 source 2 switch true })) t

-- a working PE, and a protection PE
abbrev working : List Command
working = opens 100 1 0 ∷ opens 101 2 0 ∷ sets 7 100 101 0 ∷ []

abbrev protecting : List Command
protecting = opens 100 1 0 ∷ opens 101 2 0 ∷ SetGroup 0 (record { id = 7; peer = 55; service = 100; dni = 101; role = 1 }) 0 ∷ []

-- PW, AC, forwarding
abbrev gives : ℕ → ℕ → ℕ → Told
gives pw ac way = record { number = 0; group = record { pw = pw; ac = ac; forwarding = way } }

-- a crossed CC at 10, CCs heard after it, and return at the last reading at which the crossing stands
abbrev crossed_once : List Command
crossed_once = working ++ cc 100 1 5 10 ∷ cc 100 1 1 1000000 ∷ cc 100 1 1 3000000 ∷ ReturnGroup 0 7 3500009 ∷ []

unfoldable pub courses : List (List Command × Told)
courses =
    (working, gives 1 0 0)
    ∷ (working ++ cc 101 2 2 1 ∷ [], gives 1 0 2)
    ∷ (working ++ SetAc 0 7 1 1 ∷ [], gives 1 1 1)
    -- a loss is looked for before a CC ends it, before a lock acts, and by a tick on no label
    ∷ (working ++ cc 100 1 1 3000000 ∷ [], gives 1 0 0)
    ∷ (working ++ cc 100 1 1 3000001 ∷ [], gives 0 0 0)
    ∷ (working ++ Ordinary (On 100 (Lock 3000000)) ∷ Ordinary (Tick 3000001) ∷ [], gives 1 0 0)
    ∷ (working ++ Ordinary (On 100 (Lock 3000001)) ∷ [], gives 0 0 0)
    ∷ (working ++ Ordinary (Tick 3000001) ∷ cc 100 1 1 3000001 ∷ [], gives 0 0 0)
    -- by no refused call
    ∷ (working ++ Ordinary (On 102 (Lock 3000001)) ∷ cc 100 1 1 3000000 ∷ [], gives 1 0 0)
    -- return while a crossing stands, when it has lapsed, and a crossing that lapses alone
    ∷ (crossed_once, gives 0 0 0)
    ∷ (crossed_once ++ Ordinary (Tick 3500010) ∷ [], gives 0 0 0)
    ∷ (crossed_once ++ ReturnGroup 0 7 3500010 ∷ [], gives 1 0 0)
    -- DHC messages to a working PE: S, F alone, and from another than the peer
    ∷ (working ++ dhc 101 55 true false 1 ∷ [], gives 0 0 0)
    ∷ (working ++ dhc 101 55 false true 1 ∷ [], gives 1 0 0)
    ∷ (working ++ dhc 101 56 true true 1 ∷ [], gives 1 0 0)
    -- a protection PE: standby until F or S, a loss of its own does nothing, return
    ∷ (protecting ++ SetAc 0 7 1 1 ∷ cc 101 2 2 1 ∷ [], gives 0 1 3)
    ∷ (protecting ++ dhc 101 55 false true 3000001 ∷ [], gives 1 0 0)
    ∷ (protecting ++ dhc 101 55 true false 1 ∷ Ordinary (Tick 3000001) ∷ [], gives 1 0 0)
    ∷ (protecting ++ dhc 101 55 true false 1 ∷ ReturnGroup 0 7 2 ∷ [], gives 0 0 0)
    -- the group ends with the service PW, and stays without the DNI-PW
    ∷ (working ++ Ordinary (On 100 (Close 1)) ∷ [], refused_with 24)
    ∷ (working ++ Ordinary (On 100 (Close 1)) ∷ opens 100 1 1 ∷ [], refused_with 24)
    ∷ (working ++ cc 101 2 2 1 ∷ Ordinary (On 101 (Close 2)) ∷ [], gives 1 0 0)
    ∷ []

unfoldable pub numbers : List ((List Command × Command) × ℕ)
numbers =
    ((working ++ Ordinary (Tick 5) ∷ [], sets 8 101 100 4), 1)
    ∷ ((working, sets 8 102 102 1), 2)
    ∷ ((working, SetGroup 1 (record { id = 8; peer = 55; service = 101; dni = 100; role = 0 }) 1), 2)
    ∷ ((working, sets 8 100 100 1), 10)
    ∷ ((working, sets 8 100 101 1), 11)
    ∷ ((working, sets 7 101 100 1), 11)
    ∷ ((working, sets 8 101 100 1), 0)
    ∷ ((working, SetAc 0 8 1 1), 24)
    ∷ ((working, SetAc 1 7 1 1), 24)
    ∷ ((working, SetAc 0 7 1 1), 0)
    ∷ ((working ++ Ordinary (Tick 5) ∷ [], ReturnGroup 0 7 4), 1)
    ∷ ((working, dhc 102 55 true true 1), 2)
    ∷ ((working, Coordinate 101 (0x10 ∷ 0 ∷ 0 ∷ 9 ∷ 0 ∷ 0 ∷ 0 ∷ 7 ∷ 0 ∷ 0 ∷ []) 1), 3)
    ∷ ((working, Coordinate 101 (0x10 ∷ 0 ∷ 0 ∷ 9 ∷ 0 ∷ 0 ∷ 0 ∷ 7 ∷ 0 ∷ 0 ∷ 0 ∷ 0 ∷ []) 1), 25)
    ∷ ((working, dhc 100 55 true true 1), 24)
    ∷ ((working, dhc 101 56 true true 1), 24)
    ∷ ((working, dhc 101 55 true true 1), 0)
    ∷ []
