-- Worked spacings: after these calls, on label 100, these are the five numbers.
-- Assumes nothing.
use Rattle.std.specs.Prelude.{ℕ, ◌≡◌, true, false, List, [], ◌∷◌, ℤ, pos, negsuc}
use Rattle.bfd.specs.declared.Packet.{Packet}
use Rattle.bfd.specs.Octets.{cc_octets}
use Rattle.cv.specs.declared.MepId.{MepId}
use Rattle.cv.specs.MepId.{no_agi}
use Rattle.cv.specs.Cv.{cv_octets}
use Rattle.rules.specs.declared.Settings.{Settings}
use Rattle.rules.specs.Calls.{Close, Lock, Unlock, Receive, Call, Tick, Open, On}
use Rattle.meaning.specs.Histories.{start}
use Rattle.meaning.specs.Edges.{told-all}
use Rattle.account.specs.Figures.{Spaced}
use Rattle.account.specs.Figures.{refused}
use Rattle.interval.specs.Spacing.{spacing_of}

pub record Example : Type 0 where
  pub calls : List Call
  pub spaced : Spaced

unfoldable pub spaced_in : Example → Spaced
spaced_in e = spacing_of 100 (told-all start e.calls)

-- every example of a list holds
unfoldable pub Hold : List Example → Type 0
Hold [] = Unit {0}
Hold (e ∷ es) = (spaced_in e ≡ e.spaced) × Hold es

-- number of pairs, least, greatest, sum, sum of sizes
abbrev gives : List Call → ℕ → ℤ → ℤ → ℤ → ℕ → Example
gives calls pairs least greatest sum sizes =
    record { calls = calls; spaced = record { answer = 0; pairs = pairs; least = least; greatest = greatest; sum = sum; sizes = sizes; paired = true } }

-- no pair: no least and no greatest
abbrev no_pair : List Call → Example
no_pair calls =
    record { calls = calls; spaced = record { answer = 0; pairs = 0; least = pos 0; greatest = pos 0; sum = pos 0; sizes = 0; paired = false } }

abbrev mep : ℕ → MepId
mep local = record { agi = no_agi; global = 7; node = 8; local = local; kind = 1; group = 0; size = 0 }

-- with period 1,000,000
abbrev opens : ℕ → Call
opens t =
    Open (record { own = mep 1; expected = mep 2; label = 100; discriminator = 17; period = 1000000; followlink = 0; followlock = 0; mode = 0 }) t

abbrev packet : ℕ → Packet
packet your =
    record {
      diagnostic = 0;
      state = 1;
      poll = false;
      fin = false;
      independent = false;
      demand = false;
      multiplier = 3;
      my = 9;
      your = your;
      transmit = 1000000;
      receive = 1000000;
      echo = 0;
    }

abbrev cc : ℕ → Call
cc t = On 100 (Receive (cc_octets (packet 0)) t)

-- its Your is another's
abbrev crossed : ℕ → Call
crossed t = On 100 (Receive (cc_octets (packet 99)) t)

abbrev cv : ℕ → Call
cv t = On 100 (Receive (cv_octets (packet 0) (mep 2)) t)

unfoldable pub examples : List Example
examples =
    gives (opens 0 ∷ cc 0 ∷ cc 1000300 ∷ cc 1999900 ∷ []) 2 (negsuc 399) (pos 300) (negsuc 99) 700
    -- a crossed CC, a loss and an unlock of what is not locked break nothing
    ∷ gives (opens 0 ∷ cc 0 ∷ crossed 500 ∷ Tick 4000000 ∷ On 100 (Unlock 4000000) ∷ cc 5000000 ∷ []) 1 (pos 4000000) (pos 4000000) (pos 4000000) 4000000
    -- a lock breaks, whether or not an unlock follows
    ∷ gives (opens 0 ∷ cc 0 ∷ On 100 (Lock 0) ∷ On 100 (Unlock 0) ∷ cc 700 ∷ cc 1000700 ∷ []) 1 (pos 0) (pos 0) (pos 0) 0
    -- a heard CV is no CC and breaks nothing
    ∷ gives (opens 0 ∷ cc 0 ∷ cv 500 ∷ cc 1000000 ∷ []) 1 (pos 0) (pos 0) (pos 0) 0
    -- another opening
    ∷ no_pair (opens 0 ∷ cc 0 ∷ On 100 (Close 1) ∷ opens 2 ∷ cc 3 ∷ [])
    -- a refused CC is none: it goes back in time
    ∷ gives (opens 0 ∷ cc 5 ∷ cc 4 ∷ cc 1000005 ∷ []) 1 (pos 0) (pos 0) (pos 0) 0
    -- never open
    ∷ no_pair (Tick 5 ∷ [])
    -- the sum of sizes is the greatest number, and one past it
    ∷ gives (opens 0 ∷ cc 0 ∷ cc 0 ∷ cc 9223372036854775807 ∷ []) 2 (negsuc 999999) (pos 9223372036853775807) (pos 9223372036852775807) 9223372036854775807
    ∷ record { calls = opens 0 ∷ cc 0 ∷ cc 0 ∷ cc 0 ∷ cc 9223372036854775807 ∷ []; spaced = refused }
    ∷ []
