-- The two parties by example: what a call is told after others, as in the edges, and two runs that are one for party 0.
-- Assumes nothing.
use Rattle.std.specs.Prelude.{ℕ, zero, suc, ◌+◌, List, [], ◌∷◌, ◌++◌}
use Rattle.rules.specs.declared.Settings.{Settings}
use Rattle.rules.specs.Calls.{Close, ReportOn, Call, Tick, number_only}
use Rattle.meaning.specs.Edges.{Edge, settings, seven}
use Rattle.meaning.specs.Parties.{Named, TickTo, OpenFor, OnFor, taken}

-- the settings of the edges with a label and a discriminator
abbrev pub circuit : ℕ → ℕ → Settings
circuit l d =
    record {
      own = settings.own;
      expected = settings.expected;
      label = l;
      discriminator = d;
      period = settings.period;
      followlink = 0;
      followlock = 0;
      mode = 0;
    }

-- n sessions of a party, from a label on
unfoldable pub filled : ℕ → ℕ → ℕ → List Call
filled p l zero = []
filled p l (suc n) = taken (OpenFor p (circuit (l + n) (suc n)) 0) ∷ filled p l n

unfoldable pub all_taken : List Named → List Call
all_taken [] = []
all_taken (c ∷ cs) = taken c ∷ all_taken cs

-- two runs that are one for party 0: in the second 500,000 has been opened with our discriminator, our label has been asked for by the other
-- party, and our third call finds open the label that is not ours
abbrev pub alone : List Named
alone = OpenFor 0 (circuit 100 17) 0 ∷ OnFor 0 100 ReportOn ∷ OnFor 0 500000 (Close 0) ∷ []

abbrev pub amid : List Named
amid =
    OpenFor 1 (circuit 500000 17) 0
    ∷ OpenFor 0 (circuit 100 17) 0
    ∷ OnFor 1 100 (Close 0)
    ∷ TickTo 0
    ∷ OnFor 0 100 ReportOn
    ∷ OnFor 0 500000 (Close 0)
    ∷ []

abbrev edge : List Call → Named → ℕ → Edge
edge cs c n = record { calls = cs; last = taken c; said = number_only (taken c) n }

abbrev pub ours : Call
ours = taken (OpenFor 0 (circuit 100 17) 0)

abbrev pub theirs : Call
theirs = taken (OpenFor 1 (circuit 500000 17) 0)

unfoldable pub two_parties : List Edge
two_parties =
    -- 100 and 500,000, both with 17, are both accepted; then 101 with 17 is 11, and so is 500,001
    edge [] (OpenFor 0 (circuit 100 17) 0) 0
    ∷ edge (ours ∷ []) (OpenFor 1 (circuit 500000 17) 0) 0
    ∷ edge (ours ∷ theirs ∷ []) (OpenFor 0 (circuit 101 17) 0) 11
    ∷ edge (ours ∷ theirs ∷ []) (OpenFor 1 (circuit 500001 17) 0) 11
    -- 499,999 is the last of ours, 500,000 the first of theirs
    ∷ edge [] (OpenFor 0 (circuit 499999 17) 0) 0
    ∷ edge [] (OpenFor 1 (circuit 499999 17) 0) 10
    ∷ edge [] (OpenFor 0 (circuit 500000 17) 0) 10
    ∷ edge [] (OpenFor 1 (circuit 500000 17) 0) 0
    -- another's label, open or not: 2, and 10 on open; below the clock 1
    ∷ edge (ours ∷ theirs ∷ []) (OnFor 1 100 (Close 0)) 2
    ∷ edge (ours ∷ theirs ∷ []) (OpenFor 1 (circuit 100 18) 0) 10
    ∷ edge (ours ∷ theirs ∷ Tick 5 ∷ []) (OpenFor 1 (circuit 100 18) 4) 1
    -- 32 of ours are open: our next is 12, theirs is accepted; one of ours closed, our next is accepted
    ∷ edge (filled 0 100 32) (OpenFor 0 (circuit 200 99) 0) 12
    ∷ edge (filled 0 100 32) (OpenFor 1 (circuit 500000 1) 0) 0
    ∷ edge (filled 0 100 32 ++ taken (OnFor 0 100 (Close 0)) ∷ []) (OpenFor 0 (circuit 200 99) 0) 0
    -- a number above 1 is no party
    ∷ edge (ours ∷ theirs ∷ []) (OpenFor 2 (circuit 101 18) 0) 10
    ∷ edge (ours ∷ theirs ∷ []) (OnFor 2 100 ReportOn) 2
    -- the clock is everybody's: without it before each call the statement is false
    ∷ edge [] (OpenFor 0 (circuit 100 17) 3) 0
    ∷ edge (Tick 5 ∷ []) (OpenFor 0 (circuit 100 17) 3) 1
    -- the two runs leave two tables: for party 1 its label is not open after the one, and open after the other
    ∷ edge (all_taken alone) (OnFor 1 500000 ReportOn) 2
    ∷ record { calls = all_taken amid; last = taken (OnFor 1 500000 ReportOn); said = seven 1 0 0 0 0 }
    ∷ []
