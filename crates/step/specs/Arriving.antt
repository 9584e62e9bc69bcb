-- A message that arrives on a label: from what is known of the row, the octets of the message, and the one record that it meets. This is what the code is proved to do;
-- `proofs/Arriving.antt` says that it is the table's step.
-- Assumes nothing.
use Rattle.std.specs.Prelude.{ℕ, cond, not, ◌&&◌, List, eqb, take, drop}
use Rattle.octets.specs.Choice.{need, bar}
use Rattle.rules.specs.Times.{late}
use Rattle.session.specs.declared.Session.{Session}
use Rattle.session.specs.Live.{is_fault, bfd_acted, fault_acted, with_live, with_fault}
use Rattle.table.specs.Table.{absent}
use Rattle.step.specs.declared.Arrival.{Arrival}
use Rattle.step.specs.declared.Outcome.{Outcome}
use Rattle.walks.specs.AtPlace.{at_place}
use Rattle.step.specs.Stepping.{at, nowhere, nothing_told, Obeyed}

-- the message lies behind a place of the octets that are lent
abbrev pub message_in : Arrival → List ℕ → List ℕ
message_in x m = take x.size (drop x.from m)

-- the record that it meets: none where 26 or 1 is due
abbrev pub met_at : Arrival → ℕ
met_at x = cond (x.sound && not (late x.head.clock x.reading)) x.place nowhere

-- 26, then 1, then 2
abbrev pub unmet_of : Arrival → Outcome
unmet_of x = record { head = x.head; told = nothing_told; answer = need x.sound 26 (bar (late x.head.clock x.reading) 1 2) }

-- the record's own answer; the clock moves where it is 0
abbrev pub received_of : Arrival → ℕ → Outcome
received_of x n = record { head = cond (eqb n 0) (at x.head x.reading) x.head; told = nothing_told; answer = n }

-- a CC or a CV, at the record that is met
abbrev pub bfd_at : List Session → Arrival → List ℕ → Obeyed
bfd_at row x m = at_place met_at unmet_of (λ r y octets. bfd_acted r (message_in y octets) y.reading) with_live (λ y a. received_of y a.answer) absent row x m

-- a fault message
abbrev pub fault_at : List Session → Arrival → List ℕ → Obeyed
fault_at row x m = at_place met_at unmet_of (λ r y octets. fault_acted r (message_in y octets) y.reading) with_fault (λ y f. received_of y f.answer) absent row x m

unfoldable pub receive_at : List Session → Arrival → List ℕ → Obeyed
receive_at row x m = cond (is_fault (message_in x m)) (fault_at row x m) (bfd_at row x m)
