-- A refused call leaves row, clock and set as they were, says its number alone and leaves a lent buffer as it was: for every table, sound or not.
-- Assumes nothing.
use Prim.Native.Nat.{ℕ}
use mathlib.Core.Path.{◌≡◌, refl}
use mathlib.Core.Bool.{false}
use mathlib.Core.Option.{Option, none, some}
use mathlib.Core.List.{List}
use lib.ListN.{length}
use lib.Dec.{ltb, eqb}
use Rattle.octets.specs.Writing.{writing}
use Rattle.rules.specs.Calls.{Act, Close, Lock, Unlock, Receive, ReportOn, WriteCc, WriteCv, Call, Tick, Open, On, is_accepted, number_only, no_report, writes}
use Rattle.rules.proofs.Bools.{split, no_way}
use Rattle.session.specs.declared.Session.{Session}
use Rattle.table.specs.Table.{Table, write_answer, report_answer, act_answer, asked, answer, next}

-- the table is as it was
pub refused-table : (t : Table) (c : Call) → is_accepted (answer t c) ≡ false → next t c ≡ t
unfolding next
refused-table t c e = rw e

-- a write that is refused leaves the buffer
write-refused : (octets buffer : List ℕ) → eqb (writing 0 octets buffer).answer 0 ≡ false
    → writes (writing 0 octets buffer) ≡ record { number = (writing 0 octets buffer).answer; report = no_report; buffer = buffer }
unfolding writing
write-refused octets buffer e = split (ltb (length buffer) (length octets)) (λ a. rw a) (λ a. no_way refl (rw a at e))

act-alone : (clock : ℕ) (o : Option Session) (l : ℕ) (a : Act) → is_accepted (act_answer clock o l a) ≡ false
    → act_answer clock o l a ≡ number_only (On l a) (act_answer clock o l a).number
unfolding act_answer
act-alone clock o l (Close u) e = refl
act-alone clock o l (Lock u) e = refl
act-alone clock o l (Unlock u) e = refl
act-alone clock o l (Receive m u) e = refl
act-alone clock none l ReportOn e = refl
act-alone clock (some r) l ReportOn e = no_way refl e
act-alone clock none l (WriteCc b) e = refl
act-alone clock (some r) l (WriteCc b) e = write-refused _ b e
act-alone clock none l (WriteCv b) e = refl
act-alone clock (some r) l (WriteCv b) e = write-refused _ b e

asked-alone : (t : Table) (c : Call) → is_accepted (asked t c) ≡ false → asked t c ≡ number_only c (asked t c).number
unfolding asked
asked-alone t (Tick u) e = refl
asked-alone t (Open g u) e = refl
asked-alone t (On l a) e = act-alone t.clock _ l a e

-- a refusal says its number alone
pub refused-alone : (t : Table) (c : Call) → is_accepted (answer t c) ≡ false → answer t c ≡ number_only c (answer t c).number
unfolding answer
refused-alone t c e = split (Rattle.table.specs.Table.in_order t) (λ o. rw o (asked-alone t c (rw o at e))) (λ o. rw o)
