-- A piece of a capture read for one label: as many whole records as there are, and no more than are asked for. Each is one call on the table, and what it is to the label
-- is carried to the next.
-- Assumes nothing.
use Rattle.std.specs.Prelude.{ℕ, zero, suc, ◌+◌, ◌<◌, ◌≡◌, Bool, true, cond, List, eqb, length, drop, get_or}
use Rattle.rules.specs.Calls.{Call, is_accepted}
use Rattle.session.specs.declared.Session.{Session}
use Rattle.table.specs.Places.{first_hit}
use Rattle.table.specs.Table.{Table, absent, in_order, answer, next}
use Rattle.step.specs.Stepping.{table_of}
use Rattle.capture.specs.declared.Record.{Record}
use Rattle.capture.specs.Records.{next_in, is_whole, size_of, call_of}
use Rattle.capture.specs.Lines.{numbered}
use Rattle.feed.specs.declared.Fed.{Fed}
use Rattle.feed.specs.Feeding.{head_of, call_next}

-- what is said of a value that is carried over the records: how far the table is fed, the label that is asked about, whether the record that stands next is read, and what
-- is carried and what is kept in the buffer behind a call on a table, with how far that is fed then
pub record Carried (X : Type 0) : Type 0 where
  pub fed : X → Fed
  pub label : X → ℕ
  pub more : X → List ℕ → Bool
  pub after : X → Fed → Table → Call → X
  pub kept : X → List ℕ → Table → Call → List ℕ

-- the row, what is carried, and the buffer
pub record Trail (X : Type 0) : Type 0 where
  pub row : List Session
  pub carried : X
  pub kept : List ℕ

module _ {X : Type 0} (w : Carried X) where
  -- one record more: the table's step, and what it is to the label
  unfoldable pub turn_of : List ℕ → Trail X → Trail X
  turn_of input x =
      let f = w.fed x.carried in
      let t = table_of x.row f.head in
      let c = call_next input f in
      record {
        row = (next t c).row;
        carried = w.after x.carried (record { head = head_of (next t c); number = numbered f.number; used = f.used + size_of (next_in (drop f.used input)); written = f.written }) t c;
        kept = w.kept x.carried x.kept t c;
      }

  -- at most n records more. Each takes octets of the input, so its length is enough for n
  unfoldable pub go_on : List ℕ → ℕ → Trail X → Trail X
  go_on input zero x = x
  go_on input (suc n) x = cond (w.more x.carried input) (go_on input n (turn_of input x)) x

  unfoldable pub watch_of : List Session → X → List ℕ → List ℕ → Trail X
  watch_of row from input kept = go_on input (length input) (record { row = row; carried = from; kept = kept })

  -- a turn where a record is read: it takes octets, and on a row of which it is known whether it is in order it is the definition's
  abbrev pub Turns : List Session → List ℕ → Bool → X → List ℕ → X → List Session → List ℕ → Type 0
  Turns row kept sound x input y zs ks =
      w.more x input ≡ true
      → ((w.fed x).used < (w.fed y).used)
      × (sound ≡ in_order (table_of row (w.fed x).head) → record { row = zs; carried = y; kept = ks } ≡ turn_of input (record { row = row; carried = x; kept = kept }))

-- the record of the label's session, as it is before the call of a record: one of another label looks for none. No session has discriminator 0
abbrev pub before_of : Table → ℕ → Record → Session
before_of t l r = get_or t.row (first_hit l 0 (cond (eqb r.label l) t.occupied 0) t.row) absent

-- what is carried behind a record, and the buffer
pub record Behind (X : Type 0) : Type 0 where
  pub carried : X
  pub kept : List ℕ

-- what the code notes of a record before its call and carries behind it, by the call's answer, is what is said of the call
pub record WatchLaws {X N : Type 0} (w : Carried X) (note : X → Session → Record → List ℕ → N) (keep : X → Fed → ℕ → N → List ℕ → List ℕ → Behind X) : Type 0 where
  -- a record is read only where a whole one stands next
  pub stands : (x : X) (input : List ℕ) → w.more x input ≡ true → is_whole (next_in (drop (w.fed x).used input)) ≡ true
  pub fed_after : (x : X) (f : Fed) (t : Table) (c : Call) → w.fed (w.after x f t c) ≡ f
  pub fed_kept : (x : X) (f : Fed) (a : ℕ) (n : N) (body kept : List ℕ) → w.fed (keep x f a n body kept).carried ≡ f
  pub notes : (x : X) (t : Table) (r : Record) (f : Fed) (a : ℕ) (body kept : List ℕ) → is_accepted (answer t (call_of r body)) ≡ eqb a 0
      → keep x f a (note x (before_of t (w.label x) r) r body) body kept ≡ record { carried = w.after x f t (call_of r body); kept = w.kept x kept t (call_of r body) }
