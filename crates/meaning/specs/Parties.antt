-- M-153: two parties on one row. A call names its party, and what it is told rests on that party's calls alone, each with the clock before it.
-- Assumes nothing.
use Rattle.std.specs.Prelude.{ℕ, ◌≡◌, Bool, false, cond, List, [], ◌∷◌, length, eqb}
use Rattle.octets.specs.Choice.{bar}
use Rattle.rules.specs.declared.Settings.{Settings}
use Rattle.rules.specs.Times.{late}
use Rattle.rules.specs.Parties.{is_of, own_label}
use Rattle.rules.specs.Calls.{Act, Close, Lock, Unlock, Receive, ReportOn, WriteCc, WriteCv, Call, Tick, Open, On, Said, number_only}
use Rattle.session.specs.declared.Session.{Session}
use Rattle.table.specs.Table.{Table, answer, next, emptied}
use Rattle.meaning.specs.Worlds.{table_after}

-- a call as it is made: a tick names no party
pub data Named : Type 0 where
  TickTo : (reading : ℕ) → Named
  OpenFor : (party : ℕ) (settings : Settings) (reading : ℕ) → Named
  OnFor : (party : ℕ) (label : ℕ) (act : Act) → Named

abbrev pub with_label : ℕ → Settings → Settings
with_label l g =
    record {
      own = g.own;
      expected = g.expected;
      label = l;
      discriminator = g.discriminator;
      period = g.period;
      followlink = g.followlink;
      followlock = g.followlock;
      mode = g.mode;
    }

-- the table's call that it is: another party's label goes as 0, which never fits and is never open
abbrev pub taken : Named → Call
taken (TickTo t) = Tick t
taken (OpenFor p g t) = Open (with_label (own_label p g.label) g) t
taken (OnFor p l a) = On (own_label p l) a

abbrev pub names : ℕ → Named → Bool
names p (TickTo t) = false
names p (OpenFor q g t) = eqb q p
names p (OnFor q l a) = eqb q p

-- a party's turn: the clock before its call, the call, and what it said
pub record Turn : Type 0 where
  pub before : ℕ
  pub call : Named
  pub said : Said

-- the turns of a party among calls that are made from a table on: every call that names it, refused or not, whosever the label
unfoldable pub turns : ℕ → Table → List Named → List Turn
turns p t [] = []
turns p t (c ∷ cs) =
    let rest = turns p (next t (taken c)) cs in
    cond (names p c) (record { before = t.clock; call = c; said = answer t (taken c) } ∷ rest) rest

-- what was asked: the same without what was said
pub record Question : Type 0 where
  pub before : ℕ
  pub call : Named

unfoldable pub questions : List Turn → List Question
questions [] = []
questions (x ∷ xs) = record { before = x.before; call = x.call } ∷ questions xs

-- the other party's calls show nowhere: where the same is asked for a party, with the same clock before each call, the same is told, number,
-- report and whole buffer; whatever the rows held, and whatever ticks and calls of others come between
abbrev pub Isolation : Type 0
Isolation =
    (row other : List Session) → length row ≡ 64 → length other ≡ 64 → (cs ds : List Named) (p : ℕ)
    → questions (turns p (emptied row) cs) ≡ questions (turns p (emptied other) ds) → turns p (emptied row) cs ≡ turns p (emptied other) ds

-- the same calls with a tick in place of each that does not name the party, to the clock that it leaves
unfoldable pub others_tick : ℕ → Table → List Named → List Named
others_tick p t [] = []
others_tick p t (c ∷ cs) =
    let left = next t (taken c) in
    cond (names p c) c (TickTo left.clock) ∷ others_tick p left cs

-- so a party is told what it is told on a row of its own, where for the others only the clock goes on
abbrev pub OnItsOwn : Type 0
OnItsOwn =
    (row other : List Session) → length row ≡ 64 → length other ≡ 64 → (cs : List Named) (p : ℕ)
    → turns p (emptied row) cs ≡ turns p (emptied other) (others_tick p (emptied row) cs)

-- a call on a label that is not its party's: 1 below the clock, then 2 as on a label that is not open
abbrev pub act_refusal : ℕ → Act → ℕ
act_refusal now (Close t) = bar (late now t) 1 2
act_refusal now (Lock t) = bar (late now t) 1 2
act_refusal now (Unlock t) = bar (late now t) 1 2
act_refusal now (Receive m t) = bar (late now t) 1 2
act_refusal now ReportOn = 2
act_refusal now (WriteCc b) = 2
act_refusal now (WriteCv b) = 2

-- after every list of calls it is told this, by the clock alone, and an open 10, the label open or not
pub record Foreign (row : List Session) (cs : List Call) : Type 0 where
  pub on-label : (p l : ℕ) (a : Act) → is_of p l ≡ false
      → answer (table_after row cs) (taken (OnFor p l a)) ≡ number_only (taken (OnFor p l a)) (act_refusal (table_after row cs).clock a)
  pub on-open : (p : ℕ) (g : Settings) (t : ℕ) → is_of p g.label ≡ false
      → answer (table_after row cs) (taken (OpenFor p g t)) ≡ number_only (taken (OpenFor p g t)) (bar (late (table_after row cs).clock t) 1 10)
