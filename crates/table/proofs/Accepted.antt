-- What a call that is answered 0 has passed, for every table: its reading is not below the clock, its label is open, what it receives was read,
-- and for an open the settings fit, have no rival, and their party has not opened 32.
-- Assumes nothing.
use Prim.Native.Nat.{ℕ, ◌≤◌}
use mathlib.Core.Path.{◌≡◌, refl, sym, ap, ◌∙◌}
use mathlib.Core.Bool.{true, false}
use mathlib.Core.Option.{Option, none, some}
use mathlib.Core.List.{List}
use lib.Dec.{eqb}
use borrow.Author.Tests.{eqb-false}
use Rattle.octets.specs.Choice.{need, bar}
use Rattle.octets.proofs.Chain.{need-passed, bar-passed, or_else-passed}
use Rattle.message.specs.Message.{message_refusal, message_of}
use Rattle.rules.specs.declared.Settings.{Settings}
use Rattle.rules.specs.Times.{late}
use Rattle.rules.specs.Settings.{settings_fit}
use Rattle.rules.specs.Received.{received_as}
use Rattle.rules.specs.Parties.{party_of, own_most}
use Rattle.rules.specs.Lists.{any}
use Rattle.rules.proofs.Bools.{no_way}
use Rattle.rules.proofs.Ages.{not_late}
use Rattle.session.specs.declared.Session.{Session}
use Rattle.session.specs.Reception.{received_answer}
use Rattle.table.specs.Table.{Table, open_of, open_by, is_found, rivals, open_answer, receive_answer}

pub record OpenPassed (t : Table) (g : Settings) (reading : ℕ) : Type 0 where
  pub in-time : t.clock ≤ reading
  pub fit : settings_fit g ≡ true
  pub unrivalled : any (rivals g) (open_of t) ≡ false
  pub room : open_by (party_of g.label) t ≡ own_most → ⊥

pub open-passed : (t : Table) (g : Settings) (reading : ℕ) → open_answer t g reading ≡ 0 → OpenPassed t g reading
unfolding open_answer
open-passed t g reading e =
    let full = eqb (open_by (party_of g.label) t) own_most in
    let a = bar-passed (late t.clock reading) 0 (need (settings_fit g) 10 (bar (any (rivals g) (open_of t)) 11 (bar full 12 0))) e in
    let b = need-passed (settings_fit g) 9 (bar (any (rivals g) (open_of t)) 11 (bar full 12 0)) a.1 in
    let c = bar-passed (any (rivals g) (open_of t)) 10 (bar full 12 0) b.1 in
    record {
      in-time = not_late t.clock reading a.0;
      fit = b.0;
      unrivalled = c.0;
      room = eqb-false (open_by (party_of g.label) t) own_most (bar-passed full 11 0 c.1).0;
    }

found_some : (o : Option Session) → is_found o ≡ true → (r : Session) × (o ≡ some r)
found_some none e = no_way e refl
found_some (some r) e = (r, refl)

-- a call that asks for a reading and an open label
pub found_passed : (clock reading : ℕ) (o : Option Session) → bar (late clock reading) 1 (need (is_found o) 2 0) ≡ 0
    → (clock ≤ reading) × ((r : Session) × (o ≡ some r))
found_passed clock reading o e =
    let a = bar-passed (late clock reading) 0 (need (is_found o) 2 0) e in
    (not_late clock reading a.0, found_some o (need-passed (is_found o) 1 0 a.1).0)

-- a message that is accepted was read
pub received-read : (m : List ℕ) (reading : ℕ) (o : Option Session) (r : Session) → o ≡ some r → receive_answer o m reading ≡ 0 → message_refusal m ≡ 0
received-read m reading o r q e =
    (or_else-passed (message_refusal m) (received_answer r reading (received_as r.settings (message_of m)))
    (sym (ap (λ (x : Option Session). receive_answer x m reading) q) ∙ e)
    ).0
