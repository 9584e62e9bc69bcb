-- What is kept behind a record that brings no message needs nothing but the record.
-- Assumes nothing.
use mathlib.Core.Path.{◌≡◌}
use mathlib.Core.Bool.{false}
use Prim.Native.Nat.{ℕ}
use mathlib.Core.List.{List}
use lib.Dec.{eqb}
use Rattle.rules.proofs.Bools.{split}
use Rattle.session.specs.declared.Session.{Session}
use Rattle.capture.specs.declared.Record.{Record}
use Rattle.interval.specs.Records.{own_event, record_event}
use Rattle.pace.specs.declared.Pacing.{Pacing}
use Rattle.pace.specs.Calling.{note_of, forgets_of, plain_note}

pub plain_is : (x : Pacing) (s : Session) (r : Record) (m : List ℕ) → eqb r.kind 5 ≡ false → plain_note x r ≡ note_of x s r m
unfolding plain_note forgets_of record_event own_event
plain_is x s r m e =
    split (eqb r.label x.label)
    (λ a. split (eqb r.kind 1)
    (λ b. rw (a, b))
    (λ b. split (eqb r.kind 2)
    (λ c. rw (a, b, c))
    (λ c. split (eqb r.kind 3)
    (λ d. rw (a, b, c, d))
    (λ d. rw (a, b, c, d, e)))))
    (λ a. rw a)
