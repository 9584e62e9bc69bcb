-- The tracing's loop with no model: the loop over the records of one label is the definition's.
-- Assumes nothing.
use mathlib.Core.Path.{◌≡◌, refl, ap, ◌∙◌}
use mathlib.Core.Bool.{Bool, not, cond}
use Prim.Native.Nat.{ℕ, zero, suc}
use mathlib.Core.List.{List}
use lib.Dec.{T as Holds}
use lib.ListN.{length}
use Rattle.rules.proofs.Bools.{split}
use Rattle.session.specs.declared.Session.{Session}
use Rattle.walks.proofs.Branches.{held-is, failed-is}
use Rattle.feed.specs.Watching.{Trail as Passed, turn_of as turn_with, go_on as go_with, watch_of}
use Rattle.feed.proofs.Watched.{trail as passed}
use Rattle.trace.specs.declared.Tracing.{Tracing}
use Rattle.trace.specs.Tracing.{more_of, Trail, turn_of, go_on, trace_of}
use Rattle.trace.specs.Calling.{traced}

abbrev pub trail : List Session → Tracing → List ℕ → Trail
trail row x kept = record { row = row; tracing = x; kept = kept }

-- ---- the loop over the records of one label, of what this one carries, is the definition's
abbrev pub as-trail : Passed Tracing → Trail
as-trail z = trail z.row z.carried z.kept

same-turn : (input : List ℕ) (z : Passed Tracing) → as-trail (turn_with traced input z) ≡ turn_of input (as-trail z)
unfolding turn_with turn_of
same-turn input z = refl

same : (input : List ℕ) (n : ℕ) (z : Passed Tracing) → as-trail (go_with traced input n z) ≡ go_on input n (as-trail z)
unfolding go_with go_on
same input zero z = refl
same input (suc n) z =
    split (more_of z.carried input)
    (λ e. rw e (same input n (turn_with traced input z) ∙ ap (go_on input n) (same-turn input z)))
    (λ e. rw e)

pub watch-is : (row : List Session) (x : Tracing) (input kept : List ℕ) → as-trail (watch_of traced row x input kept) ≡ trace_of row x input kept
unfolding watch_of trace_of
watch-is row x input kept = same input (length input) (passed row x kept)

-- ---- where there is no more, nothing more is done; where there is, one record
pub stops : (input : List ℕ) (n : ℕ) (x : Trail) → Holds (not (more_of x.tracing input)) → go_on input n x ≡ x
unfolding go_on
stops input zero x h = refl
stops input (suc n) x h = ap (λ (b : Bool). cond b (go_on input n (turn_of input x)) x) (failed-is (more_of x.tracing input) h)

pub goes_on_lem : (input : List ℕ) (n : ℕ) (x : Trail) → Holds (more_of x.tracing input) → go_on input (suc n) x ≡ go_on input n (turn_of input x)
unfolding go_on
goes_on_lem input n x h = ap (λ (b : Bool). cond b (go_on input n (turn_of input x)) x) (held-is (more_of x.tracing input) h)

pub begins : (row : List Session) (x : Tracing) (input kept : List ℕ) → go_on input (length input) (trail row x kept) ≡ trace_of row x input kept
unfolding trace_of
begins row x input kept = refl
