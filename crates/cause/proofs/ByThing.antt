-- The answer from the marks where an alarm is held back: a loss is asked first.
-- Assumes nothing.
use Prim.Native.Nat.{ℕ}
use mathlib.Core.Path.{◌≡◌}
use mathlib.Core.Bool.{true, false, cond}
use Rattle.octets.specs.Choice.{refused}
use Rattle.conditions.specs.Standing.{place_stands}
use Rattle.session.specs.declared.Session.{Session}
use Rattle.session.specs.Queries.{loss_at}
use Rattle.cause.specs.declared.Marks.{Marks}
use Rattle.cause.specs.declared.Thing.TheVariants.{HeldBack}
use Rattle.cause.specs.FromMarks.{best_of, because_of, cause_from}

module _ (m : Marks) (r : Session) (now : ℕ) where
  pub held-loss : loss_at r now ≡ true → cause_from m r now HeldBack ≡ because_of now (best_of (λ c. place_stands c now) r.conditions m)
  unfolding cause_from
  held-loss e = λ i. cond (e i) (because_of now (best_of (λ c. place_stands c now) r.conditions m)) (refused 15)

  pub held-no-loss : loss_at r now ≡ false → cause_from m r now HeldBack ≡ refused 15
  unfolding cause_from
  held-no-loss e = λ i. cond (e i) (because_of now (best_of (λ c. place_stands c now) r.conditions m)) (refused 15)
