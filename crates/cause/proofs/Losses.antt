-- The cause of a loss is the opening, real unlock or heard message that it is timed from.
-- Assumes nothing.
use Prim.Native.Nat.{ℕ, suc, ◌+◌, ◌-◌, ◌*◌, ◌≤◌, ◌<◌}
use native.Mathlib.Omega.{arith}
use mathlib.Core.Path.{◌≡◌, refl, sym, ap, ◌∙◌}
use mathlib.Core.Bool.{true, false, not, ◌&&◌}
use mathlib.Core.Option.{none, some}
use mathlib.Core.Logic.{◌↔◌}
use borrow.Author.Tests.{ltb-true, lt-ltb, not-true}
use Rattle.octets.specs.Choice.{accepted}
use Rattle.octets.proofs.Chain.{and_both}
use Rattle.rules.specs.Times.{past}
use Rattle.rules.proofs.Bools.{both_true, true-false}
use Rattle.meaning.specs.Stories.{Story, settings_of}
use Rattle.rules.specs.Modes.{is_source_up}
use Rattle.meaning.specs.Standing.{mode, locked, timed_from, multiplier_of, loss_in, loss, state}
use Rattle.meaning.specs.Histories.{History, clock_of, story}
use Rattle.meaning.specs.Accounts.{Restart, AccountsForLoss}
use Rattle.meaning.proofs.Losses.{one-story, locked-accounted, restart-reading, multiplier-there}
use Rattle.cause.specs.declared.Timed.{Timed}
use Rattle.cause.specs.declared.Timed.TheVariants.{Opening as ByOpening}
use Rattle.cause.specs.Marks.{Mark, last_restart}
use Rattle.cause.specs.Causes.{Loss, Cause, loss_from, cause_of, timed_by, reason_by}
use Rattle.cause.specs.Reasons.{timed_as, LossReason}
use Rattle.cause.proofs.Lasts.{Known, known}
use Rattle.cause.proofs.Sorts.{Restarted, restart-of, timed-as, restarted, restart-kind}
use Rattle.cause.proofs.Asked.{granted, by-mark}

-- what a loss says
pub lost : (now : ℕ) (s : Story) → loss now s ≡ true
    → (locked s ≡ false) × (timed_from s + (settings_of s).period * multiplier_of s < now) × (is_source_up (mode s) (state s) ≡ false)
unfolding loss_in past
lost now s e =
    let up = is_source_up (mode s) (state s) in
    let w = and_both (not (locked s)) (not up && past (timed_from s) ((settings_of s).period * multiplier_of s) now) e in
    let v = and_both (not up) (past (timed_from s) ((settings_of s).period * multiplier_of s) now) w.1 in
    (not-true (locked s) w.0, ltb-true _ now v.1, not-true up v.0)

is_lost : (now : ℕ) (s : Story) → locked s ≡ false → is_source_up (mode s) (state s) ≡ false
    → timed_from s + (settings_of s).period * multiplier_of s < now → loss now s ≡ true
unfolding loss_in past
is_lost now s n u b = both_true (ap not n) (both_true (ap not u) (lt-ltb _ now b))

module _ (h : History) (l : ℕ) (s : Story) (e : story l h ≡ some s) where
  marks : Known Restarted h l (settings_of s) (last_restart l h)
  marks = known restart-kind h l s e

  -- an open label has a mark, since its opening is one
  pub loss-marked : last_restart l h ≡ none → ⊥
  loss-marked z = marks.nothing z marks.o marks.t ByOpening (refl, marks.opening.took)

  module _ (k : Mark Timed) (f : last_restart l h ≡ some k) where
    mark-restart : Restart h l marks.o (settings_of s) k.position k.reading
    mark-restart = restart-of h l marks.o (settings_of s) k.position k.reading k.what (marks.there k f)

    mark-latest : (q u : ℕ) → k.position < q → Restart h l marks.o (settings_of s) q u → ⊥
    mark-latest q u i w = marks.latest k f q u (timed_as w) i (restarted h l marks.o (settings_of s) q u w)

    -- its reading is the story's
    pub mark-timed : k.reading ≡ timed_from s
    mark-timed =
        restart-reading h l s e marks.o (settings_of s) marks.t marks.opening k.position k.reading mark-restart mark-latest

    pub mark-accounts : (now : ℕ) → loss now s ≡ true → AccountsForLoss h l now k.position
    mark-accounts now c =
        record {
          o = marks.o;
          settings = settings_of s;
          opened_at = marks.t;
          opening = marks.opening;
          reading = k.reading;
          restart = mark-restart;
          latest = mark-latest;
          unlocked = λ b. true-false ((locked-accounted h l s e marks.o (settings_of s) marks.t marks.opening).1 b) (lost now s c).0;
          exposed = λ r f'. ap (λ (q : Story). is_source_up (mode s) (state q)) (one-story h l s r e f') ∙ (lost now s c).2;
          multiplier = multiplier_of s;
          times = multiplier-there h l s e marks.o (settings_of s) marks.t marks.opening;
          over = let i = mark-timed in let j = (lost now s c).1 in omega arith;
        }

    -- and it is what the mark says
    mark-reason : reason_by timed_by (last_restart l h) ≡ some (timed_by (timed_as mark-restart))
    unfolding mark-restart
    mark-reason =
        ap (reason_by timed_by) f
        ∙ ap (λ (x : Timed). some (timed_by x)) (sym (timed-as h l marks.o (settings_of s) k.position k.reading k.what (marks.there k f)))

-- a loss stands from its end on, at whatever clock it was found
pub loss-from : (now : ℕ) (s : Story) → loss now s ≡ true → (t : ℕ) → (loss t s ≡ true) ↔ (suc (timed_from s + (settings_of s).period * multiplier_of s) ≤ t)
loss-from now s c t = (λ d. (lost t s d).1, λ b. is_lost t s (lost now s c).0 (lost now s c).2 b)

pub loss-cause : (h : History) (l : ℕ) (c : Cause) → cause_of h l Loss ≡ accepted c → LossReason h l c
unfolding mark-accounts
loss-cause h l c e =
    let G = granted h l Loss c e in
    let s : Story = G.0 in
    let f : story l h ≡ some s = G.1.told in
    let M = by-mark (clock_of h) (loss_from s) c (last_restart l h) G.1.by in
    let k : Mark Timed = M.0 in
    let z : last_restart l h ≡ some k = M.1.found in
    record {
      position = k.position;
      number = M.1.number;
      accounts = mark-accounts h l s f k z (clock_of h) G.1.standing;
      reading = M.1.reading;
      age =
          let i : k.reading + (settings_of s).period * multiplier_of s < clock_of h = (mark-accounts h l s f k z (clock_of h) G.1.standing).over in
          let j : c.age ≡ clock_of h - k.reading = M.1.age in omega arith;
      end = let j : c.end ≡ suc (k.reading + (settings_of s).period * multiplier_of s) = M.1.ends in omega arith;
      was = G.1.was ∙ mark-reason h l s f k z;
    }
