-- In the same story, from the clock on, a thing stands exactly up to its end, a loss from its end on.
-- Assumes nothing.
use Prim.Native.Nat.{ℕ, suc, ◌+◌, ◌*◌, ◌≤◌, ◌<◌}
use native.Mathlib.Omega.{arith}
use mathlib.Core.Path.{◌≡◌, sym, subst}
use mathlib.Core.Bool.{true}
use mathlib.Core.Option.{some}
use mathlib.Core.Logic.{◌↔◌}
use Rattle.octets.specs.Choice.{accepted}
use Rattle.meaning.specs.Stories.{Story, settings_of}
use Rattle.meaning.specs.Standing.{timed_from, multiplier_of, loss}
use Rattle.meaning.specs.Histories.{History, clock_of, story}
use Rattle.meaning.specs.Worlds.{Right}
use Rattle.cause.specs.declared.Timed.{Timed}
use Rattle.cause.specs.Marks.{Mark, last_crossed, last_restart, last_of_key}
use Rattle.cause.specs.Causes.{Thing, Crossing, Loss, Condition, HeldBack, Cause, stands_at, crossing_end, loss_from, condition_end, last_holding, cause_of}
use Rattle.cause.specs.Reasons.{Stands}
use Rattle.cause.proofs.Asked.{granted-in, by-mark}
use Rattle.cause.proofs.Crossings.{crossing-until}
use Rattle.cause.proofs.Conditions.{condition-until}
use Rattle.cause.proofs.Losses.{mark-timed, loss-from}
use Rattle.cause.proofs.HeldBack.{held_by_lem, held-until}

-- up to an end that is another name of a number
renamed : {A : Type 0} {t m n : ℕ} → m ≡ n → A ↔ (t < n) → A ↔ (t < m)
renamed {A} {t} e w = (λ a. subst (λ (x : ℕ). t < x) (sym e) (w.0 a), λ b. w.1 (subst (λ (x : ℕ). t < x) e b))

-- a loss stands from its end on, before and behind the clock
pub stood-from : (h : History) (l : ℕ) (c : Cause) → cause_of h l Loss ≡ accepted c → (s : Story) → story l h ≡ some s → (t : ℕ) → (loss t s ≡ true) ↔ (c.end ≤ t)
stood-from h l c e s f t =
    let G = granted-in h l Loss c s f e in
    let M = by-mark (clock_of h) (loss_from s) c (last_restart l h) G.by in
    let k : Mark Timed = M.0 in
    let i : k.reading ≡ timed_from s = mark-timed h l s f k M.1.found in
    let n : c.end ≡ suc (k.reading + (settings_of s).period * multiplier_of s) = M.1.ends in
    let w = loss-from (clock_of h) s G.standing t in
    (λ d. let x = w.0 d in omega arith, λ b. w.1 (omega arith))

pub stands-until : (h : History) → Right h → (l : ℕ) (thing : Thing) (c : Cause) → cause_of h l thing ≡ accepted c → (s : Story) → story l h ≡ some s
    → (t : ℕ) → clock_of h ≤ t → (stands_at t s thing ≡ true) ↔ Stands thing c t
stands-until h r l Crossing c e s f t i =
    let G = granted-in h l Crossing c s f e in
    let M = by-mark (clock_of h) crossing_end c (last_crossed l h) G.by in
    renamed M.1.ends (crossing-until h l s f M.0 M.1.found r t)
stands-until h r l Loss c e s f t i = stood-from h l c e s f t
stands-until h r l (Condition key) c e s f t i =
    let G = granted-in h l (Condition key) c s f e in
    let M = by-mark (clock_of h) condition_end c (last_of_key l key h) G.by in
    renamed M.1.ends (condition-until h l key s f M.0 M.1.found (clock_of h) G.standing t)
stands-until h r l HeldBack c e s f t i =
    let G = granted-in h l HeldBack c s f e in
    let M = by-mark (clock_of h) condition_end c (last_holding h l s) G.by in
    renamed M.1.ends (held-until h l s f (clock_of h) M.0 M.1.found (held_by_lem (clock_of h) s G.standing).0 t i)
