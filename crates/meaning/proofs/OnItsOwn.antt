-- A party is told what it is told on a row of its own, with a tick in place of each call that is another's, proved.
-- Assumes nothing.
use Prim.Native.Nat.{ℕ}
use mathlib.Core.Path.{◌≡◌, refl, sym, ap, ◌∙◌, subst}
use mathlib.Core.Bool.{true, false, cond}
use mathlib.Core.Option.{Option, none}
use mathlib.Core.List.{List, [], ◌∷◌}
use mathlib.Core.Logic.{⊎_elim}
use Rattle.octets.specs.Choice.{bar}
use Rattle.rules.specs.Times.{late}
use Rattle.rules.specs.Calls.{Call, Tick, Said, is_accepted, number_only}
use Rattle.rules.proofs.Bools.{split}
use Rattle.table.specs.Table.{answer, next}
use Rattle.meaning.specs.Stories.{Story}
use Rattle.meaning.specs.Histories.{History, after, reading, clock_of, told, labels_after}
use Rattle.meaning.specs.Answers.{says_of, says}
use Rattle.meaning.specs.Worlds.{World, step, play, begin}
use Rattle.meaning.specs.Parties.{Named, TickTo, taken, names, turns, others_tick, OnItsOwn}
use Rattle.meaning.proofs.Timer.{brings}
use Rattle.meaning.proofs.Demand.{answered, Good, good-play, good-begin}
use Rattle.meaning.proofs.Isolation.{View, says-own, view-own, view-other, nothing}

-- the tick is accepted, or is to the clock as it is
tick-left : (h v : History) (c : Call) (a : Said) → a ≡ says h c → clock_of v ≡ clock_of h
    → clock_of (after v (Tick (clock_of (after h c a))) (says v (Tick (clock_of (after h c a))))) ≡ clock_of (after h c a)
unfolding clock_of says says_of
tick-left h v c a z e =
    split (is_accepted a)
    (λ y. rw y
    (⊎_elim
    (λ k. let on-time : late (clock_of v) (reading c (clock_of h)) ≡ false = ap (λ (n : ℕ). late n (reading c (clock_of h))) e ∙ k in rw on-time)
    (λ k. stays (reading c (clock_of h)) (e ∙ sym k))
    (brings h c (ap is_accepted (sym z) ∙ y))))
    (λ y. rw y (stays (clock_of h) e))
  where
    stays : (k : ℕ) → clock_of v ≡ k → cond (is_accepted (number_only (Tick k) (bar (late (clock_of v) k) 1 0))) k (clock_of v) ≡ k
    stays k q = split (is_accepted (number_only (Tick k) (bar (late (clock_of v) k) 1 0))) (λ y. rw y) (λ y. rw y q)

-- two worlds at one clock of which a party can see the same
record Beside (p : ℕ) (w v : World) (st : ℕ → Option Story) (ls : List ℕ) : Type 0 where
  pub one : Good w
  pub other : Good v
  pub one_seen : View p w.past st ls
  pub other-seen : View p v.past st ls
  pub clock : clock_of v.past ≡ clock_of w.past

module _ {p : ℕ} {w v : World} {st : ℕ → Option Story} {ls : List ℕ} (B : Beside p w v st ls) (c : Named) where
  told-one : answer w.table (taken c) ≡ says w.past (taken c)
  told-one = answered w.past w.table B.one.in_step (taken c)

  told-other : answer v.table (taken c) ≡ says v.past (taken c)
  told-other = answered v.past v.table B.other.in_step (taken c)

  same-said : names p c ≡ true → answer w.table (taken c) ≡ answer v.table (taken c)
  unfolding says
  same-said n =
      told-one ∙ says-own B.one_seen B.one.right (clock_of w.past) c n
      ∙ ap (λ (k : ℕ). says_of k st ls (taken c)) (sym B.clock)
      ∙ sym (says-own B.other-seen B.other.right (clock_of v.past) c n)
      ∙ sym told-other

  -- after a call of the party, and after another and a tick in its place
  beside-own : names p c ≡ true
      → Beside p (step w (taken c)) (step v (taken c)) (λ l. cond (is_accepted (answer w.table (taken c))) (told l (taken c) (st l)) (st l))
      (cond (is_accepted (answer w.table (taken c))) (labels_after (taken c) ls) ls)
  unfolding step play clock_of
  beside-own n =
      record {
        one = good-play w (taken c ∷ []) B.one;
        other = good-play v (taken c ∷ []) B.other;
        one_seen = view-own B.one_seen B.one.right c n (answer w.table (taken c)) told-one;
        other-seen =
            subst
            (λ (x : Said). View p (after v.past (taken c) (answer v.table (taken c))) (λ l. cond (is_accepted x) (told l (taken c) (st l)) (st l)) (cond (is_accepted x) (labels_after (taken c) ls) ls))
            (sym (same-said n)) (view-own B.other-seen B.other.right c n (answer v.table (taken c)) told-other);
        clock = λ i. cond (is_accepted (sym (same-said n) i)) (reading (taken c) (B.clock i)) (B.clock i);
      }

  beside-other : names p c ≡ false → Beside p (step w (taken c)) (step v (Tick (next w.table (taken c)).clock)) st ls
  unfolding step play
  beside-other n =
      let k = (next w.table (taken c)).clock in
      let on = good-play w (taken c ∷ []) B.one in
      let ticked : (u : ℕ) → answer v.table (Tick u) ≡ says v.past (Tick u) = λ u. answered v.past v.table B.other.in_step (Tick u) in
      record {
        one = on;
        other = good-play v (Tick k ∷ []) B.other;
        one_seen = view-other B.one_seen B.one.right c n (answer w.table (taken c)) told-one;
        other-seen = view-other B.other-seen B.other.right (TickTo k) refl (answer v.table (Tick k)) (ticked k);
        clock =
            (λ i. clock_of (after v.past (Tick (on.in_step.clock i)) (ticked (on.in_step.clock i) i)))
            ∙ tick-left w.past v.past (taken c) (answer w.table (taken c)) told-one B.clock;
      }

same-alone : (p : ℕ) (w v : World) (cs : List Named) (st : ℕ → Option Story) (ls : List ℕ) → Beside p w v st ls
    → turns p w.table cs ≡ turns p v.table (others_tick p w.table cs)
unfolding turns others_tick step
same-alone p w v [] st ls B = refl
same-alone p w v (c ∷ cs) st ls B =
    let clocks : w.table.clock ≡ v.table.clock = B.one.in_step.clock ∙ sym B.clock ∙ sym B.other.in_step.clock in
    split (names p c)
    (λ n. rw (n, n)
    (λ i. record { before = clocks i; call = c; said = same-said B c n i } ∷ same-alone p (step w (taken c)) (step v (taken c)) cs _ _ (beside-own B c n) i))
    (λ n. rw n (same-alone p (step w (taken c)) (step v (Tick (next w.table (taken c)).clock)) cs st ls (beside-other B c n)))

pub on-its-own : OnItsOwn
unfolding begin
on-its-own row other e f cs p =
    same-alone p (begin row) (begin other) cs (λ l. none) []
    (record { one = good-begin row e; other = good-begin other f; one_seen = nothing p; other-seen = nothing p; clock = refl })
