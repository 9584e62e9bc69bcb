-- A fault message alters no condition but that of its own key.
-- Assumes nothing.
use Prim.Native.Nat.{ℕ}
use mathlib.Core.Path.{◌≡◌, refl, sym, ap, ◌∙◌, subst}
use mathlib.Core.Bool.{false}
use mathlib.Core.Option.{some}
use mathlib.Core.List.{List, [], ◌∷◌, ◌++◌}
use borrow.Author.Tests.{eq-eqb}
use Rattle.fault.specs.declared.Fault.{Fault}
use Rattle.message.specs.declared.Message.{Message}
use Rattle.message.specs.declared.Message.TheVariants.{FaultManagement}
use Rattle.message.specs.Message.{message_of}
use Rattle.rules.specs.declared.Key.{Key}
use Rattle.rules.specs.Received.{received_as}
use Rattle.rules.specs.Conditions.{key_of, same_key}
use Rattle.rules.specs.OneKey.{OneCause}
use Rattle.rules.specs.Calls.{Receive, Call, On, Said, is_accepted}
use Rattle.rules.proofs.Bools.{split, refuted}
use Rattle.rules.proofs.SameKeys.{key-exactly}
use Rattle.session.specs.declared.Session.{Session}
use Rattle.table.specs.Table.{answer}
use Rattle.meaning.specs.Stories.{Story, got}
use Rattle.meaning.specs.Standing.{stands, followed_last}
use Rattle.meaning.specs.Histories.{History, after, story}
use Rattle.meaning.specs.Worlds.{World, step, play, begin, past_of}
use Rattle.meaning.proofs.Demand.{play-last}

-- R or not, a message of another key leaves what stands, and whether it is followed
module _ (s : Story) (f : Fault) (t : ℕ) (key : Key) (other : same_key (key_of f) key ≡ false) where
  pub other-key-stays : (now : ℕ) → stands now (got s (FaultManagement f) t) key ≡ stands now s key
  unfolding stands received_as
  other-key-stays now = rw other

  pub other-key-followed : followed_last (got s (FaultManagement f) t) key ≡ followed_last s key
  unfolding followed_last received_as
  other-key-followed = rw other

-- two messages that differ in type, IF_ID or Global_ID have two keys
other-cause : (f g : Fault) → (OneCause f g → ⊥) → same_key (key_of f) (key_of g) ≡ false
other-cause f g n = refuted (same_key (key_of f) (key_of g)) (λ e. n ((key-exactly f g).0 e))

-- the label is open afterwards, and of the key of g it stands as it stood
unfoldable pub Kept : History → ℕ → Fault → Story → Type 0
Kept h l g s = (u : Story) × (story l h ≡ some u) × ((now : ℕ) → stands now u (key_of g) ≡ stands now s (key_of g))

module _ (l t : ℕ) (m : List ℕ) (f g : Fault) (s : Story) (is : message_of m ≡ FaultManagement f) (n : OneCause f g → ⊥) where
  -- whatever the answer
  kept-after : (h : History) (a : Said) → story l h ≡ some s → Kept (after h (On l (Receive m t)) a) l g s
  unfolding Kept story
  kept-after h a o =
      split (is_accepted a)
      (λ e. (got s (message_of m) t, rw (e, eq-eqb l l refl, o), λ now. ap (λ (x : Message). stands now (got s x t) (key_of g)) is ∙ other-key-stays s f t (key_of g) (other-cause f g n) now))
      (λ e. (s, rw e o, λ now. refl))

  -- after any list of calls
  pub kept-by-others : (row : List Session) (cs : List Call) → story l (past_of row cs) ≡ some s → Kept (past_of row (cs ++ On l (Receive m t) ∷ [])) l g s
  unfolding past_of step
  kept-by-others row cs o =
      subst (λ (w : World). Kept w.past l g s) (sym (play-last (begin row) cs (On l (Receive m t))))
      (kept-after (play (begin row) cs).past (answer (play (begin row) cs).table (On l (Receive m t))) o)
