-- What setting answers has its words, and where the words of a number hold it is that one.
-- Assumes nothing.
use Prim.Native.Nat.{ℕ}
use mathlib.Core.Path.{◌≡◌, refl, sym, ◌∙◌}
use mathlib.Core.Bool.{true, false}
use mathlib.Core.Logic.{◌⊎◌, inl, inr, ◌↔◌}
use lib.Dec.{eqb}
use borrow.Author.Tests.{eqb-true, eqb-false, eq-eqb, ne_eqb}
use Rattle.rules.proofs.Bools.{split}
use Rattle.homing.specs.declared.GroupSettings.{GroupSettings}
use Rattle.homing.specs.declared.Found.{Found}
use Rattle.homing.specs.Setting.{set_refusal, BothOpen, SetAnswers, not_open, equal_labels, second_group, is_set}

module _ (s : GroupSettings) (f : Found) where
  opened : BothOpen f → SetAnswers s f (set_refusal s f)
  opened o =
      split (eqb s.service s.dni) (λ e. equal_labels (rw (o.service, o.dni, e)) o (eqb-true _ _ e))
      (λ e.
      split f.grouped (λ g. second_group (rw (o.service, o.dni, e, g)) o (eqb-false _ _ e) (inl g))
      (λ g.
      split f.taken (λ t. second_group (rw (o.service, o.dni, e, g, t)) o (eqb-false _ _ e) (inr t))
      (λ t. is_set (rw (o.service, o.dni, e, g, t)) o (eqb-false _ _ e) g t)))

  pub set-in-words : SetAnswers s f (set_refusal s f)
  set-in-words =
      split f.service
      (λ a. split f.dni (λ b. opened (record { service = a; dni = b })) (λ b. not_open (rw (a, b)) (inr b)))
      (λ a. not_open (rw a) (inl a))

  pub set-words-decide : (n : ℕ) → SetAnswers s f n → n ≡ set_refusal s f
  set-words-decide n (not_open e (inl a)) = e ∙ rw a
  set-words-decide n (not_open e (inr b)) = e ∙ split f.service (λ a. rw (a, b)) (λ a. rw a)
  set-words-decide n (equal_labels e o l) = e ∙ rw (o.service, o.dni, eq-eqb s.service s.dni l)
  set-words-decide n (second_group e o l (inl g)) = e ∙ rw (o.service, o.dni, ne_eqb s.service s.dni l, g)
  set-words-decide n (second_group e o l (inr t)) =
      e ∙ rw (o.service, o.dni, ne_eqb s.service s.dni l) (split f.grouped (λ g. rw g) (λ g. rw (g, t)))
  set-words-decide n (is_set e o l g t) = e ∙ rw (o.service, o.dni, ne_eqb s.service s.dni l, g, t)
