-- Two things that happen to one group, in either order; and what happens to it twice.
-- Assumes nothing.
use mathlib.Core.Path.{◌≡◌, refl, sym, ap, ◌∙◌}
use mathlib.Core.Bool.{Bool, true, false, ◌||◌}
use Rattle.rules.proofs.Bools.{no_way, split}
use Rattle.coordination.specs.declared.Dhc.{Dhc}
use Rattle.homing.specs.declared.Group.{Group}
use Rattle.homing.specs.Groups.{is_working, fallen, crossed_by}
use Rattle.homing.specs.Messages.{fails, switches, coordinated}
use Rattle.homing.specs.Forwarding.{report_of, group_report}
use Rattle.homing.specs.Events.{Event, Timer, Crossed, Message, Ac, Return, after, is_return, is_ac}

-- a message, and a crossed message: both only lower a working PE's PW, and a protection PE's is moved by the one alone
pub message-crossed : (d : Dhc) (g : Group) → coordinated d (crossed_by g) ≡ crossed_by (coordinated d g)
message-crossed d g =
    split (is_working g.role) (λ w. split (switches d.switching) (λ s. rw (w, s)) (λ s. rw (w, s))) (λ p. rw p)

-- a message, and TIMER
pub message-loss : (d : Dhc) (loss : Bool) (g : Group) → coordinated d (fallen loss g) ≡ fallen loss (coordinated d g)
message-loss d true g = message-crossed d g
message-loss d false g = refl

-- two messages
pub message-message : (d f : Dhc) (g : Group) → coordinated d (coordinated f g) ≡ coordinated f (coordinated d g)
message-message d f g =
    split (is_working g.role)
    (λ w. split (switches d.switching) (λ s. split (switches f.switching) (λ t. rw (w, s, t)) (λ t. rw (w, s, t))) (λ s. rw (w, s)))
    (λ p.
    split (switches d.switching || fails d.status)
    (λ s. split (switches f.switching || fails f.status) (λ t. rw (p, s, t)) (λ t. rw (p, s, t)))
    (λ s. rw (p, s)))

-- a crossed message, and TIMER
pub crossed-loss : (loss : Bool) (g : Group) → crossed_by (fallen loss g) ≡ fallen loss (crossed_by g)
crossed-loss true g = refl
crossed-loss false g = refl

-- TIMER twice
pub loss-loss : (one other : Bool) (g : Group) → fallen one (fallen other g) ≡ fallen (one || other) g
loss-loss true true g = split (is_working g.role) (λ w. rw w) (λ p. rw p)
loss-loss true false g = refl
loss-loss false other g = refl

loss-again : (loss : Bool) (g : Group) → fallen loss (fallen loss g) ≡ fallen loss g
loss-again true g = loss-loss true true g
loss-again false g = refl

-- crossed after a loss
pub crossed-covers : (loss : Bool) (g : Group) → crossed_by (fallen loss g) ≡ crossed_by g
crossed-covers true g = loss-loss true true g
crossed-covers false g = refl

-- the same message again does nothing more: it is sent three times, and then time after time
pub message-again : (d : Dhc) (g : Group) → coordinated d (coordinated d g) ≡ coordinated d g
message-again d g =
    split (is_working g.role)
    (λ w. split (switches d.switching) (λ s. rw (w, s)) (λ s. rw (w, s)))
    (λ p. split (switches d.switching || fails d.status) (λ s. rw (p, s)) (λ s. rw (p, s)))

loss-either : (one other : Bool) (g : Group) → fallen one (fallen other g) ≡ fallen other (fallen one g)
loss-either true true g = refl
loss-either true false g = refl
loss-either false other g = refl

-- any two of a loss that is looked for, a crossed message and a DHC message
pub either_first : (e f : Event) (g : Group) → is_ac e || is_return e ≡ false → is_ac f || is_return f ≡ false → after e (after f g) ≡ after f (after e g)
either_first (Timer one) (Timer other) g m n = loss-either one other g
either_first (Timer loss) Crossed g m n = sym (crossed-loss loss g)
either_first (Timer loss) (Message d) g m n = sym (message-loss d loss g)
either_first Crossed (Timer loss) g m n = crossed-loss loss g
either_first Crossed Crossed g m n = refl
either_first Crossed (Message d) g m n = sym (message-crossed d g)
either_first (Message d) (Timer loss) g m n = message-loss d loss g
either_first (Message d) Crossed g m n = message-crossed d g
either_first (Message d) (Message f) g m n = message-message d f g
either_first (Timer one) (Ac ac) g m n = no_way refl n
either_first (Timer one) (Return loss crossing) g m n = no_way refl n
either_first Crossed (Ac ac) g m n = no_way refl n
either_first Crossed (Return loss crossing) g m n = no_way refl n
either_first (Message d) (Ac ac) g m n = no_way refl n
either_first (Message d) (Return loss crossing) g m n = no_way refl n
either_first (Ac ac) f g m n = no_way refl m
either_first (Return loss crossing) f g m n = no_way refl m

-- A DHC message on the DNI-PW and a message on the service PW, of one reading: each looks for a loss before it acts. A message that is heard ends the
-- loss, so that the one that comes second finds none; behind a crossed one it is found again. `later` is what is found then.
module _ (d : Dhc) (loss later : Bool) (l : later ≡ true → loss ≡ true) (g : Group) where
  found-again : fallen later (fallen loss g) ≡ fallen loss g
  found-again = split later (λ a. rw (a, l a) (loss-loss true true g)) (λ a. rw a)

  looked-again : fallen loss (coordinated d (fallen loss g)) ≡ coordinated d (fallen loss g)
  looked-again = sym (message-loss d loss (fallen loss g)) ∙ ap (coordinated d) (loss-again loss g)

  pub meets-heard : coordinated d (fallen later (fallen loss g)) ≡ fallen loss (coordinated d (fallen loss g))
  meets-heard = ap (coordinated d) found-again ∙ sym looked-again

  pub meets-crossed : coordinated d (fallen later (crossed_by (fallen loss g))) ≡ crossed_by (fallen loss (coordinated d (fallen loss g)))
  meets-crossed =
      ap (coordinated d) (sym (crossed-loss later (fallen loss g)) ∙ ap crossed_by found-again)
      ∙ (message-crossed d (fallen loss g) ∙ ap crossed_by (sym looked-again))

-- A loss that stands at one reading stands at every later one until the session's own next call, so looking for it at the last is enough: what is
-- kept, and what is told.
module _ (earlier later : Bool) (l : earlier ≡ true → later ≡ true) (g : Group) where
  pub looked-later : fallen later (fallen earlier g) ≡ fallen later g
  looked-later = split earlier (λ a. rw (a, l a) (loss-loss true true g)) (λ a. rw a)

  pub told-later : (up : Bool) → group_report later up (fallen earlier g) ≡ group_report later up g
  told-later up = ap (report_of up) looked-later
