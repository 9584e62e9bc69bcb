-- The answer from the marks, the session's record and the clock, by numbers alone: what the code computes.
-- Assumes nothing.
use Rattle.std.specs.Prelude.{ℕ, suc, ◌+◌, ◌-◌, min, Bool, cond, ◌&&◌, ◌||◌, ltb, eqb}
use Rattle.std.proofs.Math.Option.{Option, none, some}
use Rattle.octets.specs.Choice.{Answer, accepted, refused}
use Rattle.rules.specs.declared.Key.{Key}
use Rattle.rules.specs.Times.{crossing_time, detection_time, lifetime}
use Rattle.rules.specs.Conditions.{same_key}
use Rattle.conditions.specs.declared.Condition.{Condition}
use Rattle.conditions.specs.declared.Conditions.{Conditions}
use Rattle.conditions.specs.Standing.{place_stands}
use Rattle.session.specs.declared.Session.{Session}
use Rattle.session.specs.Queries.{loss_at, crossing_at}
use Rattle.cause.specs.declared.Cause.{Cause}
use Rattle.cause.specs.declared.Thing.{Thing}
use Rattle.cause.specs.declared.Thing.TheVariants.{Crossing, Loss, Condition as OfKey, HeldBack}
use Rattle.cause.specs.declared.Marks.{Marks}
use Rattle.cause.specs.declared.answer.Candidate.{Candidate}

-- a date so much later; it stays at the greatest number, which no date of a table in order comes near
abbrev pub later_by : ℕ → ℕ → ℕ
later_by at time = min (at + time) 18446744073709551615

abbrev pub candidate : Bool → Condition → ℕ → Candidate
candidate test c n = record { place = c; number = n; end = later_by c.at (lifetime c.refresh); stands = test }

abbrev pub ends_before : Candidate → Candidate → Bool
ends_before j k = ltb j.end k.end || eqb j.end k.end && ltb j.number k.number

-- of two the one that ends last, of equal ends the greater number; one that is none yields
abbrev pub later_of : Candidate → Candidate → Candidate
later_of j k = cond j.stands (cond k.stands (cond (ends_before j k) k j) j) k

-- of the four places, each a candidate or none
abbrev pub best_four : Bool → Bool → Bool → Bool → Conditions → Marks → Candidate
best_four a b c d cs m =
    later_of (candidate a cs.first m.first)
    (later_of (candidate b cs.second m.second)
    (later_of (candidate c cs.third m.third) (candidate d cs.fourth m.fourth)))

-- of the four places that pass a test
abbrev pub best_of : (Condition → Bool) → Conditions → Marks → Candidate
best_of p cs m = best_four (p cs.first) (p cs.second) (p cs.third) (p cs.fourth) cs m

abbrev pub because : Bool → ℕ → ℕ → ℕ → ℕ → Answer Cause
because test now number at end = cond test (accepted (record { number = number; reading = at; age = now - at; end = end })) (refused 15)

abbrev pub because_of : ℕ → Candidate → Answer Cause
because_of now c = because c.stands now c.number c.place.at c.end

-- a condition of the key stands in the place
abbrev pub stands_as : Key → ℕ → Condition → Bool
stands_as key now c = place_stands c now && same_key c.key key

unfoldable pub cause_from : Marks → Session → ℕ → Thing → Answer Cause
cause_from m r now Crossing = because (crossing_at r now) now m.crossed r.crossed (later_by r.crossed crossing_time)
cause_from m r now Loss = because (loss_at r now) now m.timed r.timed (later_by r.timed (suc (detection_time r.settings.period r.peer.multiplier)))
cause_from m r now (OfKey key) = because_of now (best_of (stands_as key now) r.conditions m)
cause_from m r now HeldBack = cond (loss_at r now) (because_of now (best_of (λ c. place_stands c now) r.conditions m)) (refused 15)

-- 2 where the label has no record
abbrev pub why_from : Marks → Option Session → ℕ → Thing → Answer Cause
why_from m none now thing = refused 2
why_from m (some r) now thing = cause_from m r now thing
