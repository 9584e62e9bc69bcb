-- 26 for the four places, as the code tests it: each field in its range, no date above the clock, no two standing conditions of one key.
-- Nothing is asked of an empty place. What 26 means is said in Unsound, and the test is proved to fail exactly there.
-- Assumes nothing.
use Rattle.std.specs.Prelude.{ℕ, Bool, not, ◌&&◌, ◌||◌, ltb, leb}
use Rattle.rules.specs.Conditions.{same_key}
use Rattle.conditions.specs.declared.Condition.{Condition}
use Rattle.conditions.specs.declared.Conditions.{Conditions}
use Rattle.conditions.specs.Standing.{filled, fresh}

-- type 1 or 2, marks 0 or 1, refresh 1 to 20, dated no later than the clock
abbrev pub fields_sound : ℕ → ℕ → ℕ → ℕ → ℕ → ℕ → ℕ → Bool
fields_sound kind present carrier linkdown refresh at clock =
    leb kind 2 && ltb present 2 && ltb carrier 2 && ltb linkdown 2 && leb 1 refresh && leb refresh 20 && leb at clock

unfoldable pub place_sound : Condition → ℕ → Bool
place_sound c clock =
    not (filled c) || fields_sound c.key.kind c.key.present c.key.carrier c.linkdown c.refresh c.at clock

-- two conditions of one key, both standing at the clock
unfoldable pub clash : Condition → Condition → ℕ → Bool
clash a b clock = filled a && filled b && same_key a.key b.key && fresh a clock && fresh b clock

unfoldable pub no_clash : Conditions → ℕ → Bool
no_clash cs clock =
    (not (clash cs.first cs.second clock) && not (clash cs.first cs.third clock) && not (clash cs.first cs.fourth clock))
    && not (clash cs.second cs.third clock) && not (clash cs.second cs.fourth clock) && not (clash cs.third cs.fourth clock)

unfoldable pub places_sound : Conditions → ℕ → Bool
places_sound cs clock =
    place_sound cs.first clock && place_sound cs.second clock && place_sound cs.third clock && place_sound cs.fourth clock

unfoldable pub conditions_sound : Conditions → ℕ → Bool
conditions_sound cs clock = places_sound cs clock && no_clash cs clock
