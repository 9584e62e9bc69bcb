use mathlib.Core.Path.{sym, ◌∙◌}
use mathlib.Core.Bool.{true}
use borrow.Author.Rules.{rules}
use Rattle.conditions.proofs.Empties.{none_filled, first_alone}
use Rattle.conditions.proofs.sound.conditions_sound.Goals as goal

pub returns-then-four_empty : goal.returns-then-four_empty
returns-then-four_empty c = sym (none_filled _ _ (sym c.four_empty.ensures ∙ c.if-four_empty.true))

pub returns-then-three_empty : goal.returns-then-three_empty
returns-then-three_empty c = c.place_sound.ensures ∙ sym (first_alone _ _ (sym c.three_empty.ensures ∙ c.if-three_empty.true))

pub returns : goal.returns
returns c = c.several_sound.ensures
