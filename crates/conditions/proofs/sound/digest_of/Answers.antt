use borrow.Author.Rules.{rules}
use borrow.Author.Tests.{eq-eqb, ne_eqb}
use Rattle.conditions.specs.Standing.{place_stands}
use Rattle.conditions.specs.Soundness.{place_sound}
use Rattle.conditions.specs.Digests.{digest_of}
use Rattle.conditions.proofs.sound.digest_of.Goals as goal

pub returns-then-c-eq0 : goal.returns-then-c-eq0
unfolding digest_of place_sound place_stands
returns-then-c-eq0 c = rw (c.blank.ensures, eq-eqb _ _ c.if-c-eq0.true)

pub returns-then-is_fresh : goal.returns-then-is_fresh
unfolding digest_of place_sound place_stands
returns-then-is_fresh c = rw (c.key_digest.ensures, ne_eqb _ _ c.if-c-eq0.false, ← c.fields_sound.ensures, c.if-fields_sound.true, ← c.is_fresh.ensures, c.if-is_fresh.true)

pub returns-then-fields_sound : goal.returns-then-fields_sound
unfolding digest_of place_sound place_stands
returns-then-fields_sound c = rw (c.blank-then-fields_sound.ensures, ne_eqb _ _ c.if-c-eq0.false, ← c.fields_sound.ensures, c.if-fields_sound.true, ← c.is_fresh.ensures, c.if-is_fresh.false)

pub returns : goal.returns
unfolding digest_of place_sound place_stands
returns c = rw (c.blank-2.ensures, ne_eqb _ _ c.if-c-eq0.false, ← c.fields_sound.ensures, c.if-fields_sound.false)
