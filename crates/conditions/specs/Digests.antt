-- What the code keeps of a place to test 26, and how it tells from two such digests that two standing conditions have one key.
-- Nobody has to believe this: the rule is `clash`, in Soundness, and the digests are proved to tell it.
-- Assumes nothing.
use Rattle.std.specs.Prelude.{ℕ, ◌+◌, ◌*◌, Bool, true, false, cond, not, ◌&&◌, eqb}
use Rattle.rules.specs.declared.Key.{Key}
use Rattle.conditions.specs.declared.Condition.{Condition}
use Rattle.conditions.specs.declared.sound.Digest.{Digest}
use Rattle.conditions.specs.Standing.{place_stands}
use Rattle.conditions.specs.Soundness.{place_sound}

-- of a place where nothing stands, whether its fields are sound
abbrev pub blank_of : Bool → Digest
blank_of sound = record { sound = sound; tag = 0; word = 0 }

-- a number that is there only where its mark is not 0
unfoldable pub marked_by : ℕ → ℕ → ℕ
marked_by mark number = cond (eqb mark 0) 0 number

-- type and marks above the Global_ID
unfoldable pub tag_with : ℕ → ℕ → ℕ → ℕ → ℕ
tag_with kind present carrier global = (4 * kind + 2 * present + carrier) * 4294967296 + marked_by carrier global

abbrev pub tag_of : Key → ℕ
tag_of k = tag_with k.kind k.present k.carrier k.global

-- the interface above the node; 0 where there is no IF_ID
abbrev pub word_of : Key → ℕ
word_of k = marked_by k.present (k.interface * 4294967296 + k.node)

abbrev pub key_digest : Key → Digest
key_digest k = record { sound = true; tag = tag_of k; word = word_of k }

-- the key of a sound condition that stands, and nothing of any other
unfoldable pub digest_of : Condition → ℕ → Digest
digest_of c clock = cond (place_sound c clock) (cond (place_stands c clock) (key_digest c.key) (blank_of true)) (blank_of false)

-- something stands, and tags and words are equal
unfoldable pub alike : Digest → Digest → Bool
alike x y = not (eqb y.tag 0) && eqb x.tag y.tag && eqb x.word y.word
