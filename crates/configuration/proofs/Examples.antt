-- The examples of readings 45 to 52 (`docs/DECISIONS.md`), worked out by the definition itself.
-- Assumes nothing.
use mathlib.Core.Path.{◌≡◌, refl}
use mathlib.Core.List.{List, [], ◌∷◌, ◌++◌}
use Prim.Native.Nat.{ℕ}
use Rattle.octets.specs.Numbers.{octets_of}
use Rattle.octets.specs.Choice.{Answer, accepted, refused}
use Rattle.rules.specs.Lists.{any, only}
use Rattle.configuration.specs.Entries.{padded_size, entry_at, following, each, with_held, entries_in}
use Rattle.configuration.specs.declared.Offer.{Offer}
use Rattle.configuration.specs.Reading.{wrong_length, number_in, refusal_of, read_configuration}
use Rattle.configuration.specs.Octets.{configuration_octets}

-- 32-bit numbers as octets
abbrev octets : List ℕ → List ℕ
octets [] = []
octets (n ∷ ns) = octets_of 4 n (octets ns)

-- discriminator 17 and period 1,000,000, as they are written
abbrev written : List ℕ
written = octets (0x00100024 ∷ 0x00000000 ∷ 0x0001001c ∷ 0x00000000 ∷ 0x00010004 ∷ 0x00000011 ∷ 0x0002000c ∷ 0x000f4240 ∷ 0x00000000 ∷ 0x00000000 ∷ [])

pub written_is : configuration_octets 17 1000000 ≡ written
unfolding configuration_octets
written_is = refl

-- a setting, octets, and what reading says
record Example : Type 0 where
  setting : ℕ
  given : List ℕ
  says : Answer Offer

abbrev reads : ℕ → List ℕ → Example
reads setting given = record { setting = setting; given = given; says = accepted (record { discriminator = 17; period = 1000000 }) }

abbrev refuses : ℕ → List ℕ → ℕ → Example
refuses setting given n = record { setting = setting; given = given; says = refused n }

abbrev answers : List Example → List (Answer Offer)
answers [] = []
answers (x ∷ xs) = read_configuration x.setting x.given ∷ answers xs

abbrev expected : List Example → List (Answer Offer)
expected [] = []
expected (x ∷ xs) = x.says ∷ expected xs

-- reading 45: BFD Authentication is known by the setting: with 3 its length of 5 is not allowed, with 7 the entry is unknown; 1 and 2 are taken
abbrev reading-45 : List Example
reading-45 =
    refuses 3 (octets (0x00100030 ∷ 0x00000000 ∷ 0x00010028 ∷ 0x00000000 ∷ 0x00010004 ∷ 0x00000011 ∷ 0x0002000c ∷ 0x000f4240 ∷ 0x00000000 ∷ 0x00000000 ∷ 0x00030005 ∷ 0x00000000 ∷ 0x00000000 ∷ [])) 17
    ∷ reads 7 (octets (0x00100030 ∷ 0x00000000 ∷ 0x00010028 ∷ 0x00000000 ∷ 0x00010004 ∷ 0x00000011 ∷ 0x0002000c ∷ 0x000f4240 ∷ 0x00000000 ∷ 0x00000000 ∷ 0x00030005 ∷ 0x00000000 ∷ 0x00000000 ∷ []))
    ∷ refuses 1 (octets (0x00100024 ∷ 0x00000000 ∷ 0x0001001c ∷ 0x00000000 ∷ 0x00010004 ∷ 0x00000011 ∷ 0x0002000c ∷ 0x000f4240 ∷ 0x00000000 ∷ 0x00000000 ∷ [])) 10
    ∷ refuses 2 [] 10 ∷ []

-- reading 46: a 17 before a 16, and without the octet that is one too many
abbrev reading-46 : List Example
reading-46 =
    refuses 3 (octets (0x00100024 ∷ 0x00000000 ∷ 0x0001001c ∷ 0x00000000 ∷ 0x00010003 ∷ 0x00001100 ∷ 0x0002000c ∷ 0x000f4240 ∷ 0x00000000 ∷ 0x00000000 ∷ []) ++ (0x00 ∷ [])) 16
    ∷ refuses 3 (octets (0x00100024 ∷ 0x00000000 ∷ 0x0001001c ∷ 0x00000000 ∷ 0x00010003 ∷ 0x00001100 ∷ 0x0002000c ∷ 0x000f4240 ∷ 0x00000000 ∷ 0x00000000 ∷ [])) 17 ∷ []

-- reading 47: a second OAM Functions, with a stray octet behind its flags and without
abbrev reading-47 : List Example
reading-47 =
    refuses 3 (written ++ (octets (0x00100005 ∷ 0x00000000 ∷ 0x00000000 ∷ []))) 16
    ∷ refuses 3 (written ++ (octets (0x00100004 ∷ 0x00000000 ∷ []))) 18 ∷ []

-- reading 48: octets left over; an entry of type 0 and length 0; padding outside its holder, and inside
abbrev reading-48 : List Example
reading-48 =
    refuses 3 (written ++ (0x00 ∷ 0x00 ∷ 0x00 ∷ [])) 16
    ∷ reads 3 (written ++ (octets (0x00000000 ∷ [])))
    ∷ refuses 3 (octets (0x0010002c ∷ 0x00000000 ∷ 0x00010021 ∷ 0x00000000 ∷ 0x00010004 ∷ 0x00000011 ∷ 0x0002000c ∷ 0x000f4240 ∷ 0x00000000 ∷ 0x00000000 ∷ 0x00090001 ∷ 0x01000000 ∷ [])) 16
    ∷ reads 3 (octets (0x0010002c ∷ 0x00000000 ∷ 0x00010024 ∷ 0x00000000 ∷ 0x00010004 ∷ 0x00000011 ∷ 0x0002000c ∷ 0x000f4240 ∷ 0x00000000 ∷ 0x00000000 ∷ 0x00090001 ∷ 0x01000000 ∷ [])) ∷ []

-- reading 49: a holder with too few octets for its flags, with its flags alone, and none
abbrev reading-49 : List Example
reading-49 =
    refuses 3 (octets (0x00100003 ∷ 0x00000000 ∷ [])) 17
    ∷ refuses 3 (octets (0x00100004 ∷ 0x00000000 ∷ [])) 18
    ∷ refuses 3 [] 18 ∷ []

-- reading 50: flags, receive and echo interval are not looked at; the timers first
abbrev reading-50 : List Example
reading-50 =
    reads 3 (octets (0x00100024 ∷ 0xffffffff ∷ 0x0001001c ∷ 0xffffffff ∷ 0x0002000c ∷ 0x000f4240 ∷ 0xffffffff ∷ 0xffffffff ∷ 0x00010004 ∷ 0x00000011 ∷ [])) ∷ []

-- reading 51: a type that is known elsewhere is passed over, whatever is in it
abbrev reading-51 : List Example
reading-51 =
    reads 3 (octets (0x00100030 ∷ 0x00000000 ∷ 0x00010028 ∷ 0x00000000 ∷ 0x00010004 ∷ 0x00000011 ∷ 0x0002000c ∷ 0x000f4240 ∷ 0x00000000 ∷ 0x00000000 ∷ 0x00100008 ∷ 0x0001ffff ∷ 0xffffffff ∷ [])) ∷ []

-- reading 52: discriminator 0, alone, and with the timers twice
abbrev reading-52 : List Example
reading-52 =
    refuses 3 (octets (0x00100024 ∷ 0x00000000 ∷ 0x0001001c ∷ 0x00000000 ∷ 0x00010004 ∷ 0x00000000 ∷ 0x0002000c ∷ 0x000f4240 ∷ 0x00000000 ∷ 0x00000000 ∷ [])) 10
    ∷ refuses 3 (octets (0x00100034 ∷ 0x00000000 ∷ 0x0001002c ∷ 0x00000000 ∷ 0x00010004 ∷ 0x00000000 ∷ 0x0002000c ∷ 0x000f4240 ∷ 0x00000000 ∷ 0x00000000 ∷ 0x0002000c ∷ 0x000f4240 ∷ 0x00000000 ∷ 0x00000000 ∷ [])) 18 ∷ []

abbrev examples : List Example
examples = reads 3 written ∷ reading-45 ++ (reading-46 ++ (reading-47 ++ (reading-48 ++ (reading-49 ++ (reading-50 ++ (reading-51 ++ (reading-52)))))))

pub examples-hold : answers examples ≡ expected examples
unfolding any only padded_size entry_at following each with_held entries_in wrong_length number_in refusal_of read_configuration
examples-hold = refl
