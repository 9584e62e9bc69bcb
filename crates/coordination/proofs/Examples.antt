-- Worked DHC messages, by the definitions themselves.
-- Assumes nothing.
use mathlib.Core.Path.{◌≡◌, refl}
use mathlib.Core.Bool.{true, false}
use mathlib.Core.List.{List, [], ◌∷◌, ◌++◌}
use Prim.Native.Nat.{ℕ}
use lib.ListN.{replicate}
use Rattle.octets.specs.Numbers.{octets_of}
use Rattle.octets.specs.Writing.{Written, writing}
use Rattle.octets.specs.Choice.{Answer, accepted, refused}
use Rattle.gach.specs.Header.{header_refusal, channel_refusal}
use Rattle.coordination.specs.declared.Dhc.{Dhc}
use Rattle.coordination.specs.Carried.{OptionalStatus}
use Rattle.coordination.specs.Carried.{NoStatus, AStatus}
use Rattle.coordination.specs.Carried.{OptionalSwitching}
use Rattle.coordination.specs.Carried.{NoSwitching, ASwitching}
use Rattle.coordination.specs.Tlvs.{repeated, wrong_length, wrong_tlv, tlvs_of}
use Rattle.coordination.specs.Message.{tlvs_refusal, refusal_with, dhc_refusal, status_at, switching_at, dhc_of, read_dhc}
use Rattle.coordination.specs.Octets.{field_refusal, dhc_octets}

-- 32-bit numbers as octets
abbrev octets : List ℕ → List ℕ
octets [] = []
octets (n ∷ ns) = octets_of 4 n (octets ns)

-- both TLVs with every bit set, as they are written
pub written_is : dhc_octets
    (record {
      id = 0x01020304;
      status = AStatus 0x0a0a0a0a 0x0b0b0b0b 0x0c0c0c0c true true true;
      switching = ASwitching 0x0a0a0a0a 0x0b0b0b0b 0x0c0c0c0c true true;
    })
    ≡ octets (0x10000009 ∷ 0x01020304 ∷ 0x002c0000 ∷ 0x00010014 ∷ 0x0a0a0a0a ∷ 0x0b0b0b0b ∷ 0x0c0c0c0c ∷ 0x00000001 ∷ 0x00000003
    ∷ 0x00020010 ∷ 0x0a0a0a0a ∷ 0x0b0b0b0b ∷ 0x0c0c0c0c ∷ 0x00000003 ∷ [])
unfolding dhc_octets
written_is = refl

-- octets, and what reading says
record Example : Type 0 where
  given : List ℕ
  says : Answer Dhc

-- read, with Dual-Homing Group ID 7
abbrev reads : List ℕ → OptionalStatus → OptionalSwitching → Example
reads given status switching = record { given = given; says = accepted (record { id = 7; status = status; switching = switching }) }

abbrev refuses : List ℕ → ℕ → Example
refuses given n = record { given = given; says = refused n }

abbrev answers : List Example → List (Answer Dhc)
answers [] = []
answers (x ∷ xs) = read_dhc x.given ∷ answers xs

abbrev expected : List Example → List (Answer Dhc)
expected [] = []
expected (x ∷ xs) = x.says ∷ expected xs

-- both, and either alone
abbrev either_there : List Example
either_there =
    reads (octets (0x10000009 ∷ 0x00000007 ∷ 0x002c0000 ∷ 0x00010014 ∷ 0x00000001 ∷ 0x00000037 ∷ 0x00000002 ∷ 0x00000001 ∷ 0x00000002 ∷ 0x00020010 ∷ 0x00000001 ∷ 0x00000038 ∷ 0x00000002 ∷ 0x00000002 ∷ [])) (AStatus 1 55 2 true true false) (ASwitching 1 56 2 true false)
    ∷ reads (octets (0x10000009 ∷ 0x00000007 ∷ 0x00180000 ∷ 0x00010014 ∷ 0x00000001 ∷ 0x00000037 ∷ 0x00000002 ∷ 0x00000001 ∷ 0x00000002 ∷ [])) (AStatus 1 55 2 true true false) (NoSwitching)
    ∷ reads (octets (0x10000009 ∷ 0x00000007 ∷ 0x00140000 ∷ 0x00020010 ∷ 0x00000001 ∷ 0x00000038 ∷ 0x00000002 ∷ 0x00000002 ∷ [])) (NoStatus) (ASwitching 1 56 2 true false)
    ∷ []

-- what is not looked at may be anything, and so may octets behind the TLVs
abbrev unread : List Example
unread =
    reads (octets (0x10ff0009 ∷ 0x00000007 ∷ 0x002cffff ∷ 0x00010014 ∷ 0x00000001 ∷ 0x00000037 ∷ 0x00000002 ∷ 0xfffffffd ∷ 0xfffffffe ∷ 0x00020010 ∷ 0x00000001 ∷ 0x00000038 ∷ 0x00000002 ∷ 0xfffffffe ∷ [])) (AStatus 1 55 2 true true false) (ASwitching 1 56 2 true false)
    ∷ reads (octets (0x10000009 ∷ 0x00000007 ∷ 0x002c0000 ∷ 0x00010014 ∷ 0x00000001 ∷ 0x00000037 ∷ 0x00000002 ∷ 0x00000001 ∷ 0x00000002 ∷ 0x00020010 ∷ 0x00000001 ∷ 0x00000038 ∷ 0x00000002 ∷ 0x00000002 ∷ 0x00010014 ∷ [])) (AStatus 1 55 2 true true false) (ASwitching 1 56 2 true false)
    ∷ []

-- the other order; other types before, between and behind
abbrev any_order : List Example
any_order =
    reads (octets (0x10000009 ∷ 0x00000007 ∷ 0x002c0000 ∷ 0x00020010 ∷ 0x00000001 ∷ 0x00000038 ∷ 0x00000002 ∷ 0x00000002 ∷ 0x00010014 ∷ 0x00000001 ∷ 0x00000037 ∷ 0x00000002 ∷ 0x00000001 ∷ 0x00000002 ∷ [])) (AStatus 1 55 2 true true false) (ASwitching 1 56 2 true false)
    ∷ reads (octets (0x10000009 ∷ 0x00000007 ∷ 0x00300000 ∷ 0x00030000 ∷ 0x00010014 ∷ 0x00000001 ∷ 0x00000037 ∷ 0x00000002 ∷ 0x00000001 ∷ 0x00000002 ∷ 0x00020010 ∷ 0x00000001 ∷ 0x00000038 ∷ 0x00000002 ∷ 0x00000002 ∷ [])) (AStatus 1 55 2 true true false) (ASwitching 1 56 2 true false)
    ∷ reads (octets (0x10000009 ∷ 0x00000007 ∷ 0x00320000 ∷ 0x00010014 ∷ 0x00000001 ∷ 0x00000037 ∷ 0x00000002 ∷ 0x00000001 ∷ 0x00000002 ∷ 0x00030002 ∷ 0x01020002 ∷ 0x00100000 ∷ 0x00010000 ∷ 0x00380000 ∷ 0x00020000 ∷ []) ++ (0 ∷ 2 ∷ [])) (AStatus 1 55 2 true true false) (ASwitching 1 56 2 true false)
    ∷ reads (octets (0x10000009 ∷ 0x00000007 ∷ 0x00350000 ∷ 0x00010014 ∷ 0x00000001 ∷ 0x00000037 ∷ 0x00000002 ∷ 0x00000001 ∷ 0x00000002 ∷ 0x00020010 ∷ 0x00000001 ∷ 0x00000038 ∷ 0x00000002 ∷ 0x00000002 ∷ 0xffff0005 ∷ 0xaabbccdd ∷ []) ++ (238 ∷ [])) (AStatus 1 55 2 true true false) (ASwitching 1 56 2 true false)
    ∷ []

-- 3: under 4 octets, under 12, and a total past the end by one octet
abbrev short : List Example
short =
    refuses (16 ∷ 0 ∷ 0 ∷ []) 3
    ∷ refuses (octets (0x10000009 ∷ 0x00000007 ∷ []) ++ (0 ∷ 0 ∷ [])) 3
    ∷ refuses (octets (0x10000009 ∷ 0x00000007 ∷ 0x002c0000 ∷ 0x00010014 ∷ 0x00000001 ∷ 0x00000037 ∷ 0x00000002 ∷ 0x00000001 ∷ 0x00000002 ∷ 0x00020010 ∷ 0x00000001 ∷ 0x00000038 ∷ 0x00000002 ∷ []) ++ (0 ∷ 0 ∷ 0 ∷ [])) 3
    ∷ refuses (octets (0x10000009 ∷ 0x00000007 ∷ 0x002d0000 ∷ 0x00010014 ∷ 0x00000001 ∷ 0x00000037 ∷ 0x00000002 ∷ 0x00000001 ∷ 0x00000002 ∷ 0x00020010 ∷ 0x00000001 ∷ 0x00000038 ∷ 0x00000002 ∷ 0x00000002 ∷ [])) 3
    ∷ []

-- 4 and 5 before that
abbrev header : List Example
header =
    refuses (octets (0x00000009 ∷ 0x00000007 ∷ 0x00140000 ∷ 0x00020010 ∷ 0x00000001 ∷ 0x00000038 ∷ 0x00000002 ∷ 0x00000002 ∷ [])) 4
    ∷ refuses (octets (0x11000009 ∷ [])) 4
    ∷ refuses (octets (0x1000000a ∷ [])) 5
    ∷ []

-- 3 before 25
abbrev short_first : List Example
short_first =
    refuses (octets (0x10000009 ∷ 0x00000007 ∷ 0x00090000 ∷ 0x00010001 ∷ [])) 3
    ∷ []

-- 25: neither there
abbrev neither_there : List Example
neither_there =
    refuses (octets (0x10000009 ∷ 0x00000007 ∷ 0x00000000 ∷ [])) 25
    ∷ refuses (octets (0x10000009 ∷ 0x00000007 ∷ 0x00040000 ∷ 0x00030000 ∷ [])) 25
    ∷ []

-- either twice
abbrev twice : List Example
twice =
    refuses (octets (0x10000009 ∷ 0x00000007 ∷ 0x00300000 ∷ 0x00010014 ∷ 0x00000001 ∷ 0x00000037 ∷ 0x00000002 ∷ 0x00000001 ∷ 0x00000002 ∷ 0x00010014 ∷ 0x00000001 ∷ 0x00000037 ∷ 0x00000002 ∷ 0x00000001 ∷ 0x00000002 ∷ [])) 25
    ∷ refuses (octets (0x10000009 ∷ 0x00000007 ∷ 0x00280000 ∷ 0x00020010 ∷ 0x00000001 ∷ 0x00000038 ∷ 0x00000002 ∷ 0x00000002 ∷ 0x00020010 ∷ 0x00000001 ∷ 0x00000038 ∷ 0x00000002 ∷ 0x00000002 ∷ [])) 25
    ∷ []

-- of another length: one less, one more
abbrev other_length : List Example
other_length =
    refuses (octets (0x10000009 ∷ 0x00000007 ∷ 0x00170000 ∷ 0x00010013 ∷ 0x00000001 ∷ 0x00000037 ∷ 0x00000002 ∷ 0x00000001 ∷ []) ++ (0 ∷ 0 ∷ 0 ∷ [])) 25
    ∷ refuses (octets (0x10000009 ∷ 0x00000007 ∷ 0x00190000 ∷ 0x00010015 ∷ 0x00000001 ∷ 0x00000037 ∷ 0x00000002 ∷ 0x00000001 ∷ 0x00000002 ∷ []) ++ (0 ∷ [])) 25
    ∷ refuses (octets (0x10000009 ∷ 0x00000007 ∷ 0x00130000 ∷ 0x0002000f ∷ 0x00000001 ∷ 0x00000038 ∷ 0x00000002 ∷ []) ++ (0 ∷ 0 ∷ 0 ∷ [])) 25
    ∷ refuses (octets (0x10000009 ∷ 0x00000007 ∷ 0x00150000 ∷ 0x00020011 ∷ 0x00000001 ∷ 0x00000038 ∷ 0x00000002 ∷ 0x00000002 ∷ []) ++ (0 ∷ [])) 25
    ∷ []

-- past the total, though octets are there; one to three octets left
abbrev past_total : List Example
past_total =
    refuses (octets (0x10000009 ∷ 0x00000007 ∷ 0x00170000 ∷ 0x00010014 ∷ 0x00000001 ∷ 0x00000037 ∷ 0x00000002 ∷ 0x00000001 ∷ 0x00000002 ∷ [])) 25
    ∷ refuses (octets (0x10000009 ∷ 0x00000007 ∷ 0x001c0000 ∷ 0x00010014 ∷ 0x00000001 ∷ 0x00000037 ∷ 0x00000002 ∷ 0x00000001 ∷ 0x00000002 ∷ 0x00030001 ∷ []) ++ (0 ∷ [])) 25
    ∷ reads (octets (0x10000009 ∷ 0x00000007 ∷ 0x001d0000 ∷ 0x00010014 ∷ 0x00000001 ∷ 0x00000037 ∷ 0x00000002 ∷ 0x00000001 ∷ 0x00000002 ∷ 0x00030001 ∷ []) ++ (0 ∷ [])) (AStatus 1 55 2 true true false) (NoSwitching)
    ∷ refuses (octets (0x10000009 ∷ 0x00000007 ∷ 0x00190000 ∷ 0x00010014 ∷ 0x00000001 ∷ 0x00000037 ∷ 0x00000002 ∷ 0x00000001 ∷ 0x00000002 ∷ []) ++ (0 ∷ [])) 25
    ∷ refuses (octets (0x10000009 ∷ 0x00000007 ∷ 0x001b0000 ∷ 0x00010014 ∷ 0x00000001 ∷ 0x00000037 ∷ 0x00000002 ∷ 0x00000001 ∷ 0x00000002 ∷ []) ++ (0 ∷ 3 ∷ 0 ∷ [])) 25
    ∷ reads (octets (0x10000009 ∷ 0x00000007 ∷ 0x001c0000 ∷ 0x00010014 ∷ 0x00000001 ∷ 0x00000037 ∷ 0x00000002 ∷ 0x00000001 ∷ 0x00000002 ∷ 0x00030000 ∷ [])) (AStatus 1 55 2 true true false) (NoSwitching)
    ∷ []

abbrev examples : List Example
examples = either_there ++ (unread ++ (any_order ++ (short ++ (header ++ (short_first ++ (neither_there ++ (twice ++ (other_length ++ (past_total)))))))))

pub examples-hold : answers examples ≡ expected examples
unfolding header_refusal channel_refusal repeated wrong_length wrong_tlv tlvs_of tlvs_refusal refusal_with dhc_refusal status_at switching_at dhc_of read_dhc
examples-hold = refl

-- written into so many octets of 170: what is answered, and the buffer afterwards
abbrev written : OptionalStatus → OptionalSwitching → ℕ → Written
written status switching room =
    writing (field_refusal (record { id = 7; status = status; switching = switching })) (dhc_octets (record { id = 7; status = status; switching = switching }))
    (replicate room 170)

-- 13 for one octet too few and not for all; 10 for neither TLV, before 13
pub rooms-hold : (written (AStatus 1 55 2 true true false) (ASwitching 1 56 2 true false) 55).answer
    ∷ (written (AStatus 1 55 2 true true false) (ASwitching 1 56 2 true false) 56).answer
    ∷ (written (AStatus 1 55 2 true true false) NoSwitching 35).answer
    ∷ (written (AStatus 1 55 2 true true false) NoSwitching 36).answer
    ∷ (written NoStatus (ASwitching 1 56 2 true false) 31).answer
    ∷ (written NoStatus (ASwitching 1 56 2 true false) 32).answer
    ∷ (written NoStatus NoSwitching 0).answer
    ∷ (written NoStatus NoSwitching 56).answer
    ∷ []
    ≡ 13 ∷ 0 ∷ 13 ∷ 0 ∷ 13 ∷ 0 ∷ 10 ∷ 10 ∷ []
unfolding writing dhc_octets
rooms-hold = refl

-- a refused write changes no octet, and an accepted one leaves those behind the message
pub buffers-hold : (written (AStatus 1 55 2 true true false) NoSwitching 35).buffer
    ∷ (written NoStatus (ASwitching 1 56 2 true false) 34).buffer
    ∷ []
    ≡ replicate 35 170
    ∷ (octets (0x10000009 ∷ 0x00000007 ∷ 0x00140000 ∷ 0x00020010 ∷ 0x00000001 ∷ 0x00000038 ∷ 0x00000002 ∷ 0x00000002 ∷ []) ++ (170 ∷ 170 ∷ []))
    ∷ []
unfolding writing dhc_octets
buffers-hold = refl
