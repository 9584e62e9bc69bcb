-- The source MEP-ID (RFC 6428, 3.5): a 16-bit type, a 16-bit length, and a value of so many octets.
-- Section (type 0): Global_ID, Node, Interface. LSP (type 1): Global_ID, Node, and the 16-bit Tunnel and LSP numbers, here one
-- 32-bit number. Pseudowire (type 2): Global_ID, Node, AC_ID, AGI type, AGI length, and the AGI, here four words of 8 octets.
-- Assumes nothing.
use Rattle.std.specs.Prelude.{ℕ, ◌+◌, ◌-◌, ◌*◌, ◌/◌, ◌^◌, ◌<◌, List, [], ◌∷◌, Bool, cond, ◌&&◌, ◌||◌, get_or, take, drop, ltb, eqb}
use Rattle.octets.specs.Numbers.{number_at, octets_of}
use Rattle.octets.specs.Choice.{Answer, answer}
use Rattle.cv.specs.declared.Agi.{Agi}
use Rattle.cv.specs.declared.MepId.{MepId}
use Rattle.cv.specs.Forms.{value_length, mep_refusal}

-- the AGI of the MEP-ID from place `at`
abbrev pub agi_at : List ℕ → ℕ → Agi
agi_at s at = record { first = number_at 8 s (at + 18); second = number_at 8 s (at + 26); third = number_at 8 s (at + 34); fourth = number_at 8 s (at + 42) }

-- the MEP-ID from place `at` of a list that ends where it does: what lies past the end counts as 0, so that types 0 and 1 have
-- no AGI and noughts stand behind a short one
abbrev pub mep_id_at : List ℕ → ℕ → MepId
mep_id_at s at =
    record {
      agi = agi_at s at;
      global = number_at 4 s (at + 4);
      node = number_at 4 s (at + 8);
      local = number_at 4 s (at + 12);
      kind = number_at 2 s at;
      group = get_or s (at + 16) 0;
      size = get_or s (at + 17) 0;
    }

-- the octets of the MEP-ID from place `at`, type to end: as many as its length says, as far as they are there
abbrev pub stretch_at : List ℕ → ℕ → List ℕ
stretch_at s at = take (4 + number_at 2 s (at + 2)) (drop at s)

-- its 18 octets before the AGI, before the octets of rest
unfoldable pub head_octets : MepId → List ℕ → List ℕ
head_octets id rest =
    octets_of 2 id.kind
    (octets_of 2 (value_length id.kind id.size)
    (octets_of 4 id.global (octets_of 4 id.node (octets_of 4 id.local (id.group ∷ id.size ∷ rest)))))

-- the 32 octets that hold an AGI, and all 50
unfoldable pub agi_octets : Agi → List ℕ
agi_octets g = octets_of 8 g.first (octets_of 8 g.second (octets_of 8 g.third (octets_of 8 g.fourth [])))

abbrev pub whole_octets : MepId → List ℕ
whole_octets id = head_octets id (agi_octets id.agi)

-- its octets, type to end: as many as the length says
unfoldable pub mep_octets : MepId → List ℕ
mep_octets id = take (4 + value_length id.kind id.size) (whole_octets id)

-- the first n octets of a word of 8, as a number
unfoldable pub front_of : ℕ → ℕ → ℕ
front_of n word = word / 256 ^ (8 - n)

-- the same first n octets
unfoldable pub same_agi : ℕ → Agi → Agi → Bool
same_agi n a b =
    eqb (front_of n a.first) (front_of n b.first)
    && eqb (front_of (n - 8) a.second) (front_of (n - 8) b.second)
    && eqb (front_of (n - 16) a.third) (front_of (n - 16) b.third)
    && eqb (front_of (n - 24) a.fourth) (front_of (n - 24) b.fourth)

-- the same AGI: type, length and octets
unfoldable pub same_group : MepId → MepId → Bool
same_group a b = eqb a.group b.group && eqb a.size b.size && same_agi a.size a.agi b.agi

-- one MEP-ID: the same type and the same value
unfoldable pub same_mep_id : MepId → MepId → Bool
same_mep_id a b =
    eqb a.kind b.kind && eqb a.global b.global && eqb a.node b.node && eqb a.local b.local
    && (ltb a.kind 2 || same_group a b)

-- a word whose octets behind the first n are nought
unfoldable pub kept : ℕ → ℕ → ℕ
kept n word = front_of n word * 256 ^ (8 - n)

abbrev pub kept_agi : ℕ → Agi → Agi
kept_agi n g = record { first = kept n g.first; second = kept (n - 8) g.second; third = kept (n - 16) g.third; fourth = kept (n - 24) g.fourth }

abbrev pub no_agi : Agi
no_agi = record { first = 0; second = 0; third = 0; fourth = 0 }

-- a MEP-ID with nought where nobody's field is: all of the AGI for types 0 and 1, the octets past the AGI length for type 2
unfoldable pub plain_mep : MepId → MepId
plain_mep id =
    record {
      agi = cond (ltb id.kind 2) no_agi (kept_agi id.size id.agi);
      global = id.global;
      node = id.node;
      local = id.local;
      kind = id.kind;
      group = cond (ltb id.kind 2) 0 id.group;
      size = cond (ltb id.kind 2) 0 id.size;
    }

-- what reading a MEP-ID alone says, from its octets, type to end; octets behind them are padding
unfoldable pub read_mep : List ℕ → Answer MepId
read_mep s = answer (mep_refusal s 0) (mep_id_at (stretch_at s 0) 0)

-- the numbers as the code's types have them
pub record MepSized (id : MepId) : Type 0 where
  pub first : id.agi.first < 256 ^ 8
  pub second : id.agi.second < 256 ^ 8
  pub third : id.agi.third < 256 ^ 8
  pub fourth : id.agi.fourth < 256 ^ 8
  pub global : id.global < 256 ^ 4
  pub node : id.node < 256 ^ 4
  pub local : id.local < 256 ^ 4
  pub kind : id.kind < 256 ^ 2
  pub group : id.group < 256
  pub size : id.size < 256
