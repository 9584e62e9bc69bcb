-- The TLVs of a fault message (RFC 6427): from octet 9 on, each a one-octet type, a one-octet length and a value.
-- Type 1 is IF_ID, of 8 octets, type 2 is Global_ID, of 4; other types are passed over. What is wrong with them is refusal 8.
-- Assumes nothing.
use Rattle.std.specs.Prelude.{ℕ, zero, suc, ◌+◌, List, Bool, true, false, cond, get_or, ltb, eqb}
use Rattle.octets.specs.Numbers.{number_at}
use Rattle.octets.specs.Choice.{need, bar}
use Rattle.fault.specs.declared.tlv.Tlvs.{Tlvs}

-- an IF_ID or a Global_ID that is the second of its type
unfoldable pub repeated : Tlvs → ℕ → Bool
repeated t kind = cond (eqb kind 1) t.ifid (cond (eqb kind 2) t.globalid false)

-- IF_ID has length 8, Global_ID has length 4, another type has any
unfoldable pub right_length : ℕ → ℕ → Bool
right_length kind size = cond (eqb kind 1) (eqb size 8) (cond (eqb kind 2) (eqb size 4) true)

-- the octet that is wrong in a TLV at the place t .at, of the TLVs that end at `end`, and 0 where none is. Its type octet where it is one stray octet, too
-- short for type and length, where it is a repeated type 1 or 2, and where its value goes past the end; its length octet for a wrong length of type 1 or 2
unfoldable pub bad_octet : Tlvs → ℕ → ℕ → ℕ → ℕ
bad_octet t end kind size =
    bar (ltb end (t.at + 2)) t.at
    (bar (repeated t kind) t.at
    (bar (ltb end (t.at + 2 + size)) t.at
    (need (right_length kind size) (t.at + 1) 0)))

-- the place t .at moved behind a TLV whose value has `size` octets
abbrev pub passed : Tlvs → ℕ → Tlvs
passed t size =
    record {
      at = t.at + 2 + size;
      bad = t.bad;
      ifid = t.ifid;
      node = t.node;
      interface = t.interface;
      globalid = t.globalid;
      global = t.global;
    }

-- an IF_ID with Node a and Interface b
abbrev pub with_if : Tlvs → ℕ → ℕ → Tlvs
with_if t a b =
    record {
      at = t.at;
      bad = t.bad;
      ifid = true;
      node = a;
      interface = b;
      globalid = t.globalid;
      global = t.global;
    }

-- a Global_ID a
abbrev pub with_global : Tlvs → ℕ → Tlvs
with_global t a =
    record {
      at = t.at;
      bad = t.bad;
      ifid = t.ifid;
      node = t.node;
      interface = t.interface;
      globalid = true;
      global = a;
    }

-- a TLV taken in; a and b are the first two 32-bit numbers of its value
unfoldable pub with_tlv : Tlvs → ℕ → ℕ → ℕ → ℕ → Tlvs
with_tlv t kind size a b =
    cond (eqb kind 1) (with_if (passed t size) a b)
    (cond (eqb kind 2) (with_global (passed t size) a)
    (passed t size))

-- the walk ends at a wrong octet
abbrev pub ended : ℕ → ℕ → Tlvs → Tlvs
ended octet end t =
    record {
      at = end;
      bad = octet;
      ifid = t.ifid;
      node = t.node;
      interface = t.interface;
      globalid = t.globalid;
      global = t.global;
    }

-- behind a TLV: on, or at its wrong octet the end
abbrev pub after : ℕ → ℕ → Tlvs → Tlvs → Tlvs
after octet end t next = cond (eqb octet 0) next (ended octet end t)

-- one TLV of type `kind` and length `size`
abbrev pub step_with : Tlvs → ℕ → ℕ → ℕ → ℕ → ℕ → Tlvs
step_with t end kind size a b = after (bad_octet t end kind size) end t (with_tlv t kind size a b)

-- the TLV at the place t .at
abbrev pub step : List ℕ → ℕ → Tlvs → Tlvs
step m end t =
    step_with t end (get_or m t.at 0) (get_or m (t.at + 1) 0) (number_at 4 m (t.at + 2)) (number_at 4 m (t.at + 6))

-- TLV after TLV while there are octets before the end, at most k of them
abbrev pub walk : ℕ → List ℕ → ℕ → Tlvs → Tlvs
walk zero m end t = t
walk (suc k) m end t = cond (ltb t.at end) (walk k m end (step m end t)) t

abbrev pub start : Tlvs
start = record { at = 9; bad = 0; ifid = false; node = 0; interface = 0; globalid = false; global = 0 }

-- the TLVs from octet 9 to the end: no TLV is empty, so there are at most as many as octets
unfoldable pub tlvs_of : List ℕ → ℕ → Tlvs
tlvs_of m end = walk end m end start
