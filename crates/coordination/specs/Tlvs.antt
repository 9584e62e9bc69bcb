-- The TLVs of a DHC message (RFC 8185, 4.1): from octet 12 on, each a 16-bit type, a 16-bit length and a value.
-- Type 1 is PW Status, of 20 octets, type 2 is Dual-Node Switching, of 16; other types are passed over. What is wrong with them is refusal 25.
-- Assumes nothing.
use Rattle.std.specs.Prelude.{ℕ, zero, suc, ◌+◌, List, Bool, true, false, cond, not, ◌||◌, ltb, eqb}
use Rattle.octets.specs.Numbers.{number_at}
use Rattle.coordination.specs.declared.tlv.Tlvs.{Tlvs}

-- either TLV twice: its place is kept already
unfoldable pub repeated : Tlvs → ℕ → Bool
repeated t kind = cond (eqb kind 1) (ltb 0 t.status) (cond (eqb kind 2) (ltb 0 t.switching) false)

-- or of another length: PW Status has 20, Dual-Node Switching has 16, another type has any
unfoldable pub wrong_length : ℕ → ℕ → Bool
wrong_length kind size = cond (eqb kind 1) (not (eqb size 20)) (cond (eqb kind 2) (not (eqb size 16)) false)

-- or one past the total, which ends at `end`; so are one to three octets that are left
unfoldable pub wrong_tlv : Tlvs → ℕ → ℕ → ℕ → Bool
wrong_tlv t end kind size = repeated t kind || (wrong_length kind size || ltb end (t.at + 4 + size))

-- the place t .at moved behind a TLV whose value has `size` octets, and that place kept for the two types
abbrev pub noted : Tlvs → ℕ → ℕ → Tlvs
noted t kind size =
    record {
      at = t.at + 4 + size;
      bad = t.bad;
      status = cond (eqb kind 1) t.at t.status;
      switching = cond (eqb kind 2) t.at t.switching;
    }

-- a wrong TLV ends the walk
abbrev pub ended : ℕ → Tlvs → Tlvs
ended end t = record { at = end; bad = true; status = t.status; switching = t.switching }

-- one TLV of type `kind` and length `size`
abbrev pub step_with : Tlvs → ℕ → ℕ → ℕ → Tlvs
step_with t end kind size = cond (wrong_tlv t end kind size) (ended end t) (noted t kind size)

-- the TLV at the place t .at
abbrev pub step : List ℕ → ℕ → Tlvs → Tlvs
step m end t = step_with t end (number_at 2 m t.at) (number_at 2 m (t.at + 2))

-- TLV after TLV while there are octets before the end, at most k of them
abbrev pub walk : ℕ → List ℕ → ℕ → Tlvs → Tlvs
walk zero m end t = t
walk (suc k) m end t = cond (ltb t.at end) (walk k m end (step m end t)) t

abbrev pub start : Tlvs
start = record { at = 12; bad = false; status = 0; switching = 0 }

-- the TLVs from octet 12 to the end: no TLV is empty, so there are at most as many as octets
unfoldable pub tlvs_of : List ℕ → ℕ → Tlvs
tlvs_of m end = walk end m end start
