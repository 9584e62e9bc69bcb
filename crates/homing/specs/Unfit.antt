-- 26 of a group in the record of an open label, in words. Two groups of one ID in a party, which 26 refuses too, are a matter of two records.
-- Assumes nothing.
use Rattle.std.specs.Prelude.{ℕ, ◌<◌, ◌≡◌}
use Rattle.rules.specs.Parties.{party_of}
use Rattle.homing.specs.declared.Group.{Group}

pub data UnfitGroup (label : ℕ) (g : Group) : Type 0 where
  set_mark : 1 < g.set → UnfitGroup label g
  role_above : g.set ≡ 1 → 1 < g.role → UnfitGroup label g
  pw_above : g.set ≡ 1 → 1 < g.pw → UnfitGroup label g
  ac_above : g.set ≡ 1 → 1 < g.ac → UnfitGroup label g
  dni_below : g.set ≡ 1 → g.dni < 16 → UnfitGroup label g
  dni_above : g.set ≡ 1 → 1048575 < g.dni → UnfitGroup label g
  labels_equal : g.set ≡ 1 → g.dni ≡ label → UnfitGroup label g
  two_parties : g.set ≡ 1 → (party_of g.dni ≡ party_of label → ⊥) → UnfitGroup label g
