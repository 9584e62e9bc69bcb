-- A log's header is the mark with the letter L.
-- Assumes nothing.
use Prim.Native.Nat.{ℕ}
use mathlib.Core.Path.{◌≡◌}
use mathlib.Core.List.{List}
use Rattle.capture.specs.Records.{is_marked}
use Rattle.capture.proofs.Marks.{marked-fields}
use Rattle.call_log.specs.Records.{header_fits}

pub log_mark : (s : List ℕ) → is_marked 76 s ≡ header_fits s
unfolding header_fits
log_mark s = marked-fields 76 s
