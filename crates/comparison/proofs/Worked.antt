-- Worked cases of two captures, computed: octets as they stand in a file, and what is listed.
-- Assumes nothing.
use Prim.Native.Nat.{ℕ}
use mathlib.Core.Path.{◌≡◌, refl}
use mathlib.Core.List.{List, [], ◌∷◌, ◌++◌}
use Rattle.capture.specs.Records.{record_in, header_fits}
use Rattle.capture.specs.Raws.{raw_in, stands_in, raws_by, raws_in}
use Rattle.comparison.specs.Differences.{fields_of, differences, records_of, bad_capture, list_of}
use Rattle.comparison.specs.Rest.{agreeing, rest_place, rest_of}

abbrev header : List ℕ
header = 84 ∷ 80 ∷ 79 ∷ 0 ∷ 1 ∷ 0 ∷ 0 ∷ 0 ∷ []

-- a message on label 16 at 1,000, its body `abc` or `abcd`
abbrev abc : List ℕ
abc = 0 ∷ 0 ∷ 0 ∷ 0 ∷ 0 ∷ 0 ∷ 3 ∷ 232 ∷ 0 ∷ 0 ∷ 0 ∷ 16 ∷ 0 ∷ 5 ∷ 0 ∷ 3 ∷ 97 ∷ 98 ∷ 99 ∷ []

abbrev abcd : List ℕ
abcd = 0 ∷ 0 ∷ 0 ∷ 0 ∷ 0 ∷ 0 ∷ 3 ∷ 232 ∷ 0 ∷ 0 ∷ 0 ∷ 16 ∷ 0 ∷ 5 ∷ 0 ∷ 4 ∷ 97 ∷ 98 ∷ 99 ∷ 100 ∷ []

-- a tick to 2,000
abbrev tick : List ℕ
tick = 0 ∷ 0 ∷ 0 ∷ 0 ∷ 0 ∷ 0 ∷ 7 ∷ 208 ∷ 0 ∷ 0 ∷ 0 ∷ 0 ∷ 0 ∷ 0 ∷ 0 ∷ 0 ∷ []

-- a report of label 16
abbrev report : List ℕ
report = 0 ∷ 0 ∷ 0 ∷ 0 ∷ 0 ∷ 0 ∷ 0 ∷ 0 ∷ 0 ∷ 0 ∷ 0 ∷ 16 ∷ 0 ∷ 6 ∷ 0 ∷ 0 ∷ []

-- a length that differs is two entries: 11 and 12
pub length-and-body : list_of (header ++ abc) (header ++ abcd) ≡ 11 ∷ 12 ∷ []
unfolding list_of differences records_of raws_in raws_by stands_in record_in fields_of raw_in
length-and-body = refl

-- an extra record of the first comes last
pub extra-last : list_of (header ++ abc ++ tick ++ report) (header ++ abcd ++ tick) ≡ 11 ∷ 12 ∷ 29 ∷ []
unfolding list_of differences records_of raws_in raws_by stands_in record_in fields_of raw_in
extra-last = refl

-- and then the rest begins with it, where it is all that differs
pub rest-of-extra : rest_of (header ++ tick ++ report) (header ++ tick) ≡ report
unfolding rest_of rest_place bad_capture header_fits agreeing records_of raws_in raws_by stands_in record_in fields_of raw_in
rest-of-extra = refl

-- a second that is longer leaves no rest, but an entry
pub second-longer : list_of (header ++ tick) (header ++ tick ++ report) ≡ 22 ∷ []
unfolding list_of differences records_of raws_in raws_by stands_in record_in fields_of raw_in
second-longer = refl
