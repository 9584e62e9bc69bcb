-- The octets of a file that are at hand, from one place of a lent buffer to another.
-- Assumes nothing.
use Rattle.std.specs.Prelude.{ℕ, ◌+◌, ◌-◌, cond, List, take, drop, ltb}
use Rattle.compare.specs.declared.window.Window.{Window}
use Rattle.compare.specs.declared.window.Behind.TheVariants.{More}

-- a file before its first octet
abbrev pub first : Window
first = record { from = 0; to = 0; behind = More; place = 0; records = 0 }

abbrev pub left_in : Window → ℕ
left_in w = w.to - w.from

abbrev pub seen_in : Window → List ℕ → List ℕ
seen_in w buf = take (left_in w) (drop w.from buf)

-- a sum that stays at the greatest 64-bit number
abbrev pub sum : ℕ → ℕ → ℕ
sum a b = cond (ltb (18446744073709551615 - a) b) 18446744073709551615 (a + b)

-- so many octets further, and so many records
abbrev pub further_by : Window → ℕ → ℕ → Window
further_by w n records =
    record {
      from = sum w.from n;
      to = w.to;
      behind = w.behind;
      place = sum w.place n;
      records = sum w.records records;
    }
