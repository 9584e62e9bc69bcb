-- An element that is put past a list's end, or read there.
-- Assumes nothing.
use lib.ListN.{get_or-eq_default}
use lib.Seq.{set_out}

pub ruleset out_of_place = (set_out, get_or-eq_default)
