-- With l levels left the measure is 2l for an entry and 2l + 1 for a list: a list calls the reader of an
-- entry with the levels that it has, and an entry the reader of a list with one less.
use Rattle.std.proofs.Common.{◌≡◌, length, ◌+◌}
use Rattle.configuration.specs.Entries.{entries_in}
use Rattle.configuration.specs.Noting.{noted_all}
use Rattle.configuration.proofs.list.+read_entry_read_list.Given as goal

abbrev pub decreases-read_entry : goal.decreases-read_entry
decreases-read_entry l = l.levels + l.levels

abbrev pub decreases-read_list : goal.decreases-read_list
decreases-read_list l = l.levels + l.levels + 1

abbrev pub invariant-read_list-loop-rest : goal.invariant-read_list-loop-rest
invariant-read_list-loop-rest l =
    noted_all l.authentication l.met (entries_in l.levels l.rest)
    ≡ noted_all l.authentication l.fn.seen (entries_in l.levels l.fn.list)

abbrev pub decreases-read_list-loop-rest : goal.decreases-read_list-loop-rest
decreases-read_list-loop-rest l = length l.rest
