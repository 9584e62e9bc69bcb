use Rattle.index_file.specs.Files.{clock_at}
use Rattle.index_file.proofs.Lists.{Filled}
use Rattle.index_file.proofs.seeking.clocks_in.Given as goal

abbrev pub invariant-loop-k : goal.invariant-loop-k
invariant-loop-k l = Filled (clock_at l.index) 256 l.k l.clocks
