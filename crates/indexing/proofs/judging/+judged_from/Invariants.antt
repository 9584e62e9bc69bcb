use Rattle.indexing.proofs.judging.+judged_from.Given as goal

-- the measure is the number of candidates
abbrev pub decreases-judged_from : goal.decreases-judged_from
decreases-judged_from g l = l.n
