use Rattle.halving.proofs.+halve.Given as goal

-- the measure is the number of candidates
abbrev pub decreases-halve : goal.decreases-halve
decreases-halve l = l.n
