use Rattle.module_check.proofs.chains.+within.Given as goal

abbrev pub decreases-within : goal.decreases-within
decreases-within l = l.n
