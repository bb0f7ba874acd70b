use Rattle.zh_decided.proofs.levels.+descend.Given as goal

abbrev pub decreases-descend : goal.decreases-descend
decreases-descend l = l.levels
