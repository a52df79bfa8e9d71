use Rattle.network_bounds.proofs.ages.+ages_after.Given as goal

abbrev pub decreases-ages_after : goal.decreases-ages_after
decreases-ages_after l = l.lines
