use Rattle.worker_pool.proofs.summary.run_summary.Given as goal

abbrev pub ghosts-summary_named : goal.ghosts-summary_named
ghosts-summary_named g a = record { plan = a.start.network.now; keeps = a.start.keeps; names = a.start.pairs; owners = a.start.grouping.owners.items }
