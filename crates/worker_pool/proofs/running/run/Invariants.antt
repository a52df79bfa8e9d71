use Rattle.worker_pool.proofs.running.run.Given as goal

abbrev pub ghosts-run_named : goal.ghosts-run_named
ghosts-run_named g a = record { plan = a.start.network.now; keeps = a.start.keeps; names = a.start.pairs; owners = a.start.grouping.owners.items }
