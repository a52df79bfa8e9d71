use Rattle.worker_pool.proofs.tracing.run_traced.Given as goal

abbrev pub ghosts-traced_named-J-NetworkRun : goal.ghosts-traced_named-J-NetworkRun
ghosts-traced_named-J-NetworkRun g a = record { plan = a.start.network.now; keeps = a.start.keeps; names = a.start.pairs; owners = a.start.grouping.owners.items }

abbrev pub ghosts-traced_named-K-TraceRun : goal.ghosts-traced_named-K-TraceRun
ghosts-traced_named-K-TraceRun g a = record { taken = g.S.Sink.taken a.sink; failures = g.S.Sink.failures a.sink }
