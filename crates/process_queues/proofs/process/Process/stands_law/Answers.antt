use Rattle.process_queues.proofs.process.Process.stands_law.Goals as goal

pub returns : goal.returns
returns g c = let i = c.self.invariant in (i.0, i.1, rw (← c.self.view_is) i.2)
