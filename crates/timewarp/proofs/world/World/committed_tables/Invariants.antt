use Rattle.std.proofs.Common.{List}
use Rattle.vlink.specs.Letters.{Row}
use Rattle.virtual_time.specs.declared.step.Step.{Step}
use Rattle.nodes.specs.Words.{simulation_of}
use Rattle.trace_tables.specs.SoFar.{IsSoFar}
use Rattle.seqsim.specs.Committed.{after}
use Rattle.timewarp.specs.Networks.{IsAfter}
use Rattle.seqsim.proofs.CommittedRows.{AreRowsBelow}
use Rattle.timewarp.proofs.world.World.committed_tables.Given as goal

abbrev pub invariant-loop-process : goal.invariant-loop-process
invariant-loop-process l =
    (rows : List Row) × IsSoFar l.self.plan l.tables rows ×
    ((steps : List Step) → IsAfter l.self steps → AreRowsBelow (simulation_of l.self.plan) (after l.self.plan steps) l.process rows)
