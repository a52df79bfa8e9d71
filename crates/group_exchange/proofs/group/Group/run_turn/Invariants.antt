use Rattle.std.proofs.Common.{◌≡◌, ◌+◌, []}
use Rattle.reverse.specs.Rules.{rules_of}
use Rattle.reverse.specs.Setting.{simulation_of}
use Rattle.group_queues.specs.Block.{runs_in}
use Rattle.group_exchange.specs.Effects.{Goes}
use Rattle.group_exchange.proofs.group.Group.run_turn.Given as goal

abbrev pub invariant-loop-run : goal.invariant-loop-run
invariant-loop-run g l = Goes (simulation_of (rules_of g.R.Reversible.plain) g.J.GroupRun.setting) g.J.GroupRun.owners l.limit l.fn.self l.self × (l.self.held.flow.tray ≡ [])
    × (runs_in l.self.held.flow.words ≡ runs_in l.fn.self.held.flow.words + l.run)
