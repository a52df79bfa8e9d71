use Rattle.std.proofs.Common.{◌≡◌, ◌+◌, replicate}
use Rattle.virtual_time.specs.declared.moved.Move.TheVariants.{Ran}
use Rattle.reverse.specs.Rules.{rules_of}
use Rattle.reverse.specs.Setting.{simulation_of}
use Rattle.process_exchange.specs.Effects.{moved_by, RanEarly}
use Rattle.process_exchange.proofs.held.Held.run_early.Given as goal

abbrev pub invariant-loop-run : goal.invariant-loop-run
invariant-loop-run g l = record {
  did : l.self ≡ moved_by (simulation_of (rules_of g.R.Reversible.plain) g.J.ActorRun.setting) (replicate l.run Ran) l.fn.self;
  early : RanEarly (simulation_of (rules_of g.R.Reversible.plain) g.J.ActorRun.setting) (l.fn.self.mark.seen + l.window) l.run l.fn.self.part;
}
