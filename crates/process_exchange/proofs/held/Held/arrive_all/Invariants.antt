use Rattle.std.proofs.Common.{◌≡◌, ◌+◌, length, replicate}
use Rattle.virtual_time.specs.declared.moved.Move.TheVariants.{Arrived}
use Rattle.reverse.specs.Rules.{rules_of}
use Rattle.reverse.specs.Setting.{simulation_of}
use Rattle.process_exchange.specs.Effects.{moved_by}
use Rattle.process_exchange.proofs.held.Held.arrive_all.Given as goal

abbrev pub invariant-loop-arrived : goal.invariant-loop-arrived
invariant-loop-arrived g l = record {
  did : l.self ≡ moved_by (simulation_of (rules_of g.R.Reversible.plain) g.J.ActorRun.setting) (replicate l.arrived Arrived) l.fn.self;
  left : l.arrived + length l.self.part.tray ≡ l.letters;
}
