use Rattle.std.proofs.Common.{◌≡◌, ℕ, length, replicate}
use Rattle.virtual_time.specs.declared.moved.Move.TheVariants.{Committed}
use Rattle.reverse.specs.Rules.{rules_of}
use Rattle.reverse.specs.Setting.{simulation_of}
use Rattle.process_exchange.specs.Effects.{moved_by}
use Rattle.process_exchange.proofs.held.Held.commit_all.Given as goal

abbrev pub invariant-loop-seen : goal.invariant-loop-seen
invariant-loop-seen g l =
    (commits : ℕ) × (l.self ≡ moved_by (simulation_of (rules_of g.R.Reversible.plain) g.J.ActorRun.setting) (replicate commits Committed) l.fn.self)

abbrev pub decreases-loop-seen : goal.decreases-loop-seen
decreases-loop-seen g l = length l.self.part.done
