use Rattle.std.proofs.Common.{rules}
use Rattle.virtual_time.specs.Law.{opened}
use Rattle.reverse.specs.Rules.{rules_of}
use Rattle.process_queues.proofs.Standing.{opened-stands}
use Rattle.process_queues.proofs.process.Process.new.Goals as goal

pub invariant_of-result : goal.invariant_of-result
invariant_of-result g c = (
  c.args.actor,
  opened c.args.actor,
  opened-stands (rules_of g.R.Reversible.plain) g.R.Reversible.is_value c.args.actor _ (search rules),
  search rules,
)
