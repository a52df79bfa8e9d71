use Rattle.trace_tables.proofs.SoFarLemmas.{none-so-far}
use Rattle.trace_tables.proofs.so_far.TablesSoFar.none.Goals as goal

pub returns : goal.returns
returns c =
    let plan = c.args.network.now in
    none-so-far plan c.in_ok-none.field-0 c.new.result.entries c.new-2.result.items (record { at_destinations = c.in_ok-none.ensures; elsewhere = c.new.ensures.empty }) c.new-2.ensures.items
