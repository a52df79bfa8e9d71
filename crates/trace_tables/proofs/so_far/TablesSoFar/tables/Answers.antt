use Rattle.std.proofs.Common.{ap, ◌∙◌}
use Rattle.trace_tables.specs.Cells.{with_duplicates}
use Rattle.trace_tables.specs.Destinations.{destinations_in}
use Rattle.trace_tables.specs.SoFar.{AreInTables}
use Rattle.trace_tables.proofs.DuplicateLemmas.{all-drops}
use Rattle.trace_tables.proofs.SoFarLemmas.{all-so-far, tables-are}
use Rattle.trace_tables.proofs.so_far.TablesSoFar.tables.Goals as goal

pub deliveries_of-requires : goal.deliveries_of-requires
deliveries_of-requires c =
    let inside = c.self.inside in
    let are = all-so-far c.args.network.now (record { cells = inside.cells; drops = inside.drops.entries; counted = inside.counted; rest = inside.rest.items })
    c.args.self c.self.view_is c.requires.0 c.requires.1 c.as_slice.result.now c.as_slice.ensures.value c.count_each.new.cells c.count_each.new.drops.entries c.in_ok-count_each.ensures in
    (c.requires.0, are.at_destinations)

pub add_duplicates-requires : goal.add_duplicates-requires
add_duplicates-requires c =
    let inside = c.self.inside in
    let are = all-so-far c.args.network.now (record { cells = inside.cells; drops = inside.drops.entries; counted = inside.counted; rest = inside.rest.items })
    c.args.self c.self.view_is c.requires.0 c.requires.1 c.as_slice.result.now c.as_slice.ensures.value c.count_each.new.cells c.count_each.new.drops.entries c.in_ok-count_each.ensures in
    (c.requires.0, are.at_destinations)

pub returns : goal.returns
returns c = λ rows is.
    let plan = c.args.network.now in
    let inside = c.self.inside in
    let cells = c.count_each.new.cells in
    let drops = c.count_each.new.drops.entries in
    let are : AreInTables plan rows cells drops =
    all-so-far plan (record { cells = inside.cells; drops = inside.drops.entries; counted = inside.counted; rest = inside.rest.items })
    c.args.self c.self.view_is rows is c.as_slice.result.now c.as_slice.ensures.value cells drops c.in_ok-count_each.ensures in
    c.new.ensures
    ∙ tables-are plan rows c.in_ok-latencies.latencies.entries c.add_duplicates.new.drops.entries
    (c.in_ok-latencies.ensures rows are.at_destinations)
    (c.in_ok-add_duplicates.ensures rows are.at_destinations ∙ ap (λ d. with_duplicates plan rows d (destinations_in plan.vls)) are.elsewhere ∙ all-drops plan rows)
