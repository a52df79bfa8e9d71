use Rattle.std.proofs.Common.{ap, ◌∙◌}
use Rattle.virtual_time.specs.Law.{rowed}
use Rattle.reverse.specs.Rules.{rules_of}
use Rattle.row_times.specs.Within.{rows_within}
use Rattle.row_times.proofs.Between.{rest-in-time, rows-kept}
use Rattle.fossil.proofs.rows.rows_between.Goals as goal

pub rows_in_time-requires : goal.rows_in_time-requires
rows_in_time-requires g c =
    let i = c.requires in
    rest-in-time c.sealed.result.now c.args.process.now.queues.left _ (c.sealed.ensures i.0 i.1 i.2) i.3

pub returns-clause-there : goal.returns-clause-there
returns-clause-there g c opening part stands =
    let r = rules_of g.R.Reversible.plain in
    c.rows_in_time.ensures ∙ ap (rows_within r c.args.from c.args.to) (c.sealed.ensures opening part stands)

pub returns-clause-whole : goal.returns-clause-whole
returns-clause-whole g c opening part stands early =
    let r = rules_of g.R.Reversible.plain in
    returns-clause-there g c opening part stands ∙
    rows-kept r c.args.from c.args.to c.args.process.now.queues.left (rowed r opening part.committed) early
