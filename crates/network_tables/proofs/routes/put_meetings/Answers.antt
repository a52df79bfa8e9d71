use Rattle.std.proofs.Common.{◌++◌, ap, ◌∙◌}
use Rattle.network_tables.specs.declared.routes.End.TheVariants.{From, To}
use Rattle.network.specs.Words.{ways_over, ways_at}
use Rattle.network_tables.specs.Meeting.{way_at}
use Rattle.network_tables.proofs.routes.put_meetings.Goals as goal

pub returns-clause-departed : goal.returns-clause-departed
returns-clause-departed c = λ node h.
    let before = ways_at c.args.departures.now node in
    c.in_ok-put_route.ensures.put node h
    ∙ ap (λ l. before ++ ways_over (way_at From node l.id) c.args.lines.now c.as_slice.result.now) c.link.ensures
    ∙ ap (λ r. before ++ ways_over (way_at From node c.args.vl.now.link.id) c.args.lines.now r) (c.as_slice.ensures.value ∙ c.in_ok-route.ensures)

pub returns-clause-arrived : goal.returns-clause-arrived
returns-clause-arrived c = λ node h.
    let before = ways_at c.args.arrivals.now node in
    c.in_ok-put_route-2.ensures.put node h
    ∙ ap (λ l. before ++ ways_over (way_at To node l.id) c.args.lines.now c.as_slice-2.result.now) c.link.ensures
    ∙ ap (λ r. before ++ ways_over (way_at To node c.args.vl.now.link.id) c.args.lines.now r) (c.as_slice-2.ensures.value ∙ c.in_ok-route.ensures)
