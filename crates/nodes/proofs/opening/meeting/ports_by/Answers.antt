use Rattle.std.proofs.Common.{false, arith, ap, ◌∙◌, take_all}
use Rattle.std.proofs.lemmas.List.FromFn.{fill_by_all}
use Rattle.network.specs.declared.limits.TheConstants.{GREATEST_PORTS}
use Rattle.nodes.specs.Words.{is_by, ports_by}
use Rattle.nodes.proofs.opening.meeting.ports_by.Goals as goal

pub returns : goal.returns
unfolding ports_by
returns c =
    let ways = c.args.ways.now in
    let marked = c.loop-way.invariant.marked in
    fill_by_all (is_by ways) c.loop-way.ports GREATEST_PORTS false c.loop-way.invariant.len
    (λ q h. marked q h ∙ ap (λ ws. is_by ws q) (take_all c.loop-way.way-index ways (omega arith)))
