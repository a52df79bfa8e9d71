use Rattle.std.proofs.Common.{◌<◌, length, ◌∙◌, arith}
use Rattle.network.specs.Words.{leaves, comes_in}
use Rattle.network_paths.proofs.PushLemmas.{pushed-more}
use Rattle.network_tables.proofs.routes.meetings_of.Goals as goal

pub loop-vl-preserved : goal.loop-vl-preserved
loop-vl-preserved c =
    let vls = c.args.vls.now in
    let i = c.loop-vl.vl-index in
    let vl = c.vl-item.result in
    let lines = c.args.lines.now in
    let links = c.args.joined.now.links.now in
    let lt : i < length vls = omega arith in
    record {
      departures_len = c.in_ok-put_meetings.ensures.departures_len ∙ c.loop-vl.invariant.departures_len;
      arrivals_len = c.in_ok-put_meetings.ensures.arrivals_len ∙ c.loop-vl.invariant.arrivals_len;
      departed = λ node h. pushed-more (leaves node lines links) vls i vl _ _ _ lt c.vl-item.is
          (c.in_ok-put_meetings.ensures.departed node (omega (arith, c.loop-vl.invariant.departures_len, h))) (c.loop-vl.invariant.departed node h);
      arrived = λ node h. pushed-more (comes_in node lines links) vls i vl _ _ _ lt c.vl-item.is
          (c.in_ok-put_meetings.ensures.arrived node (omega (arith, c.loop-vl.invariant.arrivals_len, h))) (c.loop-vl.invariant.arrived node h);
    }
