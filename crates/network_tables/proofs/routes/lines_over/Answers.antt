use Rattle.std.proofs.Common.{◌<◌, length, arith}
use Rattle.network.specs.Words.{lines_over}
use Rattle.network_paths.proofs.PushLemmas.{pushed-at}
use Rattle.network_paths.proofs.WayLemmas.{no_hop}
use Rattle.network_tables.proofs.routes.lines_over.Goals as goal

pub loop-hop-preserved : goal.loop-hop-preserved
loop-hop-preserved c =
    let hops = c.args.hops.now in
    let i = c.loop-hop.hop-index in
    let lt : i < length hops = omega arith in
    pushed-at (lines_over c.args.joined.now.links.now) hops i no_hop _ _ _ lt c.in_ok-push_line.ensures c.loop-hop.invariant
