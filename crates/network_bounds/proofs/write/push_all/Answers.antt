use Rattle.std.proofs.lemmas.Result.{on_ok_weaker}
use Rattle.network_bounds.specs.Text.{bounds_head, links_text, ports_text}
use Rattle.std.proofs.Common.{◌++◌}
use Rattle.trace_segments.proofs.WritingLemmas.{adds-more}
use Rattle.network_bounds.proofs.write.push_all.Goals as goal

pub returns : goal.returns
returns c =
    let plan = c.args.network.now in
    let bounds = c.args.bounds.now in
    on_ok_weaker c.push_ports.result
    (λ ports.
    adds-more c.args.out.now c.push_head.new.out c.push_ports.new.out bounds_head (links_text plan bounds ++ ports_text plan bounds) c.in_ok-push_head.ensures
    (adds-more c.push_head.new.out c.push_links.new.out c.push_ports.new.out (links_text plan bounds) (ports_text plan bounds) c.in_ok-push_links.ensures ports))
    c.push_ports.ensures
