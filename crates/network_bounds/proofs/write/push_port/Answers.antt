use Rattle.std.proofs.Common.{◌≡◌, [], Ok, Err, Some, sym, subst, slice_get, option_map, arith}
use Rattle.std.proofs.lemmas.Result.{on_ok_weaker}
use Rattle.network_bounds.proofs.TextLemmas.{no-port, none-put, port-said}
use Rattle.trace_segments.proofs.WritingLemmas.{adds-same}
use Rattle.network_bounds.proofs.write.push_port.Goals as goal

pub returns-then-line-line_count : goal.returns-then-line-line_count
returns-then-line-line_count c =
    adds-same c.args.out.now c.args.out.now [] _
    (sym (no-port c.args.network.now c.args.line c.args.bound.now (omega (arith, c.if-line-line_count.true, c.line_count.ensures.value)))) (none-put c.args.out.now)

pub returns-in-Ok : goal.returns-in-Ok
returns-in-Ok c =
    let plan = c.args.network.now in
    let bytes = subst (λ n. option_map (λ node. node.port_bytes) (slice_get plan.nodes n) ≡ Some c.port_bytes-bytes.result) c.from.ensures c.port_bytes-bytes.ensures in
    on_ok_weaker c.push_port.result
    (adds-same c.args.out.now c.push_port.new.out _ _
    (port-said plan c.args.line c.port_bytes-bytes.result c.line.result c.args.bound.now (Ok c.in-Ok.waiting) c.line.ensures.value bytes c.in-Ok.is)) c.push_port.ensures

pub returns-in-Err : goal.returns-in-Err
returns-in-Err c =
    let plan = c.args.network.now in
    let bytes = subst (λ n. option_map (λ node. node.port_bytes) (slice_get plan.nodes n) ≡ Some c.port_bytes-bytes.result) c.from.ensures c.port_bytes-bytes.ensures in
    on_ok_weaker c.push_no_room.result
    (adds-same c.args.out.now c.push_no_room.new.out _ _
    (port-said plan c.args.line c.port_bytes-bytes.result c.line.result c.args.bound.now (Err c.in-Err.reason) c.line.ensures.value bytes c.in-Err.is)) c.push_no_room.ensures
