use Rattle.std.proofs.Common.{◌∷◌, [], ◌++◌, ap, ◌∙◌, sym}
use Rattle.std.proofs.Math.Nat.{zero-add}
use Rattle.std.proofs.lemmas.List.FromFn.{map-range_with_len_more}
use Rattle.network_bounds.specs.Mixing.{byte_ns_into}
use Rattle.network_bounds.proofs.port.bytes_into.Goals as goal

pub loop-port-preserved : goal.loop-port-preserved
loop-port-preserved c =
    let f = byte_ns_into c.args.network.now c.args.node in
    c.in_ok-push.ensures.items
    ∙ ap (λ x. c.loop-port.found.items ++ x ∷ []) c.byte_ns_into.ensures
    ∙ ap (λ xs. xs ++ f c.loop-port.port ∷ []) c.loop-port.invariant
    ∙ sym (map-range_with_len_more f 0 c.loop-port.port c.loop-port.port (zero-add c.loop-port.port))
