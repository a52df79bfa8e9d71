use Rattle.std.proofs.Common.{◌≡◌, length, map, Some, ap, sym, ◌∙◌, arith}
use Rattle.std.proofs.lemmas.List.{length-map}
use Rattle.network.specs.Words.{destinations_of, items_of}
use Rattle.network.proofs.BuildLemmas.{read-made}
use Rattle.network.proofs.network.Network.destinations.Goals as goal

pub returns : goal.returns
returns c =
    let table = c.self.inside.tables.destinations in
    let vls = c.args.self.now.vls in
    let same : map items_of table.items ≡ map destinations_of vls = c.self.invariant.1.destinations ∙ ap (λ plan. map destinations_of plan.vls) c.self.view_is in
    let len : length table.items ≡ length vls = sym (length-map table.items items_of) ∙ ap length same ∙ length-map vls destinations_of in
    read-made destinations_of items_of vls table.items table.len c.args.vl c.index.result.now same table.ok.0 (omega (arith, len, table.ok.0)) c.index.ensures
    ∙ ap Some (sym c.as_slice.ensures.value)
