use Rattle.std.proofs.Common.{◌≡◌, ◌<◌, ◌++◌, [], ◌∷◌, length, set, get_or, ap, sym, ◌∙◌, arith}
use Rattle.std.proofs.lemmas.List.{map-set, get_or-map}
use Rattle.network.specs.Words.{items_of, lists_of}
use Rattle.network_tables.proofs.tables.put.Goals as goal

pub returns-clause-put : goal.returns-clause-put
returns-clause-put g c =
    let table = c.args.table.now in
    let place = c.args.place in
    let lt : place < length table.items = omega (arith, table.ok.0) in
    let before : c.index_mut-list.result.now.items ≡ get_or (lists_of table) place [] = ap items_of c.index_mut-list.ensures.value ∙ sym (get_or-map items_of table.items place c.index_mut-list.result.now [] lt) in
    map-set items_of table.items place c.push.new.self ∙ ap (set (lists_of table) place) (c.in_ok-push.ensures.items ∙ ap (λ ws. ws ++ c.args.value ∷ []) before)
