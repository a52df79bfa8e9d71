use Rattle.std.proofs.Common.{[], ◌∷◌, ◌++◌, Some, map, map-id, sym, ap, ◌∙◌}
use Rattle.std.proofs.lemmas.Iterator.Adapters.{YieldsList-from_vec}
use Rattle.std.proofs.lemmas.Iterator.Consumers.{YieldsList-end}
use Rattle.std.proofs.lemmas.List.{map-append}
use Rattle.group_exchange.proofs.splitting.some_of.Goals as goal

pub loop-item-preserved : goal.loop-item-preserved
loop-item-preserved g c = record {
  can = tt;
  ends = tt;
  slots = c.in_ok-push.ensures.items ∙ (ap (λ xs. xs ++ Some c.in-Some.item ∷ []) c.loop-item.invariant.slots ∙ sym (map-append (λ x. Some x) c.loop-item.yielded (c.in-Some.item ∷ [])));
}

pub returns : goal.returns
returns g c =
    let given = c.into_iter-item-iterator.ensures.into_iter_gives in
    let road = YieldsList-from_vec {s = c.into_iter-item-iterator.result} c.args.items.items given.0 (given.1 ∙ c.args.items.ok.0) in
    let end = YieldsList-end road c.loop-item.yielded c.loop-item.item-iterator c.loop-item.yielded_by c.next.result c.next.new.self c.in-None.is c.next.ensures.steps in
    c.loop-item.invariant.slots ∙ ap (map (λ x. Some x)) (sym (map-id c.loop-item.yielded) ∙ end.0)
