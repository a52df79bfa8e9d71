use Rattle.std.proofs.Common.{◌++◌, min, [], ◌∷◌, map, take, sym, ap, ◌∙◌, arith}
use Rattle.std.proofs.lemmas.List.{take_more, map-append}
use Rattle.virtual_time.specs.Law.{lowest}
use Rattle.process_queues.proofs.Reading.{lowest-push}
use Rattle.process_queues.proofs.process.floor_of_tray.Goals as goal

pub loop-place-preserved : goal.loop-place-preserved
loop-place-preserved c =
    let xs = c.args.tray.now.items in
    let one = take_more xs c.loop-place.place c.index.result.now (omega arith) in
    c.earlier-floor.ensures ∙ (ap (min c.index.result.now.message.time) c.loop-place.invariant ∙
    (sym (lowest-push c.args.moment c.index.result.now.message.time (map (λ x. x.message.time) (take c.loop-place.place xs))) ∙
    ap (lowest c.args.moment) (sym (map-append (λ x. x.message.time) (take c.loop-place.place xs) (c.index.result.now ∷ [])) ∙
    ap (map (λ x. x.message.time)) (sym (one ∙ ap (λ x. take c.loop-place.place xs ++ x ∷ []) (sym c.index.ensures))))))
