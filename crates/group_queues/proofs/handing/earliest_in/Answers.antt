use Rattle.std.proofs.Common.{◌≡◌, ◌<◌, min, length, slice_get, Some, sym, ap, ◌∙◌, arith}
use Rattle.std.proofs.lemmas.Option.{slice_get-get_or}
use Rattle.group_queues.proofs.Lowest.{times-more}
use Rattle.group_queues.proofs.handing.earliest_in.Goals as goal

pub loop-place-preserved : goal.loop-place-preserved
loop-place-preserved c =
    let ls = c.args.letters.now.items in
    let i = c.loop-place.place in
    let l = c.index.result.now in
    let test = c.loop-place-test.true in
    let end = c.len-place-end.ensures in
    let long = c.args.letters.now.ok.0 in
    let within : i < length ls = omega (arith, test, end, long) in
    let at : slice_get ls i ≡ Some l = slice_get-get_or ls i l within ∙ ap (λ z. Some z) (sym c.index.ensures) in
    c.earlier-earliest.ensures ∙ (ap (λ n. min l.message.time n) c.loop-place.invariant ∙ sym (times-more c.args.moment ls i l within at))
