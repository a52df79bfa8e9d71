use Rattle.std.proofs.Common.{◌<◌, ◌≤◌, ◌==◌, ◌∙◌, cond, filter, length, ap, arith, take_all}
use Rattle.std.proofs.lemmas.List.Filters.{length-filter_more}
use Rattle.vlink.specs.Letters.{Letter}
use Rattle.antimessages.proofs.posting.count_for.Goals as goal

pub loop-place-preserved : goal.loop-place-preserved
loop-place-preserved c =
    let ls = c.args.letters.now in
    let i = c.loop-place.place in
    let l = c.index-letters-place.result in
    let within : i < length ls = (let t = c.loop-place-test.true in omega arith) in
    let more = length-filter_more (λ (x : Letter). x.message.receiver == c.args.receiver) ls i l within in
    let one = c.one_for-count.ensures.one ∙ ap (λ (x : Letter). cond (x.message.receiver == c.args.receiver) 1 0) c.index-letters-place.is in
    record {
      counted = omega (arith, c.loop-place.invariant.counted, one, more);
      few = omega (arith, c.loop-place.invariant.few, c.one_for-count.ensures.most);
    }

pub returns : goal.returns
returns c =
    let l : length c.args.letters.now ≤ c.loop-place.place = (let t = c.loop-place-test.false in omega arith) in
    c.loop-place.invariant.counted ∙ ap (λ xs. length (filter (λ (x : Letter). x.message.receiver == c.args.receiver) xs)) (take_all c.loop-place.place c.args.letters.now l)
