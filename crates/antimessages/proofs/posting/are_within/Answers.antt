use Rattle.std.proofs.Common.{◌<◌, ◌≤◌, All, length, false, refl, ap, subst, arith, take_all}
use Rattle.std.proofs.lemmas.Bool.{both_ways}
use Rattle.vlink.specs.Letters.{Letter}
use Rattle.antimessages.proofs.Boxes.{all-more}
use Rattle.antimessages.proofs.posting.are_within.Goals as goal

pub returns-then-not-is_within : goal.returns-then-not-is_within
returns-then-not-is_within c =
    let within : c.loop-place.place < length c.args.letters.now = (let t = c.loop-place-test.true in omega arith) in (
      λ t. absurd (both_ways false refl t),
      λ all. absurd (
          let other = all c.loop-place.place c.index-letters-place.result within in
          let here = ap (λ (x : Letter). x.message.receiver) c.index-letters-place.is in
          omega (arith, other, here, c.if-not-is_within.ensures.no refl)),
    )

pub loop-place-preserved : goal.loop-place-preserved
loop-place-preserved c =
    let within : c.loop-place.place < length c.args.letters.now = (let t = c.loop-place-test.true in omega arith) in
    all-more (λ (x : Letter). x.message.receiver < c.args.processes) c.args.letters.now c.loop-place.place c.index-letters-place.result within c.index-letters-place.is
    (c.if-not-is_within.ensures.yes refl) c.loop-place.invariant

pub returns : goal.returns
returns c =
    let l : length c.args.letters.now ≤ c.loop-place.place = (let t = c.loop-place-test.false in omega arith) in
    (λ t. subst (All (λ (x : Letter). x.message.receiver < c.args.processes)) (take_all c.loop-place.place c.args.letters.now l) c.loop-place.invariant, λ all. refl)
