use Rattle.std.proofs.Common.{◌≤◌, ◌<◌, List, length, map, refl, ◌∙◌, subst, arith}
use Rattle.std.proofs.lemmas.List.{take_all}
use Rattle.vlink.specs.declared.message.Message.{Message}
use Rattle.virtual_time.specs.Law.{plus_of}
use Rattle.group_hand.specs.Arriving.{WentOn}
use Rattle.group_hand.proofs.OneLetter.{one-went, next-went}
use Rattle.group_hand.proofs.Retreating.{kept-either}
use Rattle.group_hand.proofs.WentOn.{went-none}
use Rattle.group_hand.proofs.out_of_order.send_later.Goals as goal

pub loop-place-init : goal.loop-place-init
loop-place-init g c = record {
  went = went-none c.args.members.now c.args.letters.now c.args.letters.now refl refl refl refl;
  queue = refl;
  extra = refl;
  room = omega (arith, c.requires);
}

pub pass_later-requires : goal.pass_later-requires
pass_later-requires g c = let i = c.loop-place.invariant.room in let t = c.loop-place-test.true in omega arith

pub loop-place-preserved : goal.loop-place-preserved
loop-place-preserved g c =
    let m = c.index-messages-place.result in
    let all = c.args.messages.now in
    let within : c.loop-place.place < length all = c.loop-place-test.true in
    record {
      went = next-went c.args.members.now (λ x. plus_of x) all c.loop-place.place m c.args.letters.now c.loop-place.letters c.pass_later.new.self within c.index-messages-place.is
          c.loop-place.invariant.went
          (one-went c.args.members.now (plus_of m) c.loop-place.letters c.pass_later.new.self c.is_ours.result c.is_ours.ensures c.pass_later.ensures.abroad c.pass_later.ensures.home);
      queue = kept-either (λ z. z.queue) c.is_ours.result c.pass_later.new.self c.loop-place.letters _ _ c.pass_later.ensures.home c.pass_later.ensures.abroad refl refl ∙ c.loop-place.invariant.queue;
      extra = kept-either (λ z. z.extra) c.is_ours.result c.pass_later.new.self c.loop-place.letters _ _ c.pass_later.ensures.home c.pass_later.ensures.abroad refl refl ∙ c.loop-place.invariant.extra;
      room = let i = c.loop-place.invariant.room in let r = c.pass_later.ensures.room in omega arith;
    }

pub returns-clause-went : goal.returns-clause-went
returns-clause-went g c =
    let all = c.args.messages.now in
    let l : length all ≤ c.loop-place.place = c.loop-place-test.false in
    subst (λ (xs : List Message). WentOn c.args.members.now (map (λ x. plus_of x) xs) c.args.letters.now c.loop-place.letters) (take_all c.loop-place.place all l) c.loop-place.invariant.went
