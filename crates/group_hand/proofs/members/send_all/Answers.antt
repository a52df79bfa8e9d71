use Rattle.std.proofs.Common.{◌≡◌, ◌<◌, ◌+◌, ◌∷◌, List, length, drop, drop-cons, drop_of_length-le, subst, sym, ◌∙◌, arith, add-one}
use Rattle.vlink.specs.declared.message.Message.{Message}
use Rattle.reverse.specs.Rules.{rules_of}
use Rattle.group_hand.specs.Passing.{GoesOn}
use Rattle.group_hand.proofs.Passed.{none-gone, both-gone, one-gone}
use Rattle.group_queues.proofs.Among.{at-in}
use Rattle.group_hand.proofs.members.send_all.Goals as goal

pub loop-place-init : goal.loop-place-init
loop-place-init g c = record {
  went = none-gone g.R.Reversible.plain g.R.Reversible.is_value c.actor_rules_law.ensures.order c.actor_rules_law.ensures.undoes c.args.members.now c.args.messages.now c.args.letters.now c.args.messages.now;
  room = omega (arith, c.requires.room);
}

pub loop-place-preserved : goal.loop-place-preserved
loop-place-preserved g c =
    let all = c.args.messages.now in
    let k = c.loop-place.place in
    let m = c.index-messages-place.result in
    let r = rules_of g.R.Reversible.plain in
    let within : k < length all = c.loop-place-test.true in
    let split : drop k all ≡ m ∷ drop (k + 1) all =
    drop-cons all k m within ∙ (λ j. sym c.index-messages-place.is j ∷ drop (sym (add-one k) j) all) in
    record {
      went = both-gone g.R.Reversible.plain g.R.Reversible.is_value c.actor_rules_law.ensures.order c.actor_rules_law.ensures.undoes c.args.members.now all c.args.letters.now c.loop-place.letters c.pass.new.self
          all (m ∷ drop (k + 1) all) (drop (k + 1) all)
          (subst (λ (zs : List Message). GoesOn r g.R.Reversible.is_value c.args.members.now all c.args.letters.now all c.loop-place.letters zs) split c.loop-place.invariant.went)
          (one-gone g.R.Reversible.plain g.R.Reversible.is_value c.actor_rules_law.ensures.order c.actor_rules_law.ensures.undoes c.args.members.now all c.loop-place.letters c.pass.new.self m (drop (k + 1) all)
          (at-in c.actor_rules_law.ensures.order all k m within c.index-messages-place.is) c.is_ours.result c.is_ours.ensures c.pass.ensures.abroad c.pass.ensures.home);
      room = let a = c.pass.ensures.room in let b = c.loop-place.invariant.room in omega arith;
    }

pub returns : goal.returns
returns g c = record {
  went = subst (λ (zs : List Message). GoesOn (rules_of g.R.Reversible.plain) g.R.Reversible.is_value c.args.members.now c.args.messages.now c.args.letters.now c.args.messages.now c.loop-place.letters zs)
      (drop_of_length-le c.args.messages.now {i = c.loop-place.place} c.loop-place-test.false) c.loop-place.invariant.went;
}
