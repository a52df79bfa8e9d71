use Rattle.std.proofs.Common.{◌≡◌, ◌≤◌, ◌+◌, ◌++◌, [], ◌∷◌, true, take, sym, ap, ◌∙◌, subst, arith, take_all}
use Rattle.std.proofs.lemmas.List.{take_more}
use Rattle.vlink.specs.Order.{message_order}
use Rattle.vlink.specs.Letters.{Letter}
use Rattle.reverse.specs.Rules.{rules_of}
use Rattle.group_hand.specs.Hands.{StandsForGroup, is_ours}
use Rattle.group_exchange.specs.Views.{with_letters}
use Rattle.group_boxes.proofs.Lists.{one-of}
use Rattle.group_exchange.proofs.Taken.{with-more}
use Rattle.group_exchange.proofs.Trays.{tray-more, tray-members, tray-none, tray-all}
use Rattle.group_exchange.proofs.collecting.deliver_all.Goals as goal

pub loop-letter-init : goal.loop-letter-init
loop-letter-init g c = record {
  told = tray-none c.args.hand.now;
  room = let a = c.requires.room in omega arith;
  stands = λ x v all s. s;
}

pub deliver_reserved-requires : goal.deliver_reserved-requires
deliver_reserved-requires g c =
    let inv = c.loop-letter.invariant in
    record {
      ours = ap (λ ms. is_ours ms c.letter-item.result.message.receiver) (tray-members c.args.hand.now c.loop-letter.hand (take c.loop-letter.letter-index c.args.letters.now) inv.told) ∙
          one-of (λ (l : Letter). is_ours c.args.hand.now.members l.message.receiver ≡ true) c.args.letters.now c.requires.ours c.loop-letter.letter-index c.letter-item.result c.loop-letter-test.true c.letter-item.is;
      room = let a = inv.room in let b = c.loop-letter-test.true in omega arith;
    }

pub loop-letter-preserved : goal.loop-letter-preserved
loop-letter-preserved g c =
    let inv = c.loop-letter.invariant in
    let ls = c.args.letters.now in
    let k = c.loop-letter.letter-index in
    let l = c.letter-item.result in
    let more = take_more ls k l c.loop-letter-test.true ∙ ap (λ z. take k ls ++ z ∷ []) (sym c.letter-item.is) in
    record {
      told = tray-more c.args.hand.now c.loop-letter.hand c.deliver_reserved.new.self (take k ls) (take (k + 1) ls) l inv.told c.deliver_reserved.ensures.told more;
      room = let a = inv.room in let b = c.deliver_reserved.ensures.room in omega arith;
      stands = λ x v all s.
          subst (λ z. StandsForGroup (rules_of g.R.Reversible.plain) g.R.Reversible.is_value x z c.deliver_reserved.new.self)
          (sym (ap (λ zs. with_letters message_order zs v) more ∙ with-more message_order (take k ls) l v))
          (c.deliver_reserved.ensures.delivered x (with_letters message_order (take k ls) v)
          (one-of (λ (m : Letter). m.message.time ≤ x.until) ls all k l c.loop-letter-test.true c.letter-item.is) (inv.stands x v all s));
    }

pub returns-clause-told : goal.returns-clause-told
returns-clause-told g c = tray-all c.args.hand.now c.loop-letter.hand (take c.loop-letter.letter-index c.args.letters.now) c.args.letters.now c.loop-letter.invariant.told (take_all c.loop-letter.letter-index c.args.letters.now c.loop-letter-test.false)

pub returns-clause-stands : goal.returns-clause-stands
returns-clause-stands g c = λ x v all s.
    subst (λ z. StandsForGroup (rules_of g.R.Reversible.plain) g.R.Reversible.is_value x (with_letters message_order z v) c.loop-letter.hand)
    (take_all c.loop-letter.letter-index c.args.letters.now c.loop-letter-test.false) (c.loop-letter.invariant.stands x v all s)
