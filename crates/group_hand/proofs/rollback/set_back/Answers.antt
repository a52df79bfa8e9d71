use Rattle.std.proofs.Common.{refl, sym, ◌∙◌, arith}
use Rattle.reverse.specs.Rules.{rules_of}
use Rattle.group_hand.proofs.Retreating.{rolls-none, room-none, some-late}
use Rattle.group_hand.proofs.rollback.set_back.Goals as goal

pub events-init : goal.events-init
events-init g c = record {
  rolls = rolls-none (rules_of g.R.Reversible.plain) g.R.Reversible.is_value c.args.message.now _ c.args.undoing.now.aside.events c.args.undoing.now.back.items c.requires.empty c.requires.none_back;
  came = c.requires.came;
  others = refl;
  room = omega arith;
  enough = c.requires.room;
  space = c.requires.space;
  sends = c.requires.sends;
  again = room-none c.args.undoing.now.aside.events c.args.done.now c.requires.empty;
}

pub step_back-requires-clause-room : goal.step_back-requires-clause-room
step_back-requires-clause-room g c =
    let n = some-late c.args.message.now c.events.done.events (sym c.is_before.ensures ∙ c.events-test.true) in
    let i = c.events.invariant.room in
    let j = c.events.invariant.enough in
    omega arith

pub events-preserved : goal.events-preserved
events-preserved g c = record {
  rolls = c.step_back.ensures.rolls _ c.events.invariant.rolls;
  came = c.step_back.ensures.came;
  others = c.step_back.ensures.others ∙ (λ j. record (c.events.invariant.others j) { queue = c.step_back.new.letters.queue; room = c.step_back.new.letters.room });
  room = let a = c.step_back.ensures.room in let f = c.step_back.ensures.fewer in let i = c.events.invariant.room in omega arith;
  enough = c.events.invariant.enough;
  space = c.step_back.ensures.space;
  sends = c.step_back.ensures.sends;
  again = c.step_back.ensures.again c.events.invariant.again;
}
