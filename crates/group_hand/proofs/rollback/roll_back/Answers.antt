use Rattle.std.proofs.Common.{[]}
use Rattle.reverse.specs.Rules.{rules_of}
use Rattle.group_hand.proofs.Rolled.{all-came}
use Rattle.group_hand.proofs.rollback.roll_back.Goals as goal

pub returns-clause-came : goal.returns-clause-came
returns-clause-came g c =
    all-came (rules_of g.R.Reversible.plain) c.actor_rules_law.ensures.order g.R.Reversible.is_value c.args.message.now
    (record { members = c.args.members.now; done = c.args.done.now.events; aside = []; queue = c.args.letters.now.queue; back = [] })
    (record { members = c.set_back.new.members; done = c.bring_back.new.self.events; aside = []; queue = c.set_back.new.letters.queue; back = c.set_back.new.undoing.back.items })
    (record {
      front = c.set_back.new.done.events;
      aside = c.set_back.new.undoing.aside.events;
      rolled = c.set_back.ensures.rolled;
      done = c.bring_back.ensures.done;
      newest = c.set_back.ensures.newest;
    }) c.requires.came c.set_back.ensures.came

pub returns-clause-rolled : goal.returns-clause-rolled
returns-clause-rolled g c = record {
  front = c.set_back.new.done.events;
  aside = c.set_back.new.undoing.aside.events;
  rolled = c.set_back.ensures.rolled;
  done = c.bring_back.ensures.done;
  newest = c.set_back.ensures.newest;
}

pub set_back-requires-clause-came : goal.set_back-requires-clause-came
set_back-requires-clause-came g c = c.requires.came c.args.message.now.receiver

pub bring_back-requires : goal.bring_back-requires
bring_back-requires g c = c.set_back.ensures.again
