use Rattle.std.proofs.Common.{◌≡◌, ◌+◌, ◌≤◌, [], length, vec_len, vec_capacity}
use Rattle.reverse.specs.Rules.{rules_of}
use Rattle.group_hand.specs.Undoing.{CameTo, RollsBack}
use Rattle.group_queues.specs.DoneEvents.{HasRoomFor, sent_in}
use Rattle.group_hand.proofs.rollback.set_back.Given as goal

abbrev pub invariant-events : goal.invariant-events
invariant-events g l = record {
  rolls : RollsBack (rules_of g.R.Reversible.plain) l.message
      (record { members = l.initial.members; done = l.initial.done.events; aside = []; queue = l.initial.letters.queue; back = [] })
      (record { members = l.members; done = l.done.events; aside = l.undoing.aside.events; queue = l.letters.queue; back = l.undoing.back.items });
  came : CameTo (rules_of g.R.Reversible.plain) g.R.Reversible.is_value l.members l.done.events l.message.receiver;
  others : l.letters ≡ record l.initial.letters { queue = l.letters.queue; room = l.letters.room };
  room : l.initial.letters.room + length l.done.events ≤ l.letters.room + length l.initial.done.events;
  enough : length l.initial.done.events ≤ l.initial.letters.room;
  space : HasRoomFor l.done.events l.undoing.aside;
  sends : vec_len l.undoing.back + sent_in l.done.events ≤ vec_capacity l.undoing.back;
  again : HasRoomFor l.undoing.aside.events l.done;
}

abbrev pub decreases-events : goal.decreases-events
decreases-events g l = length l.done.events
