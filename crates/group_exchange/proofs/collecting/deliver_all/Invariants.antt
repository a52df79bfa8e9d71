use Rattle.std.proofs.Common.{◌≡◌, ◌+◌, ◌≤◌, ◌++◌, All, length, take}
use Rattle.vlink.specs.declared.message.Message.{Message}
use Rattle.vlink.specs.Order.{message_order}
use Rattle.virtual_time.specs.Law.{World}
use Rattle.reverse.specs.Rules.{rules_of}
use Rattle.reverse.specs.Setting.{Setting}
use Rattle.group_hand.specs.Hands.{StandsForGroup}
use Rattle.group_exchange.specs.Views.{with_letters}
use Rattle.group_exchange.proofs.collecting.deliver_all.Given as goal

abbrev pub invariant-loop-letter : goal.invariant-loop-letter
invariant-loop-letter g l = record {
  told : l.hand ≡ record l.initial.hand { flow = record l.initial.hand.flow { tray = l.initial.hand.flow.tray ++ take l.letter-index l.letters; room = l.hand.flow.room } };
  room : length l.letters ≤ l.hand.flow.room + l.letter-index;
  stands : (x : Setting g.row.R.Denot) (v : World Message g.row.R.Denot) → All (λ m. m.message.time ≤ x.until) l.letters →
      StandsForGroup (rules_of g.R.Reversible.plain) g.R.Reversible.is_value x v l.initial.hand →
      StandsForGroup (rules_of g.R.Reversible.plain) g.R.Reversible.is_value x (with_letters message_order (take l.letter-index l.letters) v) l.hand;
}
