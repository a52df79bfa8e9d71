use Rattle.std.proofs.Common.{◌≡◌}
use Rattle.vlink.specs.Order.{message_order}
use Rattle.reverse.specs.Rules.{rules_of}
use Rattle.reverse.specs.Setting.{simulation_of}
use Rattle.group_exchange.specs.Views.{world_after}
use Rattle.group_end.specs.Together.{AreInPlace, HaveRested}
use Rattle.group_end.proofs.Rounds.{Took}
use Rattle.group_end.proofs.turn.take_turns.Given as goal

-- each group is in its place, and the first ones had a turn
abbrev pub invariant-loop-place : goal.invariant-loop-place
invariant-loop-place g l =
    record {
      in_place : AreInPlace l.groups;
      limit : l.exchange.limit ≡ l.fn.exchange.limit;
      rested : HaveRested message_order g.J.GroupRun.setting.until (world_after (simulation_of (rules_of g.R.Reversible.plain) g.J.GroupRun.setting) l.fn.exchange.steps).gvt l.place l.groups;
      took : Took (simulation_of (rules_of g.R.Reversible.plain) g.J.GroupRun.setting) g.J.GroupRun.owners l.place l.fn.exchange.steps l.exchange.steps;
    }
