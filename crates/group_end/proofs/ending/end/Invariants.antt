use Rattle.std.proofs.Common.{◌≡◌, ◌+◌, ◌-◌}
use Rattle.reverse.specs.Rules.{rules_of}
use Rattle.reverse.specs.Setting.{simulation_of}
use Rattle.group_end.specs.Together.{AreInPlace, IsPublished}
use Rattle.group_end.proofs.ending.end.Given as goal

abbrev pub invariant-loop-until : goal.invariant-loop-until
invariant-loop-until g l =
    record {
      in_place : AreInPlace l.groups;
      limit : l.exchange.limit ≡ l.fn.exchange.limit;
      published : IsPublished (simulation_of (rules_of g.R.Reversible.plain) g.J.GroupRun.setting) l.exchange.steps l.gvt;
    }

-- how far GVT is from its end
abbrev pub decreases-loop-until : goal.decreases-loop-until
decreases-loop-until g l = l.until + 1 - l.gvt
