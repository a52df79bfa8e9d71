use Rattle.std.proofs.Common.{◌≡◌}
use Rattle.virtual_time.specs.Law.{run, start}
use Rattle.reverse.specs.Rules.{rules_of}
use Rattle.reverse.specs.Setting.{simulation_of}
use Rattle.ends.specs.Left.{rank}
use Rattle.group_end.specs.Together.{AreInPlace, IsPublished}
use Rattle.group_end.proofs.ending.raise.Given as goal

abbrev pub invariant-loop-exchange : goal.invariant-loop-exchange
invariant-loop-exchange g l =
    record {
      in_place : AreInPlace l.groups;
      limit : l.exchange.limit ≡ l.fn.exchange.limit;
      published : IsPublished (simulation_of (rules_of g.R.Reversible.plain) g.J.GroupRun.setting) l.exchange.steps l.gvt;
    }

-- the rank of the world
abbrev pub decreases-loop-exchange : goal.decreases-loop-exchange
decreases-loop-exchange g l =
    let f = simulation_of (rules_of g.R.Reversible.plain) g.J.GroupRun.setting in
    rank f (run f l.exchange.steps (start f))
