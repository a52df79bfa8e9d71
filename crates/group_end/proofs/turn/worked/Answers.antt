use Rattle.std.proofs.Common.{IfErr, subst}
use Rattle.reverse.specs.Rules.{rules_of}
use Rattle.reverse.specs.Setting.{simulation_of}
use Rattle.group_exchange.specs.Effects.{WorksSome}
use Rattle.group_end.proofs.Turning.{short-at, used-up}
use Rattle.group_end.proofs.turn.worked.Given.{Over}
use Rattle.group_end.proofs.turn.worked.Goals.{In-Err}
use Rattle.group_end.proofs.turn.worked.Goals as goal

-- what the group did before the refusal
some : (g : Over) (c : In-Err g) → WorksSome (simulation_of (rules_of g.R.Reversible.plain) g.J.GroupRun.setting) g.J.GroupRun.owners c.args.window c.args.group.now c.work.new.group c.in-Err.fault
some g c =
    subst (λ r. IfErr r (λ fault. WorksSome (simulation_of (rules_of g.R.Reversible.plain) g.J.GroupRun.setting) g.J.GroupRun.owners c.args.window c.args.group.now c.work.new.group fault)) c.in-Err.is c.work.ensures.some

pub returns-in-Err-clause-used_up : goal.returns-in-Err-clause-used_up
returns-in-Err-clause-used_up g c = λ e.
    let fault = c.in-Err.fault in
    used-up (simulation_of (rules_of g.R.Reversible.plain) g.J.GroupRun.setting) g.J.GroupRun.owners c.groups-groups.result c.groups-groups.ensures.grouped _ c.work.new.group c.fits-fits.ensures.parts
    (short-at (simulation_of (rules_of g.R.Reversible.plain) g.J.GroupRun.setting) g.J.GroupRun.owners c.args.window c.args.group.now c.work.new.group c.in-Err.fault (some g (goal.at.returns-in-Err-clause-used_up g c).In-Err) cc)

pub returns-in-Err-clause-faults : goal.returns-in-Err-clause-faults
returns-in-Err-clause-faults g c = (some g (goal.at.returns-in-Err-clause-faults g c).In-Err).faults
