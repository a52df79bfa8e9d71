use Rattle.std.proofs.Common.{subst, IfErr}
use Rattle.nodes.specs.Words.{simulation_of}
use Rattle.group_exchange.specs.Effects.{WorksSome}
use Rattle.group_turns.proofs.UsedUp.{lacking-at}
use Rattle.group_turns.proofs.working.work_ahead.Given.{Over}
use Rattle.group_turns.proofs.working.work_ahead.Goals.{In-Err}
use Rattle.group_turns.proofs.working.work_ahead.Goals as goal

-- what the group did before the refusal
some : (g : Over) (c : In-Err g) → WorksSome (simulation_of g.J.NetworkRun.plan) g.J.NetworkRun.owners c.args.ahead_ns c.args.group.now c.work.new.group c.in-Err.fault
some g c =
    subst (λ r. IfErr r (λ fault. WorksSome (simulation_of g.J.NetworkRun.plan) g.J.NetworkRun.owners c.args.ahead_ns c.args.group.now c.work.new.group fault)) c.in-Err.is c.work.ensures.some

pub returns-in-Err-clause-numbers : goal.returns-in-Err-clause-numbers
returns-in-Err-clause-numbers g c =
    lacking-at g.J.NetworkRun.plan g.J.NetworkRun.owners c.args.ahead_ns c.args.group.now c.work.new.group c.in-Err.fault (some g (goal.at.returns-in-Err-clause-numbers g c).In-Err)

pub returns-in-Err-clause-faults : goal.returns-in-Err-clause-faults
returns-in-Err-clause-faults g c = (some g (goal.at.returns-in-Err-clause-faults g c).In-Err).faults
