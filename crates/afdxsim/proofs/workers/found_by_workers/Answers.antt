use Rattle.commands.proofs.Outcomes.{same_err}
use Rattle.afdxsim.proofs.Heard.{heard_so_far, heard_whole, paced}
use Rattle.afdxsim.proofs.Running.{for_fewer}
use Rattle.afdxsim.proofs.workers.found_by_workers.Goals as goal

pub returns-clause-pace : goal.returns-clause-pace
returns-clause-pace g c = paced c.args.order.now c.args.network.now c.in_ok-found.found.pace c.pace_of-pace.result c.pace_of-pace.ensures c.in_ok-found.ensures.pace

pub returns-clause-heard : goal.returns-clause-heard
returns-clause-heard g c =
    heard_whole g.E.Sink.taken g.E.Sink.failures c.args.order.now c.args.network.now c.args.asked.is_asked c.args.errors.now c.found_at.new.errors
    c.tell_pace.new.errors c.in_ok-found.found.pace
    (paced c.args.order.now c.args.network.now c.in_ok-found.found.pace c.pace_of-pace.result c.pace_of-pace.ensures c.in_ok-found.ensures.pace)
    c.found_at.ensures.heard c.tell_pace.ensures

pub returns-in_err-found-clause-heard : goal.returns-in_err-found-clause-heard
returns-in_err-found-clause-heard g c =
    heard_so_far g.E.Sink.taken g.E.Sink.failures c.args.order.now c.args.network.now c.args.asked.is_asked c.args.errors.now c.found_at.new.errors c.found_at.ensures.heard

pub returns-in_err-found-clause-fault : goal.returns-in_err-found-clause-fault
returns-in_err-found-clause-fault g c =
    same_err _ c.from_residual.result c.in_err-found.field-0.0 c.from_residual.ensures.1
    (for_fewer c.args.order.now c.args.network.now c.pace_of-pace.result c.in_err-found.field-0.0 c.pace_of-pace.ensures c.in_err-found.ensures.fault)
