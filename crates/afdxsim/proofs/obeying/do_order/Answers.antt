use Rattle.std.proofs.Common.{◌∙◌, ap}
use Rattle.commands.proofs.Outcomes.{err_then, no_value, same_err}
use Rattle.afdxsim.proofs.Ended.{done_there, fault_there}
use Rattle.afdxsim.proofs.obeying.do_order.Goals as goal

pub returns-clause-done : goal.returns-clause-done
returns-clause-done g c =
    done_there g.H.Host.outside c.done_on.result c.args.order.now c.in_ok-network.network c.net_of.result.now c.args.host.now c.network_of.new.host c.done_on.new.host
    c.net_of.ensures c.in_ok-network.ensures.host c.in_ok-network.ensures.network c.done_on.ensures.done

pub returns-clause-fault : goal.returns-clause-fault
returns-clause-fault g c =
    fault_there g.H.Host.outside c.done_on.result c.args.order.now c.in_ok-network.network c.net_of.result.now c.args.host.now c.network_of.new.host c.done_on.new.host
    c.net_of.ensures c.in_ok-network.ensures.host c.in_ok-network.ensures.network c.done_on.ensures.fault c.done_on.ensures.heard

pub returns-clause-kept : goal.returns-clause-kept
returns-clause-kept g c =
    err_then c.done_on.result c.done_on.ensures.kept (λ fault kept other. kept other ∙ ap g.H.Host.outside.output c.in_ok-network.ensures.host)

pub returns-in_err-network-clause-done : goal.returns-in_err-network-clause-done
returns-in_err-network-clause-done g c = no_value _ _ c.from_residual.result c.from_residual.ensures.1

pub returns-in_err-network-clause-kept : goal.returns-in_err-network-clause-kept
returns-in_err-network-clause-kept g c =
    same_err _ c.from_residual.result c.in_err-network.field-0.0 c.from_residual.ensures.1 (λ other. c.network_of.ensures.output)
