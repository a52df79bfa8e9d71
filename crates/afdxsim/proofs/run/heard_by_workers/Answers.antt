use Rattle.afdxsim.specs.Workers.{IsRunLine}
use Rattle.commands.proofs.Heard.{heard_lent, host_lent}
use Rattle.afdxsim.proofs.run.heard_by_workers.Goals as goal

pub returns-clause-heard : goal.returns-clause-heard
returns-clause-heard g c =
    heard_lent g.H.Host.outside g.met.H.Host.lawful c.args.is_asked c.asked_of-asked.result.is_asked (IsRunLine c.args.order.now c.args.network.now) c.args.host.now c.errors.result.now c.found_by_workers.new.errors
    c.asked_of-asked.ensures c.errors.ensures.value c.found_by_workers.ensures.heard

pub returns-clause-host : goal.returns-clause-host
returns-clause-host g c =
    host_lent g.H.Host.outside g.met.H.Host.lawful c.args.is_asked c.asked_of-asked.result.is_asked (IsRunLine c.args.order.now c.args.network.now) c.args.host.now c.errors.result.now c.found_by_workers.new.errors
    c.asked_of-asked.ensures c.errors.ensures.value c.found_by_workers.ensures.heard

pub returns-clause-output : goal.returns-clause-output
returns-clause-output g c = g.met.H.Host.lawful.output_beside c.args.host.now c.found_by_workers.new.errors
