use Rattle.commands.specs.Progress.{IsProgressLine}
use Rattle.commands.proofs.Heard.{heard_lent, host_lent}
use Rattle.commands.proofs.sequencing.heard_run.Goals as goal

pub returns-clause-heard : goal.returns-clause-heard
returns-clause-heard g c =
    heard_lent g.H.Host.outside g.met.H.Host.lawful c.args.is_asked c.asked_of-asked.result.is_asked (IsProgressLine c.args.network.now.until) c.args.host.now c.errors.result.now c.whole_run.new.errors
    c.asked_of-asked.ensures c.errors.ensures.value c.whole_run.ensures.heard

pub returns-clause-host : goal.returns-clause-host
returns-clause-host g c =
    host_lent g.H.Host.outside g.met.H.Host.lawful c.args.is_asked c.asked_of-asked.result.is_asked (IsProgressLine c.args.network.now.until) c.args.host.now c.errors.result.now c.whole_run.new.errors
    c.asked_of-asked.ensures c.errors.ensures.value c.whole_run.ensures.heard

pub returns-clause-output : goal.returns-clause-output
returns-clause-output g c = g.met.H.Host.lawful.output_beside c.args.host.now c.whole_run.new.errors
