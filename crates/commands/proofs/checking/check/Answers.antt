use Rattle.commands.proofs.Outcomes.{err_then}
use Rattle.commands.proofs.Lacking.{no_output}
use Rattle.commands.proofs.checking.check.Goals as goal

pub returns-clause-fault : goal.returns-clause-fault
returns-clause-fault g c =
    err_then c.show_counts.result c.show_counts.ensures.fault (λ fault met.
    no_output g.H.Host.outside g.met.H.Host.lawful _ c.args.host.now c.output.result.now c.show_counts.new.output fault c.output.ensures.value met)
