use Rattle.std.proofs.Common.{subst}
use Rattle.network_bounds.specs.declared.sizes.Senders.{Senders}
use Rattle.network_bounds.specs.Text.{IsBoundsText}
use Rattle.commands.proofs.Lacking.{no_output}
use Rattle.commands.proofs.Outcomes.{err_then, ok_then}
use Rattle.commands.proofs.Streams.{shows}
use Rattle.commands.proofs.bounding.bounds.Goals as goal

pub returns-clause-text : goal.returns-clause-text
returns-clause-text g c =
    let outside = g.H.Host.outside in
    let law = g.met.H.Host.lawful in
    let out = c.show_bounds.new.output in
    ok_then c.show_bounds.result c.show_bounds.ensures.text (λ shown. (
      shown.0,
      subst (λ (s : Senders). IsBoundsText s c.args.network.now shown.0) c.senders_of.ensures shown.1,
      shows outside law c.args.host.now (outside.with_output c.args.host.now out) c.output.result.now out shown.0 c.output.ensures.value
          (law.output_stays c.args.host.now out) shown.2,
    ))

pub returns-clause-fault : goal.returns-clause-fault
returns-clause-fault g c =
    err_then c.show_bounds.result c.show_bounds.ensures.fault (λ fault met.
    no_output g.H.Host.outside g.met.H.Host.lawful _ c.args.host.now c.output.result.now c.show_bounds.new.output fault c.output.ensures.value met)
