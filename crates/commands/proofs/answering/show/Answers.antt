use Rattle.std.proofs.Common.{refl}
use Rattle.commands.proofs.Streams.{both_shown}
use Rattle.commands.proofs.answering.show.Goals as goal

pub returns-in-Ok-clause-both : goal.returns-in-Ok-clause-both
returns-in-Ok-clause-both g c =
    let shown = g.H.Host.outside.with_output c.args.host.now c.write_all.new.sink in
    both_shown g.H.Host.outside g.met.H.Host.lawful c.args.host.now shown (c.write_all.new.sink, refl)
