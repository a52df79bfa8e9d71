use Rattle.seq_tables.proofs.Premises.{run-ahead}
use Rattle.seq_tables.proofs.lines.lines_ahead_law.Goals as goal

pub returns : goal.returns
returns c = run-ahead c.args.network.now c.accepted_law.ensures c.network_law.ensures c.offered_law.ensures.nodes c.ports_law.ensures.ways c.offered_law.ensures.offers
