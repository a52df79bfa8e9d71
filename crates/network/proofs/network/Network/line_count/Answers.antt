use Rattle.std.proofs.Common.{[]}
use Rattle.network.proofs.BuildLemmas.{length-lines}
use Rattle.network.proofs.network.Network.line_count.Goals as goal

pub returns-clause-links : goal.returns-clause-links
returns-clause-links c = length-lines c.args.self.now.nodes [] c.args.self.now.links
