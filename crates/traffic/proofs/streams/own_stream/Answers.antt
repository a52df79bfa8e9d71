use Rattle.traffic.proofs.StreamLemmas.{own-more}
use Rattle.traffic.proofs.streams.own_stream.Goals as goal

pub returns-clause-more : goal.returns-clause-more
returns-clause-more c = rw c.from.ensures (own-more c.args.network.now c.args.vl c.virtual_link-link.result c.source.result c.virtual_link-link.ensures.value c.source.ensures.value)
