-- What stands at a port number: what was read there, or nothing behind the last; and where nothing stands, nothing is said.
use Rattle.std.proofs.lemmas.Option.{slice_get_past, slice_get_read}
use Rattle.nodes.proofs.SendingLemmas.{replied-silent}

pub ruleset reads = (slice_get_past, slice_get_read, replied-silent)
