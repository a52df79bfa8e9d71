use Rattle.port_bounds.proofs.ArrivalLemmas.{fewer-paced, fewer-serial, paced, serial, spaced}
use Rattle.port_bounds.proofs.MixtureLemmas.{mixture}
use Rattle.port_bounds.proofs.arrivals.arrivals_law.Goals as goal

pub returns : goal.returns
returns c = record { paced = paced; spaced = spaced; serial = serial; mixture = mixture; fewer_paced = fewer-paced; fewer_serial = fewer-serial }
