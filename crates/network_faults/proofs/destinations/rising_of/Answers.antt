use Rattle.network_faults.proofs.RisingLaw.{sorted-rising}
use Rattle.network_faults.proofs.destinations.rising_of.Goals as goal

pub returns : goal.returns
returns c = sorted-rising _ _ _ c.sort_unstable.ensures.permutation c.sort_unstable.ensures.sorted c.dedup.ensures.filtered
