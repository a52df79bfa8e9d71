use Rattle.network_faults.proofs.RisingLaw.{is-rising, only-rising}
use Rattle.network_tables.proofs.laws.rising_law.Goals as goal

pub returns : goal.returns
returns c = record { rising = is-rising; only = only-rising }
