pub mod PlaceLemmas
pub mod EachLemmas
pub mod BuildLemmas
pub mod LimitLemmas
pub mod PortLemmas
pub mod RisingLemmas
pub mod SourceLemmas
