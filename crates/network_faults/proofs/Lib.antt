pub mod PackLemmas
pub mod PlanFaults
pub mod NameLemmas
pub mod JoinLemmas
pub mod IdLemmas
pub mod OrderLemmas
pub mod MemberLemmas
pub mod RisingLaw
