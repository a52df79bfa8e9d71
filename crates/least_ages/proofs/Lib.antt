pub mod StartTimes
pub mod OfferTimes
pub mod LeastLemmas
pub mod RowLemmas
pub mod DeliveryLemmas
pub mod BacklogLemmas
