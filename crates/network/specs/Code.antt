-- The code's data of a network, against its plan. It serves contracts that make a network, and proofs: no definition of what a network is
-- needs it.
pub mod Views
pub mod Tables
