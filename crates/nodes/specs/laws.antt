-- What proofs need of nodes, and no clause of a public function.
pub mod EndSystemSending
pub mod Grouping
pub mod Making
pub mod Node
pub mod NodeSending
pub mod Places
pub mod Ports
pub mod Regulator
pub mod Replies
pub mod Sent
pub mod SwitchSending
pub mod Undoing
