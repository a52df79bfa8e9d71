-- What a description means, for proofs and for the crates above: each word from the file that defines it.
pub use Rattle.netdesc.specs.Description.{Describes, HasNoFault, TellsFaultOf}
