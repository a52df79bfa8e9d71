pub use Rattle.actor_world.specs.Worlds
pub mod Replaying
pub mod Networks
pub mod Replayed
