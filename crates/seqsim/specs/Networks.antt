-- The words of `network_actors`, for those who use the one-thread run.
pub use Rattle.network_actors.specs.Networks.{AreRowsOf, setting_of}
