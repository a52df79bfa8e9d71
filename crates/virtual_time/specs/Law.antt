-- The words of the laws of virtual time, for the crates that use them: each word from the file that defines it.
pub use Rattle.virtual_time.specs.Groups.{AreAlike, AreBy, AreDone, IsSafeGroup, behind, done_by, in_hand, is_by, joined, waiting_in}
pub use Rattle.virtual_time.specs.Journal.{AreEnabled, Deed, Entry, Posted, Published, Collected, acts_of, after_own, can_move, delivered_block, fetched, is_of, last_from, last_place, own_in, reach, step_by, steps, steps_of}
pub use Rattle.virtual_time.specs.Letters.{IsNamed, IsPresent, is_plus, lowest, minus_of, minuses, plus_of, pluses, received_by, times_of}
unfoldable pub use Rattle.virtual_time.specs.Letters.{is_present}
pub use Rattle.virtual_time.specs.Lists.{IsAscending, IsIn, IsNumbered, before, earlier, events_at, from_on, least, lesser, one_if, times_in, without}
unfoldable pub use Rattle.virtual_time.specs.Lists.{same}
pub use Rattle.virtual_time.specs.OneThread.{IsBelow, IsFirst, IsLeft, NoneWaits, OneThread, events, handle}
unfoldable pub use Rattle.virtual_time.specs.OneThread.{one}
pub use Rattle.virtual_time.specs.Own.{Act, acted, after_moves, delivery, local}
unfoldable pub use Rattle.virtual_time.specs.Own.{own}
pub use Rattle.virtual_time.specs.Own.Act.{Deliver, Emptying, Moves}
pub use Rattle.virtual_time.specs.Part.{Part, arrive, arrived, can_commit, commit_oldest, delivered, emptied, floor_of, handled, is_toggled, next_of, oldest_committed, opened, rolled_back, run_one, tallied, undo_all, undone_by}
unfoldable pub use Rattle.virtual_time.specs.Part.{unhandled}
pub use Rattle.virtual_time.specs.Rules.{IsOrder, Order, Rules, reached, rowed, rows_at, rows_of, sent, undone}
pub use Rattle.virtual_time.specs.Safe.{CountLaw, IsFinished, IsWhole, NothingBefore, Safe, history}
pub use Rattle.virtual_time.specs.SafePart.{IsSafePart, MayAct}
pub use Rattle.virtual_time.specs.Simulation.{IsReached, Laws, Simulation, made, put}
pub use Rattle.virtual_time.specs.Well.{HoldsAlong, IsWell, SendsKept}
pub use Rattle.virtual_time.specs.World.{World, gvt_over, is_early, posted, start, taken, with_part}
unfoldable pub use Rattle.virtual_time.specs.World.{effect, is_enabled, run, step}
