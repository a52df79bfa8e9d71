use Rattle.std.proofs.Common.{◌≡◌, List, ◌++◌, take}
use Rattle.virtual_time.specs.Law.{rows_of}
use Rattle.vlink.specs.Order.{message_order}
use Rattle.vlink.specs.Letters.{Row}
use Rattle.actor_run.proofs.recorder.record.Given as goal

abbrev pub invariant-loop-note : goal.invariant-loop-note
invariant-loop-note g l = record {
  taken : (rows : List Row) → g.R.Recorder.has_taken l.initial.recorder rows →
      g.R.Recorder.has_taken l.recorder (rows ++ rows_of message_order l.message (take l.note-index l.notes));
  purpose : g.R.Recorder.purpose l.recorder ≡ g.R.Recorder.purpose l.initial.recorder;
}
