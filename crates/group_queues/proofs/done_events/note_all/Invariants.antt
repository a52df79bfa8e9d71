use Rattle.std.proofs.Common.{◌≡◌, ◌+◌, ◌++◌, take}
use Rattle.virtual_time.specs.Law.{rows_of}
use Rattle.vlink.specs.Order.{message_order}
use Rattle.group_queues.proofs.done_events.note_all.Given as goal

abbrev pub invariant-loop-note : goal.invariant-loop-note
invariant-loop-note l = record {
  noted : l.rows.items ≡ l.initial.rows.items ++ rows_of message_order l.message (take l.note-index l.notes);
  room : l.rows.room + l.note-index ≡ l.initial.rows.room;
}
