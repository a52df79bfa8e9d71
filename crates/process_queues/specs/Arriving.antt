-- What the arrival of the front letter does.
use Rattle.std.specs.Prelude.{◌≡◌, ◌≢◌, ℕ, List, [], drop, length, map}
use Rattle.vlink.specs.declared.message.Message.{Message}
use Rattle.vlink.specs.declared.note.Note.{Note}
use Rattle.vlink.specs.Order.{message_order}
use Rattle.virtual_time.specs.Law.{Rules, before, arrive, undone_by}
use Rattle.process_steps.specs.declared.event.Event.{Event}
use Rattle.process_queues.specs.Queues.{AtEachPart, Does, Queues}

-- the front letter of the tray arrived, and that undid so many events
pub record Arrives {S K : Type 0} (r : Rules Message S K Note) (is_value : S → Message → Type 0) (undone : ℕ) (old new : Queues S K) : Type 0 where
  pub arrived : Does r is_value (arrive r) old new
  pub answer : AtEachPart r is_value old (λ opening part. (part.tray ≢ []) × (undone ≡ undone_by message_order part part.tray))
  pub tray : new.tray ≡ drop 1 old.tray
  pub left : new.left ≡ old.left

-- these events from the first one on that does not come before this message
abbrev pub done_since : {K : Type 0} → Message → List (Event K) → List (Event K)
done_since m es = drop (length (before message_order m (map (λ e. e.message) es))) es
