-- What an event sent goes on, one message after another.
-- So each word of a block is one step of a proof; the law of a whole event at once fits neither a message that counts beside nor a
-- rollback.
use Rattle.std.specs.Prelude.{◌≡◌, ◌≤◌, true, Option, List, ◌++◌, map}
use Rattle.vlink.specs.declared.message.Message.{Message}
use Rattle.vlink.specs.declared.note.Note.{Note}
use Rattle.virtual_time.specs.Law.{Rules, Laws, World, IsIn, plus_of, AreBy, AreDone, done_by}
use Rattle.reverse.specs.Setting.{Setting, simulation_of}
use Rattle.group_queues.specs.declared.block.Word.{Word}
use Rattle.group_queues.specs.Block.{commits_in, runs_in, steps_told}
use Rattle.group_queues.specs.DoneEvents.{DoneEvent, messages_of}
use Rattle.group_queues.specs.Flow.{Flow}
use Rattle.group_hand.specs.Hands.{Held, StandsForSent, is_ours}
use Rattle.group_queues.specs.Rows.{Sealed}

abbrev pub held : {S K : Type 0} → List (Option S) → List (DoneEvent K) → Sealed → Flow → Held S K
held members done rows flow = record { members = members; done = done; rows = rows; flow = flow }

-- of these messages, which one event sent, some have not gone on yet; where all come after what the group has done, and are not after the end,
-- the group stands for what the steps make of it by which the others did, which are all of members
pub record GoesOn {S K : Type 0} (r : Rules Message S K Note) (V : S → Message → Type 0) (members : List (Option S)) (all : List Message) (old : Flow) (sent : List Message) (new : Flow) (left : List Message) : Type 0 where
  pub did : List Word
  pub words : new.words ≡ old.words ++ did
  pub keeps : new.keeps ≡ old.keeps
  pub by : AreBy (is_ours members) (steps_told did)
  pub no_run : runs_in did ≡ 0
  pub no_commit : commits_in did ≡ 0
  pub stands : (done : List (DoneEvent K)) (rows : Sealed) (x : Setting S) → Laws (simulation_of r x) → (v : World Message S) →
      ((m : Message) → IsIn r.order m all → r.order.time m ≤ x.until) →
      ((m y : Message) → IsIn r.order m all → IsIn r.order y (messages_of done) → r.order.less y m ≡ true) →
      StandsForSent r V x v (held members done rows old) (map plus_of sent) →
      AreDone (simulation_of r x) (steps_told did) v × StandsForSent r V x (done_by (simulation_of r x) (steps_told did) v) (held members done rows new) (map plus_of left)
