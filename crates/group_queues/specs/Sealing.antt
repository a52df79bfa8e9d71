-- Which done events are committed, and what that leaves.
use Rattle.std.specs.Prelude.{◌≡◌, ◌≢◌, ◌⊎◌, ◌<◌, ◌≤◌, ℕ, false, List, [], ◌∷◌, ◌++◌, Contains, map, pos}
use Rattle.vlink.specs.declared.message.Message.{Message}
use Rattle.vlink.specs.Letters.{Row}
use Rattle.vlink.specs.Order.{message_order}
use Rattle.virtual_time.specs.Law.{times_in}
use Rattle.antimessages.specs.Counting.{signed_count}
use Rattle.group_queues.specs.declared.block.Word.{Word}
use Rattle.group_queues.specs.declared.block.Word.TheVariants.{Committed}
use Rattle.group_queues.specs.DoneEvents.{DoneEvent}
use Rattle.group_queues.specs.Flow.{Flow}

-- a done message is earlier than the moment, and counts just once
pub record CanCommit (moment : ℕ) (flow : Flow) (m : Message) : Type 0 where
  pub early : m.time < moment
  pub zero : signed_count message_order m flow.extra ≡ pos 0
  pub none : times_in message_order m flow.queue ≡ 0

-- it is not earlier than the moment; or it counts other than once; or some message of the queue does not come after it
abbrev pub Stays : ℕ → Flow → Message → Type 0
Stays moment flow m = (moment ≤ m.time) ⊎ ((signed_count message_order m flow.extra ≢ pos 0) ⊎ ((x : Message) × Contains flow.queue x × (message_order.less m x ≡ false)))

-- the rows that these events gave, and their words once they are committed
abbrev pub rows_in : {K : Type 0} → List (DoneEvent K) → List Row
rows_in [] = []
rows_in (d ∷ ds) = d.rows ++ rows_in ds

abbrev pub words_of : {K : Type 0} → List (DoneEvent K) → List Word
words_of = map (λ d. Committed d.message.receiver)
