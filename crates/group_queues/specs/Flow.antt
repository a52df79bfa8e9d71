-- What waits for a group and what it sent to others, and how a message that was just sent goes on.
use Rattle.std.specs.Prelude.{◌≡◌, ℕ, Bool, false, List, [], ◌∷◌, ◌++◌, Option, Some, None, map, All, Contains, pos, IsPermutation}
use Rattle.vlink.specs.declared.message.Message.{Message}
use Rattle.vlink.specs.Order.{message_order}
use Rattle.vlink.specs.Letters.{Letter}
use Rattle.virtual_time.specs.Law.{Order, plus_of, lowest, times_of}
use Rattle.reverse.specs.Rules.{is_before}
use Rattle.antimessages.specs.Counting.{signed_count}
use Rattle.group_queues.specs.declared.block.Word.{Word}
use Rattle.group_queues.specs.declared.block.Word.TheVariants.{Home, Taken}

-- what is present and not done, in message order; what counts beside; letters to members that were taken and have not arrived; letters to
-- others; the words of the block, and whether they are kept; and for how many letters and words more there is room
pub record Flow : Type 0 where
  pub queue : List Message
  pub extra : List Letter
  pub tray : List Letter
  pub abroad : List Letter
  pub words : List Word
  pub keeps : Bool
  pub room : ℕ

-- none of these comes before this message, which is one of them, if it is given; else there is none
abbrev pub IsFirst : Option Message → List Message → Type 0
IsFirst None queue = queue ≡ []
IsFirst (Some m) queue = Contains queue m × All (λ x. is_before x m ≡ false) queue

-- the first message left the queue
pub record TookFirst (m : Message) (old new : Flow) : Type 0 where
  pub taken : old.queue ≡ m ∷ new.queue
  pub first : All (λ x. is_before x m ≡ false) old.queue
  pub others : new ≡ record old { queue = new.queue; room = new.room }

-- the least time of the messages of the queue and of the letters in the tray, or this moment
abbrev pub floor_in : Order Message → ℕ → Flow → ℕ
floor_in o end flow = lowest (lowest end (map o.time flow.queue)) (times_of o flow.tray)

-- it went to the letters for others
abbrev pub WentAbroad : Message → Flow → Flow → Type 0
WentAbroad m old new = new ≡ record old { abroad = old.abroad ++ plus_of m ∷ []; room = new.room }

-- it was taken, and arrived at once
pub record CameHome (m : Message) (old new : Flow) : Type 0 where
  pub none_before : old.tray ≡ []
  pub not_beside : signed_count message_order m old.extra ≡ pos 0
  pub queue : IsPermutation (m ∷ old.queue) new.queue
  pub words : new.words ≡ old.words ++ Home m.receiver ∷ []
  pub extra : new.extra ≡ old.extra
  pub tray : new.tray ≡ old.tray
  pub abroad : new.abroad ≡ old.abroad
  pub keeps : new.keeps ≡ old.keeps

-- it was taken, and waits in the tray
abbrev pub WasTaken : Message → Flow → Flow → Type 0
WasTaken m old new = new ≡ record old { tray = old.tray ++ plus_of m ∷ []; words = old.words ++ Taken m.receiver ∷ []; room = new.room }
