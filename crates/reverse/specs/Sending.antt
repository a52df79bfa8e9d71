-- What a process sends and notes at one event.
use Rattle.std.specs.Prelude.{ℕ, ◌+◌, if◌then◌else◌, nat_le, List, [], ◌∷◌, ◌++◌, length}
use Rattle.vlink.specs.declared.frame.Frame.{Frame}
use Rattle.vlink.specs.declared.message.Message.{Message}
use Rattle.vlink.specs.declared.message.Body.{Body}
use Rattle.vlink.specs.declared.note.Note.{Note}
use Rattle.vlink.specs.declared.note.Note.TheVariants.{Dropped}
use Rattle.vlink.specs.declared.note.Cause.{Cause}

-- a message to be sent: when it is received, by which process, and what it says
pub record Wish : Type 0 where
  pub time : ℕ
  pub receiver : ℕ
  pub body : Body

-- what an event asks to be sent, in this order, and what it notes
pub record Reply : Type 0 where
  pub wishes : List Wish
  pub notes : List Note

abbrev pub silent : Reply
silent = record { wishes = []; notes = [] }

-- both, one behind the other
abbrev pub joined : Reply → Reply → Reply
joined first second = record { wishes = first.wishes ++ second.wishes; notes = first.notes ++ second.notes }

-- a frame is dropped for this cause
abbrev pub loss : Cause → Frame → Reply
loss cause frame = record { wishes = []; notes = Dropped frame.vl cause frame.size ∷ [] }

-- a process that sends: its number, the end of the run, and the number of its next message
pub record Sender : Type 0 where
  pub number : ℕ
  pub until : ℕ
  pub counter : ℕ

-- the message of a wish
abbrev pub message_of : Sender → Wish → Message
message_of s wish = record { time = wish.time; receiver = wish.receiver; sender = s.number; number = s.counter; body = wish.body }

-- the messages of wishes: what would come after the end of the run is left out, and each other one takes the next number
abbrev pub sent : Sender → List Wish → List Message
sent s [] = []
sent s (wish ∷ wishes) =
    if nat_le wish.time s.until
    then message_of s wish ∷ sent (record s { counter = s.counter + 1 }) wishes
    else sent s wishes

-- the sender after them
abbrev pub after_sending : Sender → List Wish → Sender
after_sending s wishes = record s { counter = s.counter + length (sent s wishes) }

-- what a process has sent and noted at one event so far
pub record OutboundState : Type 0 where
  pub sender : Sender
  pub messages : List Message
  pub notes : List Note

-- a reply more
abbrev pub replied : OutboundState → Reply → OutboundState
replied o reply = record {
  sender = after_sending o.sender reply.wishes;
  messages = o.messages ++ sent o.sender reply.wishes;
  notes = o.notes ++ reply.notes;
}
