-- An output port with two priorities, as plain functions.
use Rattle.std.specs.Prelude.{ℕ, ◌+◌, ◌*◌, ◌<◌, ◌≤◌, Bool, true, false, if◌then◌else◌, nat_le, List, [], ◌∷◌, ◌++◌}
use Rattle.vlink.specs.declared.frame.Frame.{Frame}
use Rattle.frame_ring.specs.Queue.{bytes_of}
use Rattle.frame_ring.specs.Last.{without_last}
use Rattle.reverse.specs.Plain.{Plain}
use Rattle.output_port.specs.declared.event.Priority.{Priority}
use Rattle.output_port.specs.declared.event.Priority.TheVariants.{High, Low}
use Rattle.output_port.specs.declared.event.PortEvent.{PortEvent}
use Rattle.output_port.specs.declared.event.PortEvent.TheVariants.{Put, Free}
use Rattle.output_port.specs.declared.event.PortAnswer.{PortAnswer}
use Rattle.output_port.specs.declared.event.PortAnswer.TheVariants.{Started, Kept, Dropped, Idle, Nothing}
use Rattle.output_port.specs.declared.event.PortRecord.{PortRecord}
use Rattle.output_port.specs.declared.event.PortRecord.TheVariants as saved
use Rattle.output_port.specs.declared.event.PutRecord.{PutRecord}
use Rattle.output_port.specs.declared.event.PutRecord.TheVariants as of_put
use Rattle.output_port.specs.declared.event.FreeRecord.{FreeRecord}
use Rattle.output_port.specs.declared.event.FreeRecord.TheVariants as of_free

pub record PortState : Type 0 where
  -- a frame is in transmission
  pub busy : Bool
  -- the frames that wait, the next to start first
  pub high : List Frame
  pub low : List Frame
  -- how many bytes may wait, in both lists together
  pub bytes : ℕ

-- nothing is in transmission, and nothing waits
abbrev pub opening : ℕ → PortState
opening bytes = record { busy = false; high = []; low = []; bytes = bytes }

-- the frames of this priority that wait
abbrev pub waiting : Priority → PortState → List Frame
waiting High p = p.high
waiting Low p = p.low

-- the port with these frames in the list of this priority
abbrev pub with_waiting : Priority → List Frame → PortState → PortState
with_waiting High frames p = record p { high = frames }
with_waiting Low frames p = record p { low = frames }

-- how many bytes wait; the frame in transmission does not count
abbrev pub waiting_bytes : PortState → ℕ
waiting_bytes p = bytes_of p.high + bytes_of p.low

-- the frame may wait beside the others
abbrev pub may_wait : PortState → Frame → Bool
may_wait p frame = nat_le (waiting_bytes p + frame.size) p.bytes

-- what an event makes of a port: the state after it, the answer, and the record that is kept of it
pub record Outcome : Type 0 where
  pub state : PortState
  pub answer : PortAnswer
  pub kept : PortRecord

-- the frame put is dropped: nothing changes
abbrev pub dropping : PortState → Outcome
dropping p = record { state = p; answer = Dropped; kept = saved.Put of_put.Nothing }

-- an idle port has nothing to free: nothing changes
abbrev pub still_idle : PortState → Outcome
still_idle p = record { state = p; answer = Nothing; kept = saved.Free of_free.Nothing }

-- the frame put starts, and takes no waiting bytes
abbrev pub at_once : PortState → Frame → Outcome
at_once p frame = record { state = record p { busy = true }; answer = Started frame; kept = saved.Put of_put.AtOnce }

-- the frame put goes to the back of its list
abbrev pub keeping : PortState → Frame → Priority → Outcome
keeping p frame priority =
    record {
      state = with_waiting priority (waiting priority p ++ frame ∷ []) p;
      answer = Kept;
      kept = saved.Put (of_put.Kept priority);
    }

-- the first frame of a list starts, and these wait on in that list
abbrev pub starting : PortState → Priority → Frame → List Frame → Outcome
starting p priority frame rest =
    record {
      state = with_waiting priority rest p;
      answer = Started frame;
      kept = saved.Free (of_free.Popped priority frame);
    }

-- a frame is put: it starts if the port is idle; else it waits, if the bytes allow that, or is dropped
abbrev pub put : PortState → Frame → Priority → Outcome
put p frame priority =
    if p.busy
    then (if may_wait p frame then keeping p frame priority else dropping p)
    else at_once p frame

-- the line is free, while these wait, high and low: the first high one starts, or if there is none the first low one,
-- or if there is none the port becomes idle
abbrev pub next : PortState → List Frame → List Frame → Outcome
next p (frame ∷ rest) low = starting p High frame rest
next p [] (frame ∷ rest) = starting p Low frame rest
next p [] [] = record { state = record p { busy = false }; answer = Idle; kept = saved.Free of_free.Idle }

-- the line is free: at an idle port that changes nothing
abbrev pub free : PortState → Outcome
free p = if p.busy then next p p.high p.low else still_idle p

-- what is kept of a frame put
abbrev pub put_kept : PortState → Frame → Priority → PutRecord
put_kept p frame priority =
    if p.busy
    then (if may_wait p frame then of_put.Kept priority else of_put.Nothing)
    else of_put.AtOnce

-- the records tell the answers
abbrev pub put_answer : Frame → PutRecord → PortAnswer
put_answer frame of_put.AtOnce = Started frame
put_answer frame (of_put.Kept priority) = Kept
put_answer frame of_put.Nothing = Dropped

abbrev pub free_answer : FreeRecord → PortAnswer
free_answer (of_free.Popped priority frame) = Started frame
free_answer of_free.Idle = Idle
free_answer of_free.Nothing = Nothing

abbrev pub outcome : PortState → PortEvent → Outcome
outcome p (Put frame priority) = put p frame priority
outcome p Free = free p

-- the state before an event, from the state after it and the record that was kept of it
abbrev pub undone : PortState → PortRecord → PortState
undone p (saved.Put of_put.AtOnce) = record p { busy = false }
undone p (saved.Put (of_put.Kept priority)) = with_waiting priority (without_last (waiting priority p)) p
undone p (saved.Put of_put.Nothing) = p
undone p (saved.Free (of_free.Popped priority frame)) = with_waiting priority (frame ∷ waiting priority p) p
undone p (saved.Free of_free.Idle) = record p { busy = true }
undone p (saved.Free of_free.Nothing) = p

-- the output port
abbrev pub port : Plain PortState PortEvent PortAnswer PortRecord
port =
    record {
      after = λ p e. (outcome p e).state;
      out = λ p e. (outcome p e).answer;
      saves = λ p e. (outcome p e).kept;
      before = λ p e kept. undone p kept;
      counter = λ p. 0;
    }

-- no more bytes wait than may
abbrev pub IsWithinBytes : PortState → Type 0
IsWithinBytes p = waiting_bytes p ≤ p.bytes

-- these lists, in rings with this room each, belong to a port with this many bytes: no more bytes wait than may, and
-- each ring has room for as many frames of the least size, 64 bytes, as the bytes allow
pub record IsPort (high low : List Frame) (high_room low_room bytes : ℕ) : Type 0 where
  pub within : bytes_of high + bytes_of low ≤ bytes
  pub high_suffices : bytes < 64 * (high_room + 1)
  pub low_suffices : bytes < 64 * (low_room + 1)
