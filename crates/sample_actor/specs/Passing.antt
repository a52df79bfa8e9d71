-- An actor that passes messages on, as plain functions.
use Rattle.std.specs.Prelude.{ℕ, ◌+◌, ◌%◌, ◌^◌, if◌then◌else◌, nat_le, List, [], ◌∷◌, ◌++◌, length}
use Rattle.vlink.specs.declared.message.Message.{Message}
use Rattle.vlink.specs.declared.message.Body.TheVariants.{PortFree}
use Rattle.vlink.specs.declared.note.Note.TheVariants.{Delivered}
use Rattle.reverse.specs.declared.sends.Sends.{Sends}
use Rattle.reverse.specs.Plain.{Plain}
use Rattle.sample_actor.specs.declared.passing.Passing.{Passing}
use Rattle.sample_actor.specs.declared.passing.PassRecord.{PassRecord}

-- the message for this moment, unless that is after the end time
abbrev pub passed_on : Passing → ℕ → List Message
passed_on s ns = if nat_le ns s.until then record { time = ns; receiver = ns % 5; sender = s.number; number = s.counter; body = PortFree 0 } ∷ [] else []

-- once a message for that moment was passed on
abbrev pub after_passing : Passing → ℕ → Passing
after_passing s ns = record s { counter = s.counter + length (passed_on s ns) }

-- one message five ns later, and then one seven ns later
abbrev pub passes : Passing → Message → List Message
passes s e = passed_on s (e.time + 5) ++ passed_on (after_passing s (e.time + 5)) (e.time + 7)

abbrev pub passing : Plain Passing Message Sends PassRecord
passing =
    record {
      after = λ s e. record s { sum = (s.sum + e.time) % 2 ^ 64; counter = s.counter + length (passes s e) };
      out = λ s e. record { messages = record { items = passes s e }; notes = record { items = Delivered (record { 0 = 0 }) e.time ∷ [] } };
      saves = λ s e. record { sum = s.sum; counter = s.counter };
      before = λ s e kept. record s { sum = kept.sum; counter = kept.counter };
      counter = λ s. s.counter;
    }
