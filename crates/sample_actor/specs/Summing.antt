-- An actor that adds up the moments of its messages, as plain functions.
use Rattle.std.specs.Prelude.{◌+◌, ◌%◌, ◌^◌, if◌then◌else◌, nat_le, List, [], ◌∷◌, length}
use Rattle.vlink.specs.declared.message.Message.{Message}
use Rattle.vlink.specs.declared.message.Body.TheVariants.{PortFree}
use Rattle.reverse.specs.declared.sends.Sends.{Sends}
use Rattle.reverse.specs.Plain.{Plain}
use Rattle.sample_actor.specs.declared.summing.Summing.{Summing}
use Rattle.sample_actor.specs.declared.summing.SumRecord.{SumRecord}

-- one message to process 1, five ns later, unless that is after the end time
abbrev pub sends : Summing → Message → List Message
sends s e =
    if nat_le (e.time + 5) s.until
    then record { time = e.time + 5; receiver = 1; sender = 0; number = s.counter; body = PortFree 0 } ∷ []
    else []

abbrev pub summing : Plain Summing Message Sends SumRecord
summing =
    record {
      after = λ s e. record s { sum = (s.sum + e.time) % 2 ^ 64; counter = s.counter + length (sends s e) };
      out = λ s e. record { messages = record { items = sends s e }; notes = record { items = [] } };
      saves = λ s e. record { sum = s.sum; counter = s.counter };
      before = λ s e kept. record s { sum = kept.sum; counter = kept.counter };
      counter = λ s. s.counter;
    }
