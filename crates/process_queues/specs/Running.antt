-- What running the next event does, and what it returns.
use Rattle.std.specs.Prelude.{◌≡◌, ◌+◌, ◌<◌, ◌↔◌, Option, None, Result, Err, IsSome, IfOk, OnErr}
use Rattle.vlink.specs.declared.message.Message.{Message}
use Rattle.vlink.specs.declared.note.Note.{Note}
use Rattle.vlink.specs.Order.{message_order}
use Rattle.vlink.specs.Numbering.{greatest_number}
use Rattle.virtual_time.specs.Law.{Rules, next_of, run_one}
use Rattle.reverse.specs.declared.sends.TheConstants.{MOST_SENT}
use Rattle.process_queues.specs.declared.fault.ProcFault.{ProcFault}
use Rattle.process_queues.specs.declared.fault.ProcFault.TheVariants.{Exhausted}
use Rattle.process_queues.specs.Queues.{AtEachPart, Does, Queues, next_in, state_in}

-- this was the next message, and was handled; or there was none, and nothing changed
pub record RunsNext {S K : Type 0} (r : Rules Message S K Note) (is_value : S → Message → Type 0) (message : Option Message) (old new : Queues S K) : Type 0 where
  pub ran : Does r is_value (λ opening. run_one r) old new
  pub handled : AtEachPart r is_value old (λ opening part. message ≡ next_of message_order part)
  pub next : message ≡ next_in old
  pub tray : new.tray ≡ old.tray
  pub left : new.left ≡ old.left
  pub idle : message ≡ None → new ≡ old

-- running the next event was answered so, and left this
pub record IsRun {S K : Type 0} (r : Rules Message S K Note) (is_value : S → Message → Type 0) (old new : Queues S K) (answer : Result (Option Message) ProcFault) : Type 0 where
  pub ran : IfOk answer (λ message. RunsNext r is_value message old new)
  -- exactly where there is a next message, and the actor has not enough numbers left for what one event can send
  pub exhausted : (answer ≡ Err Exhausted) ↔ IsSome (next_in old) × (greatest_number < r.counter (state_in old) + MOST_SENT)
  -- a refusal comes only where there is a next message, and changes nothing
  pub refused : OnErr answer (AtEachPart r is_value old (λ opening part. IsSome (next_of message_order part)))
  pub unchanged : OnErr answer (new ≡ old)
