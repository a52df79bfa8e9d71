-- The rules that an actor gives to the laws of virtual time: messages in their order, and the actor's plain functions.
use Rattle.std.specs.Prelude.{Bool, List, [], ◌∷◌, ⊤}
use Rattle.vlink.specs.declared.message.Message.{Message}
use Rattle.vlink.specs.declared.note.Note.{Note}
use Rattle.vlink.specs.Order.{message_order}
use Rattle.virtual_time.specs.Law.{Rules}
use Rattle.reverse.specs.declared.sends.Sends.{Sends}
use Rattle.reverse.specs.Plain.{Plain}

-- the first message comes before the second
abbrev pub is_before : Message → Message → Bool
is_before a b = message_order.less a b

-- the rules of an actor with these plain functions
abbrev pub rules_of : {S K : Type 0} → Plain S Message Sends K → Rules Message S K Note
rules_of plain =
    record {
      order = message_order;
      after = plain.after;
      sends = λ s m. (plain.out s m).messages.items;
      notes = λ s m. (plain.out s m).notes.items;
      counter = plain.counter;
      kept = plain.saves;
      undo = plain.before;
    }

-- each of these messages was handled, from the state s on, at a state that is a value of its type
abbrev pub AreValues : {S K : Type 0} → Rules Message S K Note → (S → Message → Type 0) → S → List Message → Type 0
AreValues r is_value s [] = ⊤
AreValues r is_value s (m ∷ ms) = is_value s m × AreValues r is_value (r.after s m) ms
