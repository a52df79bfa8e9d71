-- The signed counts of a process, by the rules of its actor and by the order of messages.
use Rattle.std.proofs.Common.{◌≡◌, ℕ, ◌+◌, Bool, true, false, not, ◌&&◌, List, ◌∷◌, pos, ◌-ℤ◌, refl, ap, ◌∙◌, arith, ◌≢◌}
use Rattle.std.proofs.lemmas.Int.{ints}
use Rattle.vlink.specs.declared.message.Message.{Message}
use Rattle.vlink.specs.declared.note.Note.{Note}
use Rattle.virtual_time.specs.Law.{Rules, IsOrder, one_if, same, plus_of, minus_of, pluses, minuses, is_present, is_toggled}
use Rattle.reverse.specs.declared.sends.Sends.{Sends}
use Rattle.reverse.specs.Plain.{Plain, IsReversible}
use Rattle.reverse.specs.Rules.{rules_of}
use Rattle.vlink.specs.Order.{message_order}
use Rattle.vlink.specs.Letters.{Letter}
use Rattle.antimessages.specs.Counting.{change_by, is_toggle, HaveSameCounts}
use Rattle.antimessages.specs.declared.tally.Change.{Change}
use Rattle.antimessages.specs.declared.tally.Change.TheVariants.{BecamePresent, BecameAbsent, Same}
use Rattle.antimessages.proofs.Agreeing.{present-same_count, same_counts-cons, change-same_counts, toggled-is}

-- rules over messages as they are: in their order, at their places, and undone event by event
pub record OfMessages {S K : Type 0} (r : Rules Message S K Note) : Type 0 where
  pub order : IsOrder r.order
  pub messages : IsOrder message_order
  pub order_is : r.order ≡ message_order
  pub undoes : (s : S) (e : Message) → r.undo (r.after s e) e (r.kept s e) ≡ s

-- an actor's rules are
pub of-messages : {S K : Type 0} (plain : Plain S Message Sends K) → IsOrder message_order → IsReversible plain → OfMessages (rules_of plain)
of-messages plain O law = record {
  order = O;
  messages = O;
  order_is = refl;
  undoes = law;
}

-- each change but none toggles a message
toggles : (c : Change) → c ≢ Same → is_toggle c ≡ true
toggles BecamePresent n = refl
toggles BecameAbsent n = refl
toggles Same n = absurd (n refl)

-- one letter of a message is taken out: as if an antimessage had come
pub counts-less : (m : Message) (a b new : List Letter) → HaveSameCounts message_order a b → HaveSameCounts message_order (plus_of m ∷ new) b →
    HaveSameCounts message_order (minus_of m ∷ a) new
counts-less m a b new h less x =
    same_counts-cons message_order (minus_of m) a b h x ∙
    go (same message_order x m) (pluses message_order x b) (minuses message_order x b) (pluses message_order x new) (minuses message_order x new) (less x)
  where
    go : (c : Bool) (p n q o : ℕ) → pos (one_if (true && c) + q) -ℤ pos (one_if (not true && c) + o) ≡ pos p -ℤ pos n →
        pos (one_if (false && c) + p) -ℤ pos (one_if (not false && c) + n) ≡ pos q -ℤ pos o
    go true p n q o e = omega (arith, ints)
    go false p n q o e = omega (arith, ints)

module _ {S K : Type 0} (r : Rules Message S K Note) (R : OfMessages r) where
  pub present-agree : (a b : List Letter) → HaveSameCounts message_order a b → (m : Message) → is_present r.order a m ≡ is_present message_order b m
  present-agree a b h m = ap (λ o. is_present o a m) R.order_is ∙ present-same_count message_order m a b (h m)

  module _ (l : Letter) (a b : List Letter) (h : HaveSameCounts message_order a b) where
    toggled-as : is_toggled r.order l a ≡ is_toggle (change_by message_order l b)
    toggled-as = ap (λ o. is_toggled o l a) R.order_is ∙ (toggled-is message_order l a ∙ ap is_toggle (change-same_counts message_order l a b h))

    pub not_toggled : change_by message_order l b ≡ Same → is_toggled r.order l a ≡ false
    not_toggled e = toggled-as ∙ ap is_toggle e

    pub toggled : change_by message_order l b ≢ Same → is_toggled r.order l a ≡ true
    toggled n = toggled-as ∙ toggles _ n
