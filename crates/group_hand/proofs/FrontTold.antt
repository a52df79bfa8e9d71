-- The first letter of the tray arrives, and what was undone by it goes on: all that as words of the block.
use Rattle.std.proofs.Common.{◌≡◌, ◌≤◌, List, ◌∷◌, ◌++◌, [], reverse, sym, ap, ◌∙◌, subst, arith}
use Rattle.vlink.specs.declared.message.Message.{Message}
use Rattle.vlink.specs.declared.note.Note.{Note}
use Rattle.vlink.specs.Letters.{Letter}
use Rattle.vlink.specs.Order.{message_order}
use Rattle.virtual_time.specs.Law.{Rules, IsOrder, Laws, World, IsAscending, IsIn, IsNamed, IsReached, reached, sent}
use Rattle.virtual_time.proofs.Handling.{reached-append}
use Rattle.virtual_time.proofs.Letters.{named-minus}
use Rattle.virtual_time.proofs.Lists.{times-reverse}
use Rattle.virtual_time.proofs.Sends.{sends-each}
use Rattle.reverse.specs.Plain.{Plain}
use Rattle.reverse.specs.Rules.{rules_of}
use Rattle.reverse.specs.Setting.{Setting, simulation_of}
use Rattle.reverse.specs.declared.sends.Sends.{Sends}
use Rattle.group_queues.specs.declared.block.Word.TheVariants.{Arrived}
use Rattle.group_queues.specs.DoneEvents.{DoneEvent, done_events_at, messages_of}
use Rattle.group_hand.specs.Hands.{Held, DoesSent, StandsForSent}
use Rattle.group_hand.specs.Arriving.{FrontArrived, WentOn, taken_back, sent_by}
use Rattle.group_hand.proofs.LateDone.{sent-events}
use Rattle.group_hand.proofs.Arrival.{halves}
use Rattle.group_hand.proofs.Arrives.{front-steps, front-stands, mine, at, within, ours, ours-same}
use Rattle.group_hand.proofs.WordTold.{word-told}

module _ {S K : Type 0} (plain : Plain S Message Sends K) (V : S → Message → Type 0) (O : IsOrder message_order)
    (law : (s : S) (e : Message) → plain.before (plain.after s e) e (plain.saves s e) ≡ s)
    (l : Letter) (rest : List Letter) (late : List (DoneEvent K)) (old new : Held S K) where
  abbrev r : Rules Message S K Note
  r = rules_of plain

  -- what the late ones sent is not after the end
  in-time : (a : FrontArrived (rules_of plain) l rest late old new) (x : Setting S) → Laws (simulation_of (rules_of plain) x) → (v : World Message S) → StandsForSent (rules_of plain) V x v old [] →
      (m : Message) → IsNamed message_order m (taken_back late) → m.time ≤ x.until
  in-time a x L v g m i =
      let part = v.parts l.message.receiver in
      let k = mine r O V law l rest late old new a x v g in
      let s = at r O V law l rest late old new a x v g in
      let h = halves r O V (x.opening l.message.receiver) part s.0 old new l rest late a g.beside k in
      let base = reached r (x.opening l.message.receiver) part.committed in
      let ds = messages_of (done_events_at message_order l.message.receiver new.done) in
      let is_reached : IsReached (simulation_of r x) l.message.receiver (reached r base ds) = (part.committed ++ ds, sym (reached-append r (x.opening l.message.receiver) part.committed ds)) in
      let sends : sent_by late ≡ sent r (reached r base ds) (messages_of late) = ap (λ z. sent_by z) h.back ∙ sent-events r (reached r base ds) (messages_of late) in
      let j : IsIn message_order m (sent_by late) =
      (let b = named-minus message_order O m (reverse (sent_by late)) i in let c = times-reverse message_order O m (sent_by late) in omega arith) in
      sends-each (simulation_of r x) L (λ y. y.time ≤ x.until) l.message.receiver (L.in_time l.message.receiver (within r O V law l rest late old new a x v g))
      (reached r base ds) is_reached (messages_of late) m (subst (IsIn message_order m) sends j)

  -- where the done events ascend, the letter arrived
  pub front-told : WentOn old.members (taken_back late) (record old.flow { tray = rest; words = old.flow.words ++ Arrived l.message.receiver ∷ [] }) new.flow → new.rows ≡ old.rows →
      (IsAscending message_order (messages_of old.done) → FrontArrived (rules_of plain) l rest late old new) → DoesSent (rules_of plain) V old [] new []
  front-told went rows arrived = word-told plain V O law (Arrived l.message.receiver) rest (taken_back late) old new went rows (λ x L v g. record {
    steps = front-steps r O V law l rest late old new (arrived g.ascending) x v g;
    stands = front-stands r O V law l rest late old new (arrived g.ascending) x v g;
    by = let here = ours r O V law l rest late old new (arrived g.ascending) x v g in (here, (here, tt));
    same = ours-same r O V law l rest late old new (arrived g.ascending) x v g;
    soon = in-time (arrived g.ascending) x L v g;
  })
