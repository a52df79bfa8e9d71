-- The first message of the queue is handled, where others may have done later ones, and what it sent goes on: all that as words of the block.
use Rattle.std.proofs.Common.{◌≡◌, ℕ, ◌+◌, ◌<◌, ◌≤◌, List, [], ◌∷◌, ◌++◌, map, true, false, refl, sym, ap, ◌∙◌, subst, arith, Some}
use Rattle.std.proofs.lemmas.Bool.{both_ways}
use Rattle.std.proofs.lemmas.Option.{slice_get_within}
use Rattle.vlink.specs.declared.message.Message.{Message}
use Rattle.vlink.specs.declared.note.Note.{Note}
use Rattle.vlink.specs.Order.{message_order}
use Rattle.virtual_time.specs.Law.{Rules, IsOrder, Laws, World, IsAscending, IsIn, IsNamed, IsReached, times_in, one_if, same, plus_of, reached}
use Rattle.virtual_time.proofs.Letters.{named-plus}
use Rattle.virtual_time.proofs.Lists.{in-head, times-append}
use Rattle.virtual_time.proofs.Order.{same-refl}
use Rattle.reverse.specs.Plain.{Plain}
use Rattle.reverse.specs.Rules.{rules_of}
use Rattle.reverse.specs.Setting.{Setting, simulation_of}
use Rattle.reverse.specs.declared.sends.Sends.{Sends}
use Rattle.reverse.proofs.Members.{in-all}
use Rattle.two_lists.proofs.Counting.{times-permutation}
use Rattle.group_queues.specs.declared.block.Word.TheVariants.{Ran}
use Rattle.group_queues.specs.DoneEvents.{DoneEvent, done_event_of, done_events_at, messages_of}
use Rattle.group_hand.specs.Hands.{Held, DoesSent, StandsForSent, is_held, is_ours}
use Rattle.group_hand.specs.Arriving.{WentOn}
use Rattle.group_hand.specs.Handling.{FirstHandled}
use Rattle.group_queues.proofs.Shares.{messages-append}
use Rattle.group_hand.proofs.Member.{messages-of, present-here, done-times}
use Rattle.group_hand.proofs.Parted.{not_at, parted-late, parted-mine, between-mine, between-kept, between-ascending}
use Rattle.group_hand.proofs.Handled.{ran, ran-steps, ours-same}
use Rattle.group_hand.proofs.WordTold.{word-told, between, IsTold}

module _ {S K : Type 0} (plain : Plain S Message Sends K) (V : S → Message → Type 0) (O : IsOrder message_order)
    (law : (s : S) (e : Message) → plain.before (plain.after s e) e (plain.saves s e) ≡ s)
    (m : Message) (s : S) (old new : Held S K) where
  abbrev r : Rules Message S K Note
  r = rules_of plain

  abbrev told : Held S K
  told = between plain V O law (Ran m.receiver) old.flow.tray (map plus_of (r.sends s m)) old new

  module _ (a : FirstHandled (rules_of plain) V m s old new) where
    waits : (y : Message) → times_in message_order y old.flow.queue ≡ one_if (same message_order y m) + times_in message_order y new.flow.queue
    waits y = sym (times-permutation message_order y old.flow.queue (m ∷ new.flow.queue) a.queue)

    first : (y : Message) → IsIn message_order y old.flow.queue → message_order.less y m ≡ false
    first y i = in-all message_order O (λ z. message_order.less z m ≡ false) y old.flow.queue a.first i

    -- what it sent is not after the end
    in-time : (x : Setting S) → Laws (simulation_of (rules_of plain) x) → (v : World Message S) → StandsForSent (rules_of plain) V x v old [] →
        (y : Message) → IsNamed message_order y (map plus_of (r.sends s m)) → y.time ≤ x.until
    in-time x L v g y i =
        let k = g.members m.receiver s a.before in
        let within : m.receiver < x.processes = subst (λ n. m.receiver < n) g.count (slice_get_within old.members m.receiver (Some s) a.before) in
        let is_reached : IsReached (simulation_of r x) m.receiver s = ((v.parts m.receiver).committed ++ (v.parts m.receiver).done, sym k.state ∙ k.well.state_is) in
        L.in_time m.receiver within s is_reached m y (named-plus message_order O y (r.sends s m) i)

    -- it comes after all that its receiver has done
    module _ (x : Setting S) (v : World Message S) (g : StandsForSent (rules_of plain) V x v old []) where
      up : IsAscending message_order (messages_of (a.front ++ a.behind))
      up = subst (λ z. IsAscending message_order (messages_of z)) a.was g.ascending

      none : times_in message_order m (messages_of old.done) ≡ 0
      none = a.not_done

      last : (y : Message) → IsIn message_order y (v.parts m.receiver).done → message_order.less y m ≡ true
      last =
          let k = g.members m.receiver s a.before in
          k.well.done_first m
          (present-here r O V (x.opening m.receiver) m.receiver (v.parts m.receiver) s old g.beside k m refl
          (let b = waits m in let c = ap one_if (same-refl message_order O m) in let d = times-append message_order O m old.flow.queue (messages_of old.done) in omega arith))
          (done-times r O V (x.opening m.receiver) m.receiver (v.parts m.receiver) s old g.beside k m refl ∙ none)

      none-behind : done_events_at message_order m.receiver a.behind ≡ []
      none-behind = go (done_events_at message_order m.receiver a.behind) (λ y i. both_ways _ (parted-late r O a.front a.behind m a.late y i) (last y (was-done y i)))
        where
          was-done : (y : Message) → IsIn message_order y (messages_of (done_events_at message_order m.receiver a.behind)) → IsIn message_order y (v.parts m.receiver).done
          was-done y i =
              let k = g.members m.receiver s a.before in
              let left = done_events_at message_order m.receiver (a.front ++ not_at r O m.receiver a.behind) in
              let c : (v.parts m.receiver).done ≡ messages_of left ++ messages_of (done_events_at message_order m.receiver a.behind) =
              sym (ap (λ z. messages_of (done_events_at message_order m.receiver z)) (sym a.was) ∙
              (ap messages_of k.done ∙ messages-of r O V (reached r (x.opening m.receiver) (v.parts m.receiver).committed) (v.parts m.receiver).done)) ∙
              (ap messages_of (parted-mine r O a.front a.behind m) ∙ messages-append left (done_events_at message_order m.receiver a.behind)) in
              let d : times_in message_order y (v.parts m.receiver).done ≡ times_in message_order y (messages_of left) + times_in message_order y (messages_of (done_events_at message_order m.receiver a.behind)) =
              ap (times_in message_order y) c ∙ times-append message_order O y (messages_of left) (messages_of (done_events_at message_order m.receiver a.behind)) in
              omega arith

          go : (xs : List (DoneEvent K)) → ((y : Message) → IsIn message_order y (messages_of xs) → ⊥) → xs ≡ []
          go [] i = refl
          go (z ∷ zs) i = absurd (i z.message (in-head message_order O z.message (messages_of zs)))

      handled : done_events_at message_order m.receiver new.done ≡ done_events_at message_order m.receiver old.done ++ done_event_of r s m ∷ []
      handled =
          ap (done_events_at message_order m.receiver) a.done ∙ (between-mine r O a.front a.behind m none-behind (done_event_of r s m) refl ∙
          ap (λ z. done_events_at message_order m.receiver z ++ done_event_of r s m ∷ []) (sym a.was))

      kept : (q : ℕ) → (q ≡ m.receiver → ⊥) → done_events_at message_order q new.done ≡ done_events_at message_order q old.done
      kept q n = ap (done_events_at message_order q) a.done ∙ (between-kept r O a.front a.behind m (done_event_of r s m) refl q n ∙ ap (done_events_at message_order q) (sym a.was))

      ascending : IsAscending message_order (messages_of old.done) → IsAscending message_order (messages_of new.done)
      ascending b =
          subst (λ z. IsAscending message_order (messages_of z)) (sym a.done)
          (between-ascending r O a.front a.behind m up a.early a.late (ap (λ z. times_in message_order m (messages_of z)) (sym a.was) ∙ none) (done_event_of r s m) refl)

    tells : (x : Setting S) → Laws (simulation_of (rules_of plain) x) → (v : World Message S) → StandsForSent (rules_of plain) V x v old [] →
        IsTold plain V O law (Ran m.receiver) old.flow.tray (map plus_of (r.sends s m)) old new x v
    tells x L v g = record {
      steps = ran-steps r O V law x v old told m s (done_event_of r s m) a.before a.state a.others a.count refl a.value waits (handled x v g) (kept x v g) (ascending x v g) a.rows a.extra refl refl first (none x v g) g;
      stands = ran r O V law x v old told m s (done_event_of r s m) a.before a.state a.others a.count refl a.value waits (handled x v g) (kept x v g) (ascending x v g) a.rows a.extra refl refl first (none x v g) g;
      by = let here : is_ours old.members m.receiver ≡ true = ap is_held a.before in (here, (here, tt));
      same = ours-same r O V law x v old told m s (done_event_of r s m) a.before a.state a.others a.count refl a.value waits (handled x v g) (kept x v g) (ascending x v g) a.rows a.extra refl refl first (none x v g) g;
      soon = in-time x L v g;
    }

  -- where the done events ascend, the message was handled
  pub late-told : WentOn old.members (map plus_of ((rules_of plain).sends s m)) (record old.flow { words = old.flow.words ++ Ran m.receiver ∷ [] }) new.flow → new.rows ≡ old.rows →
      (IsAscending message_order (messages_of old.done) → FirstHandled (rules_of plain) V m s old new) → DoesSent (rules_of plain) V old [] new []
  late-told went rows handles = word-told plain V O law (Ran m.receiver) old.flow.tray (map plus_of (r.sends s m)) old new went rows (λ x L v g. tells (handles g.ascending) x L v g)
