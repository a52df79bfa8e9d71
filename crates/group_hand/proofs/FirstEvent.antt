-- The first message of a group is handled, and what it sends goes on.
use Rattle.std.proofs.Common.{◌≡◌, ℕ, ◌+◌, ◌<◌, ◌≤◌, ◌⊎◌, inl, inr, true, false, Option, List, [], ◌∷◌, ◌++◌, map, length, Some, All, IsPermutation, refl, sym, ap, ◌∙◌, subst, append_assoc, slice_get, set, get_or-set_same, get_or-set_other, length-set}
use Rattle.std.proofs.lemmas.Option.{slice_get-get_or, slice_get_within, slice_get_past}
use Rattle.std.proofs.lemmas.Bool.{cases_eq, cases_lt}
use Rattle.vlink.specs.declared.message.Message.{Message}
use Rattle.vlink.specs.Order.{message_order}
use Rattle.virtual_time.specs.Law.{IsOrder, Laws, World, IsAscending, IsIn, IsReached, times_in, one_if, same, plus_of, AreDone, done_by}
use Rattle.virtual_time.proofs.Ascending.{ascending-push}
use Rattle.virtual_time.proofs.Lists.{in-push, times-none}
use Rattle.virtual_time.proofs.Order.{less-irrefl}
use Rattle.reverse.specs.Plain.{Plain}
use Rattle.reverse.specs.Rules.{rules_of}
use Rattle.reverse.specs.Setting.{Setting, simulation_of}
use Rattle.reverse.specs.declared.sends.Sends.{Sends}
use Rattle.reverse.proofs.Members.{in-all}
use Rattle.antimessages.specs.Counting.{is_after, newest_of}
use Rattle.antimessages.proofs.Newest.{after-all}
use Rattle.two_lists.proofs.Counting.{times-permutation}
use Rattle.group_queues.specs.declared.block.Word.TheVariants.{Ran}
use Rattle.group_queues.specs.Block.{steps_told}
use Rattle.group_queues.specs.DoneEvents.{DoneEvent, done_event_of, done_events_at, messages_of}
use Rattle.group_queues.specs.Flow.{Flow}
use Rattle.group_hand.specs.Hands.{AreOfMembers, DoesSent, StandsForSent, is_held, is_ours}
use Rattle.group_hand.specs.Passing.{GoesOn, held}
use Rattle.group_queues.specs.Rows.{Sealed}
use Rattle.group_hand.proofs.Telling.{done-append, are_done-append, by-same}
use Rattle.group_hand.proofs.Running.{messages-push, mine-push, kept-push}
use Rattle.group_hand.proofs.Handled.{ran, ran-steps}

-- a new member at its place
pub set-here : {X : Type 0} (xs : List X) (p : ℕ) (x y : X) → slice_get xs p ≡ Some y → slice_get (set xs p x) p ≡ Some x
set-here xs p x y e =
    let l = slice_get_within xs p y e in
    slice_get-get_or (set xs p x) p x (let a = length-set xs p x in subst (λ n. p < n) (sym a) l) ∙ ap (λ z. Some z) (get_or-set_same xs p x x l)

pub set-there : {X : Type 0} (xs : List X) (p q : ℕ) (x : X) → (q ≡ p → ⊥) → slice_get (set xs p x) q ≡ slice_get xs q
set-there xs p q x n = go (cases_lt q (length xs))
  where
    go : (q < length xs) ⊎ (length xs ≤ q) → slice_get (set xs p x) q ≡ slice_get xs q
    go (inl l) =
        slice_get-get_or (set xs p x) q x (subst (λ n. q < n) (sym (length-set xs p x)) l) ∙
        (ap (λ z. Some z) (get_or-set_other xs p q x x n) ∙ sym (slice_get-get_or xs q x l))
    go (inr l) = slice_get_past (set xs p x) q (subst (λ n. n ≤ q) (sym (length-set xs p x)) l) ∙ sym (slice_get_past xs q l)

-- a member in another state is a member
pub set-ours : {S : Type 0} (members : List (Option S)) (p : ℕ) (s t : S) → slice_get members p ≡ Some (Some s) → (q : ℕ) → is_ours (set members p (Some t)) q ≡ is_ours members q
set-ours members p s t e q = go (cases_eq q p)
  where
    go : (q ≡ p) ⊎ (q ≡ p → ⊥) → is_ours (set members p (Some t)) q ≡ is_ours members q
    go (inl k) =
        ap (λ z. is_held (slice_get (set members p (Some t)) z)) k ∙ (ap is_held (set-here members p (Some t) (Some s) e) ∙
        (sym (ap is_held e) ∙ ap (λ z. is_held (slice_get members z)) (sym k)))
    go (inr n) = ap is_held (set-there members p q (Some t) n)

module _ {S K : Type 0} (plain : Plain S Message Sends K) (V : S → Message → Type 0) (O : IsOrder message_order)
    (law : (s : S) (e : Message) → plain.before (plain.after s e) e (plain.saves s e) ≡ s)
    (members : List (Option S)) (done later : List (DoneEvent K)) (rows : Sealed) (old popped told new : Flow) (m : Message) (s : S)
    (at : slice_get members m.receiver ≡ Some (Some s)) (value : V s m)
    (first : All (λ y. message_order.less y m ≡ false) old.queue) (early : is_after message_order (newest_of (messages_of done)) m ≡ true)
    (queue : IsPermutation old.queue (m ∷ popped.queue)) (extra : popped.extra ≡ old.extra) (tray : popped.tray ≡ old.tray) (abroad : popped.abroad ≡ old.abroad) (words : popped.words ≡ old.words) (keeps : popped.keeps ≡ old.keeps)
    (ran-word : told ≡ record popped { words = popped.words ++ Ran m.receiver ∷ []; room = told.room })
    (event : later ≡ done ++ done_event_of (rules_of plain) s m ∷ [])
    (gone : GoesOn (rules_of plain) V (set members m.receiver (Some (plain.after s m))) ((rules_of plain).sends s m) told ((rules_of plain).sends s m) new []) where
  abbrev members' : List (Option S)
  members' = set members m.receiver (Some (plain.after s m))

  pub handles : DoesSent (rules_of plain) V (held members done rows old) [] (held (set members m.receiver (Some (plain.after s m))) later rows new) []
  handles = record {
    did = Ran m.receiver ∷ gone.did;
    keeps = gone.keeps ∙ (ap (λ z. z.keeps) ran-word ∙ keeps);
    rows = refl;
    block = gone.words ∙ (ap (λ z. z.words ++ gone.did) ran-word ∙ (append_assoc popped.words (Ran m.receiver ∷ []) gone.did ∙ ap (λ z. z ++ Ran m.receiver ∷ gone.did) words));
    stands = λ x L v g.
        let one = running x L v g in
        let two = gone.stands later rows x L (done_by (simulation_of (rules_of plain) x) (steps_told (Ran m.receiver ∷ [])) v) (soon x L v g) (before x L v g) one.1 in (
          are_done-append (simulation_of (rules_of plain) x) (steps_told (Ran m.receiver ∷ [])) (steps_told gone.did) v one.0 two.0,
          subst (λ w. StandsForSent (rules_of plain) V x w (held members' later rows new) []) (sym (done-append (simulation_of (rules_of plain) x) (steps_told (Ran m.receiver ∷ [])) (steps_told gone.did) v)) two.1,
          of-members,
        );
  }
    where
      here : is_ours members m.receiver ≡ true
      here = ap is_held at

      of-members : AreOfMembers members (set members m.receiver (Some (plain.after s m))) (Ran m.receiver ∷ gone.did)
      of-members = record {
        by = (here, (here, by-same (is_ours members) (is_ours (set members m.receiver (Some (plain.after s m)))) (set-ours members m.receiver s (plain.after s m) at) (steps_told gone.did) gone.by));
        same = set-ours members m.receiver s (plain.after s m) at;
      }

      before-done : (x : Setting S) → (v : World Message S) → StandsForSent (rules_of plain) V x v (held members done rows old) [] →
          (y : Message) → IsIn message_order y (messages_of done) → message_order.less y m ≡ true
      before-done x v g y i = after-all (rules_of plain) O (messages_of done) m g.ascending early y i

      not-done : (x : Setting S) → (v : World Message S) → StandsForSent (rules_of plain) V x v (held members done rows old) [] → times_in message_order m (messages_of done) ≡ 0
      not-done x v g = times-none message_order O m (messages_of done) (λ i. less-irrefl message_order O m m (before-done x v g m i) refl)

      -- it comes behind all that the group has done
      ascending : (x : Setting S) → (v : World Message S) → StandsForSent (rules_of plain) V x v (held members done rows old) [] →
          IsAscending message_order (messages_of done) → IsAscending message_order (messages_of later)
      ascending x v g up =
          subst (IsAscending message_order) (sym (ap messages_of event ∙ messages-push (rules_of plain) O V done (done_event_of (rules_of plain) s m)))
          (ascending-push message_order O (messages_of done) m up (before-done x v g))

      running : (x : Setting S) → Laws (simulation_of (rules_of plain) x) → (v : World Message S) → StandsForSent (rules_of plain) V x v (held members done rows old) [] →
          AreDone (simulation_of (rules_of plain) x) (steps_told (Ran m.receiver ∷ [])) v
          × StandsForSent (rules_of plain) V x (done_by (simulation_of (rules_of plain) x) (steps_told (Ran m.receiver ∷ [])) v) (held members' later rows told) (map plus_of ((rules_of plain).sends s m))
      running x L v g = (
        ran-steps (rules_of plain) O V law x v (held members done rows old) (held members' later rows told) m s (done_event_of (rules_of plain) s m) at
            (set-here members m.receiver (Some (plain.after s m)) (Some s) at) (λ q n. set-there members m.receiver q (Some (plain.after s m)) n) (length-set members m.receiver (Some (plain.after s m)))
            refl value waits mine kept (ascending x v g) refl (ap (λ z. z.extra) ran-word ∙ extra) (ap (λ z. z.tray) ran-word ∙ tray) (ap (λ z. z.abroad) ran-word ∙ abroad)
            (λ y i. in-all message_order O (λ z. message_order.less z m ≡ false) y old.queue first i) (not-done x v g) g,
        ran (rules_of plain) O V law x v (held members done rows old) (held members' later rows told) m s (done_event_of (rules_of plain) s m) at
            (set-here members m.receiver (Some (plain.after s m)) (Some s) at) (λ q n. set-there members m.receiver q (Some (plain.after s m)) n) (length-set members m.receiver (Some (plain.after s m)))
            refl value waits mine kept (ascending x v g) refl (ap (λ z. z.extra) ran-word ∙ extra) (ap (λ z. z.tray) ran-word ∙ tray) (ap (λ z. z.abroad) ran-word ∙ abroad)
            (λ y i. in-all message_order O (λ z. message_order.less z m ≡ false) y old.queue first i) (not-done x v g) g,
      )
        where
          mine : done_events_at message_order m.receiver later ≡ done_events_at message_order m.receiver done ++ done_event_of (rules_of plain) s m ∷ []
          mine = ap (done_events_at message_order m.receiver) event ∙ mine-push (rules_of plain) O V done (done_event_of (rules_of plain) s m) m.receiver refl

          kept : (q : ℕ) → (q ≡ m.receiver → ⊥) → done_events_at message_order q later ≡ done_events_at message_order q done
          kept q n = ap (done_events_at message_order q) event ∙ kept-push (rules_of plain) O V done (done_event_of (rules_of plain) s m) q (λ e. n (sym e))

          waits : (y : Message) → times_in message_order y old.queue ≡ one_if (same message_order y m) + times_in message_order y told.queue
          waits y = sym (times-permutation message_order y old.queue (m ∷ popped.queue) queue) ∙
              ap (λ z. one_if (same message_order y m) + times_in message_order y z) (sym (ap (λ z. z.queue) ran-word))

      is_reached : (x : Setting S) → (v : World Message S) → StandsForSent (rules_of plain) V x v (held members done rows old) [] → IsReached (simulation_of (rules_of plain) x) m.receiver s
      is_reached x v g =
          let k = g.members m.receiver s at in
          ((v.parts m.receiver).committed ++ (v.parts m.receiver).done, sym k.state ∙ k.well.state_is)

      within : (x : Setting S) → (v : World Message S) → StandsForSent (rules_of plain) V x v (held members done rows old) [] → m.receiver < x.processes
      within x v g = subst (λ n. m.receiver < n) g.count (slice_get_within members m.receiver (Some s) at)

      soon : (x : Setting S) → Laws (simulation_of (rules_of plain) x) → (v : World Message S) → StandsForSent (rules_of plain) V x v (held members done rows old) [] →
          (y : Message) → IsIn message_order y ((rules_of plain).sends s m) → message_order.time y ≤ x.until
      soon x L v g y i = L.in_time m.receiver (within x v g) s (is_reached x v g) m y i

      before : (x : Setting S) → Laws (simulation_of (rules_of plain) x) → (v : World Message S) → StandsForSent (rules_of plain) V x v (held members done rows old) [] →
          (z y : Message) → IsIn message_order z ((rules_of plain).sends s m) → IsIn message_order y (messages_of later) → message_order.less y z ≡ true
      before x L v g z y i j =
          let after : message_order.less m z ≡ true = O.by_time m z (L.later m.receiver (within x v g) s (is_reached x v g) m z i) in
          let k = subst (λ ms. IsIn message_order y ms) (ap messages_of event ∙ messages-push (rules_of plain) O V done (done_event_of (rules_of plain) s m)) j in
          elim (in-push message_order O y m (messages_of done) k) [
            | inl d ↦ O.transitive y m z (before-done x v g y d) after
            | inr e ↦ subst (λ w. message_order.less w z ≡ true) (sym e) after
          ]
