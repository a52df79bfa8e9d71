-- Rolling back, one event after another.
use Rattle.std.proofs.Common.{◌≡◌, ℕ, Bool, true, false, not, cond, List, [], ◌∷◌, ◌++◌, Option, Some, ◌<◌, All, length, reverse, slice_get, IsPermutation, refl, sym, ap, ◌∙◌, subst, arith, append_assoc, append-nil, length-append, eq-eqb, ne_eqb}
use Rattle.std.proofs.lemmas.List.{reverse-append}
use Rattle.std.proofs.lemmas.List.Elements.{All-nil, All-cons}
use Rattle.std.proofs.lemmas.List.Sorted.{IsPermutation-refl, IsPermutation-trans, IsPermutation-cons}
use Rattle.vlink.specs.declared.message.Message.{Message}
use Rattle.vlink.specs.declared.note.Note.{Note}
use Rattle.virtual_time.specs.Law.{Rules}
use Rattle.group_hand.specs.Arriving.{sent_by, undone_events}
use Rattle.vlink.specs.Order.{message_order}
use Rattle.antimessages.specs.Counting.{is_after, newest_of}
use Rattle.group_queues.specs.DoneEvents.{DoneEvent, Done, done_events_at, messages_of, HasRoomFor, sent_in, noted_in}
use Rattle.group_hand.specs.Hands.{is_ours}
use Rattle.group_hand.specs.Undoing.{Retreat, RollsBack, others_at}
use Rattle.group_queues.proofs.Shares.{messages-append}
use Rattle.group_queues.proofs.NewestDone.{newest-last, sent_in-push, noted_in-push}
use Rattle.group_hand.proofs.Origin.{at-mine, at-another}

module _ {S K : Type 0} (r : Rules Message S K Note) (V : S → Message → Type 0) (m : Message) (start : Retreat S K) where
  others-mine : (d : DoneEvent K) (ds : List (DoneEvent K)) → r.order.receiver d.message ≡ r.order.receiver m → others_at r.order (r.order.receiver m) (d ∷ ds) ≡ others_at r.order (r.order.receiver m) ds
  others-mine d ds e = ap (λ b. cond (not b) (d ∷ others_at r.order (r.order.receiver m) ds) (others_at r.order (r.order.receiver m) ds)) (eq-eqb (r.order.receiver d.message) (r.order.receiver m) e)

  others-another : (d : DoneEvent K) (ds : List (DoneEvent K)) → (r.order.receiver d.message ≡ r.order.receiver m → ⊥) →
      others_at r.order (r.order.receiver m) (d ∷ ds) ≡ d ∷ others_at r.order (r.order.receiver m) ds
  others-another d ds n = ap (λ b. cond (not b) (d ∷ others_at r.order (r.order.receiver m) ds) (others_at r.order (r.order.receiver m) ds)) (ne_eqb (r.order.receiver d.message) (r.order.receiver m) n)

  reverse-cons : {X : Type 0} (x : X) (xs : List X) → reverse (x ∷ xs) ≡ reverse xs ++ x ∷ []
  reverse-cons x xs = reverse-append (x ∷ []) xs

  -- at first nothing is undone
  pub rolls-none : (aside : List (DoneEvent K)) (back : List Message) → aside ≡ [] → back ≡ [] → RollsBack r m start (record start { aside = aside; back = back })
  rolls-none aside back a b = record {
    behind = [];
    done = sym (append-nil start.done);
    late = All-nil (λ x. r.order.less x m ≡ false);
    aside = a;
    queue = IsPermutation-refl start.queue;
    back = b;
    count = refl;
    ours = λ q. refl;
    state = λ s e. e;
    others = λ q n. refl;
  }

  module _ (old : Retreat S K) (d : DoneEvent K) (left : List (DoneEvent K)) (split : old.done ≡ left ++ d ∷ []) (late : r.order.less d.message m ≡ false) (k : RollsBack r m start old) where
    more : start.done ≡ left ++ d ∷ k.behind
    more = k.done ∙ (ap (λ z. z ++ k.behind) split ∙ append_assoc left (d ∷ []) k.behind)

    later : All (λ x. r.order.less x m ≡ false) (messages_of (d ∷ k.behind))
    later = All-cons (λ x. r.order.less x m ≡ false) d.message (messages_of k.behind) late k.late

    -- the newest event is undone
    pub rolls-undone : (members' : List (Option S)) (queue' back' : List Message) → r.order.receiver d.message ≡ r.order.receiver m → IsPermutation (d.message ∷ old.queue) queue' →
        back' ≡ old.back ++ reverse d.sent → length members' ≡ length old.members → ((q : ℕ) → is_ours members' q ≡ is_ours old.members q) →
        ((s : S) → slice_get old.members (r.order.receiver m) ≡ Some (Some s) → slice_get members' (r.order.receiver m) ≡ Some (Some (r.undo s d.message d.kept))) →
        ((q : ℕ) → (q ≡ r.order.receiver m → ⊥) → slice_get members' q ≡ slice_get old.members q) →
        RollsBack r m start (record { members = members'; done = left; aside = old.aside; queue = queue'; back = back' })
    rolls-undone members' queue' back' e p b n ours state others =
        let mine = at-mine r V (r.order.receiver m) d k.behind e in
        record {
          behind = d ∷ k.behind;
          done = more;
          late = later;
          aside = k.aside ∙ ap reverse (sym (others-mine d k.behind e));
          queue = subst (λ ds. IsPermutation (messages_of ds ++ start.queue) queue') (sym mine)
              (IsPermutation-trans (d.message ∷ (messages_of (done_events_at r.order (r.order.receiver m) k.behind) ++ start.queue)) (d.message ∷ old.queue) queue'
              (IsPermutation-cons d.message (messages_of (done_events_at r.order (r.order.receiver m) k.behind) ++ start.queue) old.queue k.queue) p);
          back = b ∙ (ap (λ z. z ++ reverse d.sent) k.back ∙ (sym (reverse-append d.sent (sent_by (done_events_at r.order (r.order.receiver m) k.behind))) ∙ ap (λ ds. reverse (sent_by ds)) (sym mine)));
          count = n ∙ k.count;
          ours = λ q. ours q ∙ k.ours q;
          state = λ s i. state (undone_events r (done_events_at r.order (r.order.receiver m) k.behind) s) (k.state s i) ∙ ap (λ ds. Some (Some (undone_events r ds s))) (sym mine);
          others = λ q i. others q i ∙ k.others q i;
        }

    -- the newest event is set aside
    pub rolls-aside : (aside' : List (DoneEvent K)) → (r.order.receiver d.message ≡ r.order.receiver m → ⊥) → aside' ≡ old.aside ++ d ∷ [] →
        RollsBack r m start (record old { done = left; aside = aside' })
    rolls-aside aside' n a =
        let another = at-another r V (r.order.receiver m) d k.behind n in
        record {
          behind = d ∷ k.behind;
          done = more;
          late = later;
          aside = a ∙ (ap (λ z. z ++ d ∷ []) k.aside ∙ (sym (reverse-cons d (others_at r.order (r.order.receiver m) k.behind)) ∙ ap reverse (sym (others-another d k.behind n))));
          queue = subst (λ ds. IsPermutation (messages_of ds ++ start.queue) old.queue) (sym another) k.queue;
          back = k.back ∙ ap (λ ds. reverse (sent_by ds)) (sym another);
          count = k.count;
          ours = k.ours;
          state = λ s i. k.state s i ∙ ap (λ ds. Some (Some (undone_events r ds s))) (sym another);
          others = k.others;
        }

-- nothing needs no room
pub room-none : {K : Type 0} (ds : List (DoneEvent K)) (there : Done K) → ds ≡ [] → HasRoomFor ds there
room-none ds there e = record {
  events = let a = ap length e in omega arith;
  sends = let a = ap sent_in e in omega arith;
  rows = let a = ap noted_in e in omega arith;
}

-- where there is room for more there is for fewer
pub room-fewer : {K : Type 0} (all left : List (DoneEvent K)) (d : DoneEvent K) (there : Done K) → all ≡ left ++ d ∷ [] → HasRoomFor all there → HasRoomFor left there
room-fewer all left d there e h = record {
  events = let a = ap length e ∙ length-append left (d ∷ []) in let b = h.events in omega arith;
  sends = let a = ap sent_in e ∙ sent_in-push left d in let b = h.sends in omega arith;
  rows = let a = ap noted_in e ∙ noted_in-push left d in let b = h.rows in omega arith;
}

-- an event that code finds not to be before a message
pub newest-late : {K : Type 0} (m : Message) (all left : List (DoneEvent K)) (d : DoneEvent K) → all ≡ left ++ d ∷ [] → is_after message_order (newest_of (messages_of all)) m ≡ false →
    message_order.less d.message m ≡ false
newest-late m all left d e a =
    subst (λ o. is_after message_order o m ≡ false)
    (ap (λ z. newest_of (messages_of z)) e ∙ (ap newest_of (messages-append left (d ∷ [])) ∙ newest-last (messages_of left) d.message)) a

-- what does not come after the newest has one
pub some-late : {K : Type 0} (m : Message) (ds : List (DoneEvent K)) → is_after message_order (newest_of (messages_of ds)) m ≡ false → 0 < length ds
some-late m [] e = cc
some-late m (d ∷ ds) e = omega arith

-- what neither of two ways changes
pub kept-either : {F X : Type 0} (part : F → X) (b : Bool) (new old one other : F) → (b ≡ true → new ≡ one) → (b ≡ false → new ≡ other) → part one ≡ part old → part other ≡ part old → part new ≡ part old
kept-either part true new old one other a c d e = ap part (a refl) ∙ d
kept-either part false new old one other a c d e = ap part (c refl) ∙ e
