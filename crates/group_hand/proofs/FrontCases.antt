-- How it is shown that the first letter of the tray arrived: nothing was undone, or the receiver rolled back to the message.
use Rattle.std.proofs.Common.{◌≡◌, ℕ, ◌⊎◌, inl, inr, true, false, List, [], ◌∷◌, ◌++◌, length, slice_get, Some, All, sym, ap, ◌∙◌, subst, append-nil}
use Rattle.vlink.specs.declared.message.Message.{Message}
use Rattle.vlink.specs.declared.note.Note.{Note}
use Rattle.vlink.specs.Letters.{Letter}
use Rattle.virtual_time.specs.Law.{Rules, IsOrder, IsAscending, IsIn}
use Rattle.antimessages.specs.Counting.{is_after, newest_of}
use Rattle.group_queues.specs.DoneEvents.{DoneEvent, done_events_at, messages_of}
use Rattle.group_hand.specs.Hands.{Held}
use Rattle.group_hand.specs.Arriving.{AreLate, CountsMore, JoinsQueue, LeavesQueue, IsUndone, FrontArrived, undone_events}
use Rattle.group_hand.proofs.Parted.{not_at, parted-mine, parted-kept, parted-ascending, parted-late, parted-left}

module _ {S K : Type 0} (r : Rules Message S K Note) (O : IsOrder r.order) (l : Letter) (rest : List Letter) (old new : Held S K) (tray : old.flow.tray ≡ l ∷ rest) (rows : new.rows ≡ old.rows) where
  -- nothing was undone
  pub front-still : new.members ≡ old.members → new.done ≡ old.done → CountsMore r.order l [] old new ⊎ LeavesQueue r.order l [] old new → FrontArrived r l rest [] old new
  front-still members done counts = record {
    tray = tray;
    undone = ap (done_events_at r.order (r.order.receiver l.message)) (sym done) ∙ sym (append-nil (done_events_at r.order (r.order.receiver l.message) new.done));
    kept = λ q n. ap (done_events_at r.order q) done;
    ascending = λ up. subst (λ ds. IsAscending r.order (messages_of ds)) (sym done) up;
    state = λ s e. ap (λ z. slice_get z (r.order.receiver l.message)) members ∙ e;
    others = λ q n. ap (λ z. slice_get z q) members;
    count = ap length members;
    rows = rows;
    counts = elim counts [ inl c ↦ inl c | inr c ↦ inr (inr (inl c)) ];
  }

  -- all that the receiver had done from the message on was undone
  module _ (front behind : List (DoneEvent K)) (was : old.done ≡ front ++ behind) (done : new.done ≡ front ++ not_at r O (r.order.receiver l.message) behind)
      (late : All (λ y. r.order.less y l.message ≡ false) (messages_of behind)) (early : is_after r.order (newest_of (messages_of front)) l.message ≡ true) where
    pub are-late : IsAscending r.order (messages_of old.done) → AreLate r.order l (done_events_at r.order (r.order.receiver l.message) behind) old new
    are-late up = record {
      not_before = parted-late r O front behind l.message late;
      before = subst (λ ds. (m : Message) → IsIn r.order m (messages_of (done_events_at r.order (r.order.receiver l.message) ds)) → r.order.less m l.message ≡ true) (sym done)
          (parted-left r O front behind l.message (subst (λ ds. IsAscending r.order (messages_of ds)) was up) early);
    }

    pub front-rolled : ((s : S) → slice_get old.members (r.order.receiver l.message) ≡ Some (Some s) →
        slice_get new.members (r.order.receiver l.message) ≡ Some (Some (undone_events r (done_events_at r.order (r.order.receiver l.message) behind) s))) →
        ((q : ℕ) → (q ≡ r.order.receiver l.message → ⊥) → slice_get new.members q ≡ slice_get old.members q) → length new.members ≡ length old.members →
        JoinsQueue r.order l (done_events_at r.order (r.order.receiver l.message) behind) old new ⊎ IsUndone r.order l (done_events_at r.order (r.order.receiver l.message) behind) old new →
        FrontArrived r l rest (done_events_at r.order (r.order.receiver l.message) behind) old new
    front-rolled state others count counts = record {
      tray = tray;
      undone = ap (done_events_at r.order (r.order.receiver l.message)) was ∙ (parted-mine r O front behind l.message ∙
          ap (λ z. done_events_at r.order (r.order.receiver l.message) z ++ done_events_at r.order (r.order.receiver l.message) behind) (sym done));
      kept = λ q n. ap (done_events_at r.order q) done ∙ (parted-kept r O front behind l.message q n ∙ ap (done_events_at r.order q) (sym was));
      ascending = λ up. subst (λ ds. IsAscending r.order (messages_of ds)) (sym done)
          (parted-ascending r O front behind l.message (subst (λ ds. IsAscending r.order (messages_of ds)) was up));
      state = state;
      others = others;
      count = count;
      rows = rows;
      counts = elim counts [ inl c ↦ inr (inl c) | inr c ↦ inr (inr (inr c)) ];
    }
