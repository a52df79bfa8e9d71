-- Rolling back to a message, one event after another.
use Rattle.std.proofs.Common.{◌≡◌, ◌++◌, true, false, List, [], ◌∷◌, map, reverse, refl, sym, ap, ◌∙◌, subst}
use Rattle.vlink.specs.declared.message.Message.{Message}
use Rattle.vlink.specs.declared.note.Note.{Note}
use Rattle.vlink.specs.Letters.{Letter}
use Rattle.virtual_time.specs.Law.{Rules, IsOrder, reached, minus_of, IsAscending, Part, rolled_back}
use Rattle.virtual_time.proofs.Rolling.{last_undone, roll-last, roll-none}
use Rattle.virtual_time.proofs.Handling.{reached-append}
use Rattle.virtual_time.proofs.Ascending.{ascending-left}
use Rattle.antimessages.specs.Counting.{is_after, newest_of}
use Rattle.process_queues.specs.Past.{Past, Rows, IsPastOf, BelongsTo, LastDone}
use Rattle.antimessages.proofs.Newest.{after-all, not_after-end}
use Rattle.process_queues.proofs.Pasts.{messages-of}

module _ {S K : Type 0} (r : Rules Message S K Note) (is_value : S → Message → Type 0) (opening : S) (there : Rows) (m : Message) where
  -- a rollback to m on its way: the past and the letters are those of a part from which rollback makes the same as from the first one
  pub record Rolls (part : Part Message S) (past : Past S K) (letters : List Letter) : Type 0 where
    pub now : Part Message S
    pub belongs : BelongsTo r is_value opening there now past
    pub outbox : letters ≡ now.outbox
    pub same : rolled_back r opening m now ≡ rolled_back r opening m part

module _ {S K : Type 0} {r : Rules Message S K Note} {is_value : S → Message → Type 0} {opening : S} {there : Rows} {part : Part Message S} {past : Past S K}
    (b : BelongsTo r is_value opening there part past) where
  -- the messages of the done events
  pub done-messages : map (λ e. e.message) past.done ≡ part.done
  done-messages = ap (map (λ e. e.message)) b.past_of.done ∙ messages-of r (reached r opening part.committed) part.done

  pub done-ascending : IsAscending r.order (map (λ e. e.message) past.done)
  done-ascending = subst (IsAscending r.order) (sym done-messages) b.ascending

pub rolls-none : {S K : Type 0} {r : Rules Message S K Note} {is_value : S → Message → Type 0} {opening : S} {there : Rows} {m : Message} {part : Part Message S} {past : Past S K}
    {letters : List Letter} → BelongsTo r is_value opening there part past → letters ≡ part.outbox → Rolls r is_value opening there m part past letters
rolls-none {part = part} b o = record { now = part; belongs = b; outbox = o; same = refl }

-- where m does not come after the newest event, there is one, which it does not come after
pub record IsLate {S K : Type 0} (r : Rules Message S K Note) (is_value : S → Message → Type 0) (opening : S)
    (there : Rows) (m : Message) (part : Part Message S) (past : Past S K) : Type 0 where
  pub front : List Message
  pub event : Message
  pub done : part.done ≡ front ++ event ∷ []
  pub late : r.order.less event m ≡ false
  pub past_of : IsPastOf r is_value (reached r opening part.committed) (front ++ event ∷ []) there past

module _ {S K : Type 0} {r : Rules Message S K Note} (O : IsOrder r.order) {is_value : S → Message → Type 0} {opening : S} {there : Rows} {m : Message} where
  pub is-late : {part : Part Message S} {past : Past S K} → BelongsTo r is_value opening there part past →
      is_after r.order (newest_of (map (λ e. e.message) past.done)) m ≡ false → IsLate r is_value opening there m part past
  is-late {part} {past} b a =
      let k = not_after-end r O part.done m (subst (λ ds. is_after r.order (newest_of ds) m ≡ false) (done-messages b) a) in
      record {
        front = k.0;
        event = k.1;
        done = k.2;
        late = k.3;
        past_of = subst (λ ds. IsPastOf r is_value (reached r opening part.committed) ds there past) k.2 b.past_of;
      }

  -- the newest event is undone
  belongs-less : ((s : S) → (e : Message) → r.undo (r.after s e) e (r.kept s e) ≡ s) →
      {part : Part Message S} {past past' : Past S K} → BelongsTo r is_value opening there part past → (l : IsLate r is_value opening there m part past) →
      IsPastOf r is_value (reached r opening part.committed) l.front there past' → BelongsTo r is_value opening there (last_undone r O opening part l.front l.event) past'
  belongs-less law {part} b l h = record {
    past_of = h;
    state = ap (λ z. r.undo z l.event (r.kept (reached r opening (part.committed ++ l.front)) l.event)) now ∙
        (ap (λ z. r.undo (r.after (reached r (reached r opening part.committed) l.front) l.event) l.event (r.kept z l.event)) (reached-append r opening part.committed l.front) ∙
        (law (reached r (reached r opening part.committed) l.front) l.event ∙ sym h.state));
    ascending = ascending-left r.order O l.front (l.event ∷ []) (subst (IsAscending r.order) l.done b.ascending);
  }
    where
      now : part.state ≡ r.after (reached r (reached r opening part.committed) l.front) l.event
      now = b.state ∙ (l.past_of.state ∙ reached-append r (reached r opening part.committed) l.front (l.event ∷ []))

  pub rolls-more : ((s : S) → (e : Message) → r.undo (r.after s e) e (r.kept s e) ≡ s) →
      {part : Part Message S} {past past' : Past S K} {letters letters' : List Letter} (h : Rolls r is_value opening there m part past letters) →
      (l : IsLate r is_value opening there m h.now past) → IsPastOf r is_value (reached r opening h.now.committed) l.front there past' →
      letters' ≡ letters ++ map minus_of (reverse (r.sends (reached r (reached r opening h.now.committed) l.front) l.event)) →
      Rolls r is_value opening there m part past' letters'
  rolls-more law h l p e = record {
    now = last_undone r O opening h.now l.front l.event;
    belongs = belongs-less law h.belongs l p;
    outbox = e ∙ (ap (λ ls. ls ++ map minus_of (reverse (r.sends (reached r (reached r opening h.now.committed) l.front) l.event))) h.outbox ∙
        ap (λ s. h.now.outbox ++ map minus_of (reverse (r.sends s l.event))) (sym (reached-append r opening h.now.committed l.front)));
    same = sym (roll-last r O opening h.now l.front l.event m l.done
        (ascending-left r.order O l.front (l.event ∷ []) (subst (IsAscending r.order) l.done h.belongs.ascending)) l.late) ∙ h.same;
  }

  -- where m comes after all done events, the rollback is at its end
  pub rolls-end : {part : Part Message S} {past : Past S K} {letters : List Letter} (h : Rolls r is_value opening there m part past letters) →
      is_after r.order (newest_of (map (λ e. e.message) past.done)) m ≡ true → h.now ≡ rolled_back r opening m part
  rolls-end h a =
      sym (roll-none r O opening h.now m (after-all r O h.now.done m h.belongs.ascending
      (subst (λ ds. is_after r.order (newest_of ds) m ≡ true) (done-messages h.belongs) a))) ∙ h.same

pub late-last : {S K : Type 0} {r : Rules Message S K Note} {is_value : S → Message → Type 0} {opening : S} {there : Rows} {m : Message} {part : Part Message S} {past : Past S K} →
    IsLate r is_value opening there m part past → LastDone r is_value past
late-last {r = r} {opening = opening} {there} {part = part} l = (reached r opening part.committed, l.front, l.event, there, l.past_of)
