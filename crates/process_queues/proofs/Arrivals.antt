-- A letter that arrives: what that makes of the part, how many events it undoes, and the queues afterwards.
use Rattle.std.proofs.Common.{◌≡◌, ℕ, ◌+◌, ◌⊎◌, inl, inr, Bool, true, false, not, cond, List, [], ◌∷◌, ◌++◌, length, map, drop, slice_get, Some, None, refl, sym, ap, ◌∙◌, subst, arith, ◌≢◌, length-append}
use Rattle.std.specs.Prelude.{⊤}
use Rattle.std.proofs.lemmas.Bool.{not_from_true}
use Rattle.vlink.specs.declared.message.Message.{Message}
use Rattle.vlink.specs.declared.note.Note.{Note}
use Rattle.virtual_time.specs.Law.{Rules, reached, IsIn, before, from_on, plus_of, Part, tallied, is_toggled, rolled_back, arrived, arrive, undone_by, IsWell}
use Rattle.virtual_time.proofs.Lists.{filter-none}
use Rattle.virtual_time.proofs.Rolling.{roll-none, roll-split}
use Rattle.virtual_time.proofs.WellArrive.{arrive-well}
use Rattle.vlink.specs.Order.{message_order}
use Rattle.vlink.specs.Letters.{Letter}
use Rattle.antimessages.specs.Counting.{HaveSameCounts, signed_count, change_by, is_after, newest_of}
use Rattle.antimessages.specs.declared.tally.Change.TheVariants.{Same}
use Rattle.antimessages.proofs.Agreeing.{same_counts-cons}
use Rattle.process_queues.specs.Past.{Past, BelongsTo}
use Rattle.process_queues.specs.Arriving.{done_since}
use Rattle.process_queues.specs.Queues.{Queues, StandsFor, rows_there, with_done}
use Rattle.process_queues.proofs.Beside.{with_done-same, with_done-undone}
use Rattle.process_queues.proofs.Counting.{OfMessages, not_toggled, toggled}
use Rattle.process_queues.proofs.Done.{undone-split}
use Rattle.antimessages.proofs.Newest.{after-all}
use Rattle.process_queues.proofs.Pasts.{as_many}
use Rattle.process_queues.proofs.Rolls.{done-messages}

-- the front letter, and those behind it
front-split : (ls : List Letter) (l : Letter) → slice_get ls 0 ≡ Some l → ls ≡ l ∷ drop 1 ls
front-split [] l e = cc
front-split (x ∷ xs) l e = let k : x ≡ l = cc in ap (λ z. z ∷ xs) k

no-front : (ls : List Letter) → slice_get ls 0 ≡ None → ls ≡ []
no-front [] e = refl
no-front (x ∷ xs) e = cc

-- where there is no front letter nothing arrives
module _ {S K : Type 0} {r : Rules Message S K Note} {is_value : S → Message → Type 0} {opening : S} {part : Part Message S} {q : Queues S K}
    (h : StandsFor r is_value opening part q) (none : slice_get q.tray 0 ≡ None) where
  pub none-answer : part.tray ≡ []
  none-answer = sym h.tray ∙ no-front q.tray none

  pub none-stands : StandsFor r is_value opening (arrive r opening part) q
  none-stands = subst (λ z. StandsFor r is_value opening z q) (sym (ap (arrived r opening part) none-answer)) h

-- what the arrival of the front letter makes of the part, and how many events that undoes
record Arrives {S K : Type 0} (r : Rules Message S K Note) (opening : S) (part made : Part Message S) (undone : ℕ) : Type 0 where
  makes : arrive r opening part ≡ made
  answer : (part.tray ≢ []) × (undone ≡ undone_by r.order part part.tray)

-- a part whose front letter was tallied, with these done events, this state and this outbox
abbrev counted : {S : Type 0} → Letter → List Letter → List Message → S → List Letter → Part Message S → Part Message S
counted l rest done state outbox part =
    record { committed = part.committed; done = done; state = state; tally = l ∷ part.tally; tray = rest; outbox = outbox }

module _ {S K : Type 0} {r : Rules Message S K Note} (R : OfMessages r) {is_value : S → Message → Type 0} {opening : S} {part : Part Message S} {q : Queues S K}
    (h : StandsFor r is_value opening part q) (l : Letter) (first : slice_get q.tray 0 ≡ Some l) where
  by-toggle : (b : Bool) → is_toggled r.order l part.tally ≡ b →
      Arrives r opening part (cond b (rolled_back r opening l.message (tallied r l (drop 1 q.tray) part)) (tallied r l (drop 1 q.tray) part))
      (cond b (length (from_on r.order l.message part.done)) 0)
  by-toggle b t =
      let tray = sym h.tray ∙ front-split q.tray l first in
      record {
        makes = ap (arrived r opening part) tray ∙
            ap (λ z. cond z (rolled_back r opening l.message (tallied r l (drop 1 q.tray) part)) (tallied r l (drop 1 q.tray) part)) t;
        answer = (
          λ none. let bad : l ∷ drop 1 q.tray ≡ [] = sym tray ∙ none in cc,
          sym (ap (undone_by r.order part) tray ∙ ap (λ z. cond z (length (from_on r.order l.message part.done)) 0) t),
        );
      }

  -- it toggles nothing, or its message comes after all done events: nothing is undone
  abbrev IsStill : Type 0
  IsStill = (change_by message_order l q.tally ≡ Same) ⊎ (is_after r.order (newest_of (map (λ e. e.message) q.past.done)) l.message ≡ true)

  still : IsStill → Arrives r opening part (tallied r l (drop 1 q.tray) part) 0
  still (inl e) = by-toggle false (not_toggled r R l part.tally q.tally h.counts e)
  still (inr a) = go (is_toggled r.order l part.tally) refl
    where
      late : (d : Message) → IsIn r.order d part.done → r.order.less d l.message ≡ true
      late = after-all r R.order part.done l.message h.past.ascending
          (subst (λ ds. is_after r.order (newest_of ds) l.message ≡ true) (done-messages h.past) a)

      go : (b : Bool) → is_toggled r.order l part.tally ≡ b → Arrives r opening part (tallied r l (drop 1 q.tray) part) 0
      go false t = by-toggle false t
      go true t =
          let k = by-toggle true t in
          record {
            makes = k.makes ∙ roll-none r R.order opening (tallied r l (drop 1 q.tray) part) l.message late;
            answer = (
              k.answer.0,
              sym (ap length (filter-none r.order R.order (λ x. not (r.order.less x l.message)) part.done (λ x j. not_from_true _ (late x j)))) ∙ k.answer.1,
            );
          }

  -- it toggles its message: the process rolls back to it
  back : change_by message_order l q.tally ≢ Same →
      Arrives r opening part (rolled_back r opening l.message (tallied r l (drop 1 q.tray) part)) (length (from_on r.order l.message part.done))
  back n = by-toggle true (toggled r R l part.tally q.tally h.counts n)

  -- the queues afterwards are those of the part that is made
  arrived-stands : (done : List Message) (state : S) (outbox : List Letter) (n : ℕ) → Arrives r opening part (counted l (drop 1 q.tray) done state outbox part) n →
      (past' : Past S K) (tally' : List Letter) (q' : Queues S K) →
      BelongsTo r is_value opening (rows_there r opening part q) (counted l (drop 1 q.tray) done state outbox part) past' →
      HaveSameCounts message_order tally' (l ∷ q.tally) → q' ≡ record q { past = past'; tally = tally'; tray = drop 1 q.tray; outbox = outbox } →
      StandsFor r is_value opening (arrive r opening part) q'
  arrived-stands done state outbox n a past' tally' q' b counts f =
      subst (λ z. StandsFor r is_value opening z q') (sym a.makes)
      (subst (StandsFor r is_value opening (counted l (drop 1 q.tray) done state outbox part)) (sym f) (record {
        past = b;
        sealed = h.sealed;
        committed = h.committed;
        counts = λ m. same_counts-cons message_order l part.tally q.tally h.counts m ∙ sym (counts m);
        tray = refl;
        outbox = refl;
        well = subst (IsWell r (λ s. ⊤) opening) a.makes (arrive-well r R.order (λ s. ⊤) (λ s m g. R.undoes s m) opening part h.well).well;
      }))

  -- the part after the front letter was tallied, before a rollback
  pub tallied-belongs : BelongsTo r is_value opening (rows_there r opening part q) (tallied r l (drop 1 q.tray) part) q.past
  tallied-belongs = record { past_of = h.past.past_of; state = h.past.state; ascending = h.past.ascending }

  pub still-answer : IsStill → (part.tray ≢ []) × (0 ≡ undone_by r.order part part.tray)
  still-answer s = (still s).answer

  -- t beside the done events becomes t'
  pub still-stands : IsStill → (t t' : List Letter) (q' : Queues S K) → q.tally ≡ with_done t q.past.done → HaveSameCounts message_order t' (l ∷ t) →
      q' ≡ record q { tally = with_done t' q.past.done; tray = drop 1 q.tray } → StandsFor r is_value opening (arrive r opening part) q'
  still-stands s t t' q' e counts f =
      arrived-stands part.done part.state part.outbox 0 (still s) q.past (with_done t' q.past.done) q' tallied-belongs
      (λ m. with_done-same R.messages t' (l ∷ t) q.past.done counts m ∙ ap (λ ts. signed_count message_order m (l ∷ ts)) (sym e))
      (f ∙ ap (λ o. record q { tally = with_done t' q.past.done; tray = drop 1 q.tray; outbox = o }) h.outbox)

  module _ (n : change_by message_order l q.tally ≢ Same) (past' : Past S K)
      (b : BelongsTo r is_value opening (rows_there r opening part q) (rolled_back r opening l.message (tallied r l (drop 1 q.tray) part)) past') where
    pub back-answer : (count : ℕ) → count + length past'.done ≡ length q.past.done → (part.tray ≢ []) × (count ≡ undone_by r.order part part.tray)
    back-answer count sum =
        let a = ap length b.past_of.done ∙ as_many r (reached r opening part.committed) (before r.order l.message part.done) in
        let c = ap length h.past.past_of.done ∙ as_many r (reached r opening part.committed) part.done in
        let d = ap length (roll-split r R.order l.message part.done h.past.ascending) in
        let f = length-append (before r.order l.message part.done) (from_on r.order l.message part.done) in
        let same : count ≡ length (from_on r.order l.message part.done) = omega arith in
        let k = back n in
        (k.answer.0, same ∙ k.answer.1)

    -- the events that do not come before the letter were tallied again, and the letter was
    pub back-stands : (t t' outbox : List Letter) (q' : Queues S K) → q.tally ≡ with_done t q.past.done →
        HaveSameCounts message_order t' (l ∷ (map (λ e. plus_of e.message) (done_since l.message q.past.done) ++ t)) →
        outbox ≡ (rolled_back r opening l.message (tallied r l (drop 1 q.tray) part)).outbox →
        q' ≡ record q { past = past'; tally = with_done t' past'.done; tray = drop 1 q.tray; outbox = outbox } → StandsFor r is_value opening (arrive r opening part) q'
    back-stands t t' outbox q' e counts o f =
        let place = length (before message_order l.message (map (λ e. e.message) q.past.done)) in
        let at = ap (λ order. length (before order l.message (map (λ e. e.message) q.past.done))) (sym R.order_is) in
        let split = undone-split r R.order l.message part.done q.past.done past'.done place (done-messages h.past) h.past.ascending
        (done-messages b) at in
        arrived-stands _ _ _ _ (back n) past' (with_done t' past'.done) q' b
        (λ m. with_done-undone R.messages l place t t' q.past.done past'.done counts split m ∙ ap (λ ts. signed_count message_order m (l ∷ ts)) (sym e))
        (f ∙ ap (λ ls. record q { past = past'; tally = with_done t' past'.done; tray = drop 1 q.tray; outbox = ls }) o)
