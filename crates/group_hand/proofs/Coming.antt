-- A message comes home: it joins the queue, and the hand stands for what a plain letter makes of its receiver's part.
use Rattle.std.proofs.Common.{◌≡◌, ℕ, ◌+◌, true, cond, [], ◌∷◌, ◌++◌, map, sym, ap, ◌∙◌, subst, arith, eq-eqb, ne_eqb}
use Rattle.std.specs.Bool.{⊤}
use Rattle.vlink.specs.declared.message.Message.{Message}
use Rattle.vlink.specs.declared.note.Note.{Note}
use Rattle.virtual_time.specs.Law.{Rules, IsOrder, IsIn, times_in, one_if, same, plus_of, pluses, minuses, received_by, rowed, rows_at, Part, delivered, tallied, IsWell}
use Rattle.virtual_time.proofs.Letters.{pluses-append, minuses-append, pluses-plus, minuses-plus}
use Rattle.virtual_time.proofs.WellArrive.{arrive-well}
use Rattle.virtual_time.proofs.WellStep.{delivered-well}
use Rattle.virtual_time.proofs.HomeLetters.{arrives-plain}
use Rattle.antimessages.specs.Counting.{HaveSameCounts}
use Rattle.antimessages.proofs.Agreeing.{same_counts-cons}
use Rattle.group_queues.specs.DoneEvents.{done_events_at, messages_of}
use Rattle.group_hand.specs.Hands.{Held, IsMember, counted}
use Rattle.group_hand.proofs.Running.{received-same}

module _ {S K : Type 0} (r : Rules Message S K Note) (O : IsOrder r.order) (V : S → Message → Type 0) (h new : Held S K) (m : Message)
    (queue : (x : Message) → times_in r.order x new.flow.queue ≡ one_if (same r.order x m) + times_in r.order x h.flow.queue)
    (done : new.done ≡ h.done) (extra : new.flow.extra ≡ h.flow.extra) (tray : new.flow.tray ≡ h.flow.tray) (rows : new.rows ≡ h.rows) where
  pub new-pluses : (x : Message) → pluses r.order x (plus_of m ∷ counted h) ≡ pluses r.order x (counted new)
  new-pluses x =
      let a = pluses-append r.order O x (map plus_of h.flow.queue) (map plus_of (messages_of h.done) ++ h.flow.extra) in
      let b = pluses-append r.order O x (map plus_of (messages_of h.done)) h.flow.extra in
      let c = pluses-plus r.order O x h.flow.queue in
      let a' = pluses-append r.order O x (map plus_of new.flow.queue) (map plus_of (messages_of new.done) ++ new.flow.extra) in
      let b' = pluses-append r.order O x (map plus_of (messages_of new.done)) new.flow.extra in
      let c' = pluses-plus r.order O x new.flow.queue in
      let g = ap (λ z. pluses r.order x (map plus_of (messages_of z))) done in
      let j = ap (pluses r.order x) extra in
      let k = queue x in
      omega arith

  pub new-minuses : (x : Message) → minuses r.order x (plus_of m ∷ counted h) ≡ minuses r.order x (counted new)
  new-minuses x =
      let a = minuses-append r.order O x (map plus_of h.flow.queue) (map plus_of (messages_of h.done) ++ h.flow.extra) in
      let b = minuses-append r.order O x (map plus_of (messages_of h.done)) h.flow.extra in
      let c = minuses-plus r.order O x h.flow.queue in
      let a' = minuses-append r.order O x (map plus_of new.flow.queue) (map plus_of (messages_of new.done) ++ new.flow.extra) in
      let b' = minuses-append r.order O x (map plus_of (messages_of new.done)) new.flow.extra in
      let c' = minuses-plus r.order O x new.flow.queue in
      let g = ap (λ z. minuses r.order x (map plus_of (messages_of z))) done in
      let j = ap (minuses r.order x) extra in
      omega arith

  -- another member
  pub came-other : (opening : S) (p : ℕ) (part : Part Message S) (s : S) → (r.order.receiver m ≡ p → ⊥) → IsMember r V opening p part s h → IsMember r V opening p part s new
  came-other opening p part s n k = record {
    state = k.state;
    done = ap (done_events_at r.order p) done ∙ k.done;
    values = k.values;
    counts = λ x. k.counts x ∙ subst (λ ls. HaveSameCounts r.order ls (received_by r.order p (counted new)))
        (ap (λ b. cond b (plus_of m ∷ received_by r.order p (counted h)) (received_by r.order p (counted h))) (ne_eqb (r.order.receiver m) p n))
        (received-same r O V p (plus_of m ∷ counted h) (counted new) new-pluses new-minuses) x;
    tray = k.tray ∙ ap (received_by r.order p) (sym tray);
    outbox = k.outbox;
    rows = subst (λ z. rows_at p z.all ≡ rowed r opening part.committed) (sym rows) k.rows;
    well = k.well;
  }

  -- the receiver, whose tray is empty, and which has done nothing that does not come before
  pub came-member : (law : (s : S) (e : Message) → r.undo (r.after s e) e (r.kept s e) ≡ s) (opening : S) (p : ℕ) (part : Part Message S) (s : S) → r.order.receiver m ≡ p →
      part.tray ≡ [] → ((x : Message) → IsIn r.order x part.done → r.order.less x m ≡ true) →
      IsMember r V opening p part s h → IsMember r V opening p (tallied r (plus_of m) [] part) s new
  came-member law opening p part s e empty before k = record {
    state = k.state;
    done = ap (done_events_at r.order p) done ∙ k.done;
    values = k.values;
    counts = λ x. same_counts-cons r.order (plus_of m) part.tally (received_by r.order p (counted h)) k.counts x ∙
        subst (λ ls. HaveSameCounts r.order ls (received_by r.order p (counted new)))
        (ap (λ b. cond b (plus_of m ∷ received_by r.order p (counted h)) (received_by r.order p (counted h))) (eq-eqb (r.order.receiver m) p e))
        (received-same r O V p (plus_of m ∷ counted h) (counted new) new-pluses new-minuses) x;
    tray = sym empty ∙ (k.tray ∙ ap (received_by r.order p) (sym tray));
    outbox = k.outbox;
    rows = subst (λ z. rows_at p z.all ≡ rowed r opening part.committed) (sym rows) k.rows;
    well = subst (IsWell r (λ z. ⊤) opening)
        (arrives-plain r O opening (plus_of m) (delivered (plus_of m) part) (ap (λ z. z ++ plus_of m ∷ []) empty) before)
        (arrive-well r O (λ z. ⊤) (λ z x g. law z x) opening (delivered (plus_of m) part) (delivered-well r (λ z. ⊤) opening (plus_of m) part k.well)).well;
  }
