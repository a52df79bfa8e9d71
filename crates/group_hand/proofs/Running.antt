-- A message is handled: what the hand has of its receiver, and of the others, stands for what Run and Post make of the receiver's part.
use Rattle.std.proofs.Common.{◌≡◌, ℕ, ◌+◌, ◌==◌, ◌⊎◌, inl, inr, Bool, true, false, cond, List, [], ◌∷◌, ◌++◌, Some, refl, sym, ap, ◌∙◌, subst, arith, pos, ◌-ℤ◌, eq-eqb, ne_eqb, append-nil}
use Rattle.std.specs.Bool.{⊤}
use Rattle.std.proofs.lemmas.Bool.{cases_eq}
use Rattle.vlink.specs.declared.message.Message.{Message}
use Rattle.vlink.specs.declared.note.Note.{Note}
use Rattle.virtual_time.specs.Law.{Rules, IsOrder, times_in, one_if, same, pluses, minuses, received_by, reached, rowed, rows_at, Part, emptied, handled, next_of, IsWell}
use Rattle.virtual_time.specs.declared.letter.Letter.{Letter}
use Rattle.virtual_time.proofs.Letters.{received-mine, received-here, named-none}
use Rattle.virtual_time.proofs.Order.{same_cases}
use Rattle.virtual_time.proofs.Lists.{times-append}
use Rattle.virtual_time.proofs.Handling.{reached-append}
use Rattle.virtual_time.proofs.WellRun.{run-well}
use Rattle.virtual_time.proofs.WellStep.{emptied-well}
use Rattle.antimessages.specs.Counting.{HaveSameCounts}
use Rattle.reverse.specs.Rules.{AreValues}
use Rattle.group_queues.specs.DoneEvents.{DoneEvent, done_event_of, done_events_at, done_events_of, messages_of}
use Rattle.group_hand.specs.Hands.{Held, IsMember, counted}
use Rattle.group_hand.proofs.Member.{times-at, all-pluses, all-minuses}

module _ {S K : Type 0} (r : Rules Message S K Note) (O : IsOrder r.order) (V : S → Message → Type 0) where
  -- lists with the same pluses and minuses of each message have them for each receiver
  pub received-same : (q : ℕ) (xs ys : List (Letter Message)) → ((m : Message) → pluses r.order m xs ≡ pluses r.order m ys) → ((m : Message) → minuses r.order m xs ≡ minuses r.order m ys) →
      HaveSameCounts r.order (received_by r.order q xs) (received_by r.order q ys)
  received-same q xs ys p n m = go (cases_eq (r.order.receiver m) q)
    where
      none : (ls : List (Letter Message)) → (r.order.receiver m ≡ q → ⊥) → pluses r.order m (received_by r.order q ls) + minuses r.order m (received_by r.order q ls) ≡ 0
      none ls d = named-none r.order O m (received_by r.order q ls) (λ i. d (received-here r.order O q m ls i))

      go : (r.order.receiver m ≡ q) ⊎ (r.order.receiver m ≡ q → ⊥) →
          pos (pluses r.order m (received_by r.order q xs)) -ℤ pos (minuses r.order m (received_by r.order q xs))
          ≡ pos (pluses r.order m (received_by r.order q ys)) -ℤ pos (minuses r.order m (received_by r.order q ys))
      go (inl e) =
          let a = received-mine r.order O q m e xs in
          let b = received-mine r.order O q m e ys in
          let x : pluses r.order m (received_by r.order q xs) ≡ pluses r.order m (received_by r.order q ys) = a.0 ∙ (p m ∙ sym b.0) in
          let y : minuses r.order m (received_by r.order q xs) ≡ minuses r.order m (received_by r.order q ys) = a.1 ∙ (n m ∙ sym b.1) in
          ap (λ z. pos z -ℤ pos (minuses r.order m (received_by r.order q xs))) x ∙ ap (λ z. pos (pluses r.order m (received_by r.order q ys)) -ℤ pos z) y
      go (inr d) =
          let a = none xs d in
          let b = none ys d in
          let x : pluses r.order m (received_by r.order q xs) ≡ pluses r.order m (received_by r.order q ys) = omega arith in
          let y : minuses r.order m (received_by r.order q xs) ≡ minuses r.order m (received_by r.order q ys) = omega arith in
          ap (λ z. pos z -ℤ pos (minuses r.order m (received_by r.order q xs))) x ∙ ap (λ z. pos (pluses r.order m (received_by r.order q ys)) -ℤ pos z) y

  pub values-more : (s : S) (ms : List Message) (m : Message) → AreValues r V s ms → V (reached r s ms) m → AreValues r V s (ms ++ m ∷ [])
  values-more s [] m vs v = (v, tt)
  values-more s (x ∷ xs) m vs v = (vs.0, values-more (r.after s x) xs m vs.1 v)

  pub events-push : (s : S) (ms : List Message) (m : Message) → done_events_of r s (ms ++ m ∷ []) ≡ done_events_of r s ms ++ done_event_of r (reached r s ms) m ∷ []
  events-push s [] m = refl
  events-push s (x ∷ xs) m = ap (λ z. done_event_of r s x ∷ z) (events-push (r.after s x) xs m)

  at-push : (q : ℕ) (ds : List (DoneEvent K)) (d : DoneEvent K) → done_events_at r.order q (ds ++ d ∷ []) ≡ done_events_at r.order q ds ++ done_events_at r.order q (d ∷ [])
  at-push q [] d = refl
  at-push q (x ∷ xs) d = go (r.order.receiver x.message == q) (at-push q xs d)
    where
      go : (b : Bool) → done_events_at r.order q (xs ++ d ∷ []) ≡ done_events_at r.order q xs ++ done_events_at r.order q (d ∷ []) →
          cond b (x ∷ done_events_at r.order q (xs ++ d ∷ [])) (done_events_at r.order q (xs ++ d ∷ [])) ≡ cond b (x ∷ done_events_at r.order q xs) (done_events_at r.order q xs) ++ done_events_at r.order q (d ∷ [])
      go true e = ap (λ z. x ∷ z) e
      go false e = e

  pub messages-push : (ds : List (DoneEvent K)) (d : DoneEvent K) → messages_of (ds ++ d ∷ []) ≡ messages_of ds ++ d.message ∷ []
  messages-push [] d = refl
  messages-push (x ∷ xs) d = ap (λ z. x.message ∷ z) (messages-push xs d)

  -- one event more, behind all others: it is behind those of its receiver, and those of others stay
  pub mine-push : (ds : List (DoneEvent K)) (d : DoneEvent K) (p : ℕ) → r.order.receiver d.message ≡ p → done_events_at r.order p (ds ++ d ∷ []) ≡ done_events_at r.order p ds ++ d ∷ []
  mine-push ds d p e = at-push p ds d ∙ ap (λ b. done_events_at r.order p ds ++ cond b (d ∷ []) []) (eq-eqb (r.order.receiver d.message) p e)

  pub kept-push : (ds : List (DoneEvent K)) (d : DoneEvent K) (q : ℕ) → (r.order.receiver d.message ≡ q → ⊥) → done_events_at r.order q (ds ++ d ∷ []) ≡ done_events_at r.order q ds
  kept-push ds d q n = at-push q ds d ∙ (ap (λ b. done_events_at r.order q ds ++ cond b (d ∷ []) []) (ne_eqb (r.order.receiver d.message) q n) ∙ append-nil (done_events_at r.order q ds))

  -- the message went from the queue to the done events, where it is the last of its receiver
  module _ (h new : Held S K) (m : Message) (d : DoneEvent K) (is : d.message ≡ m)
      (queue : (x : Message) → times_in r.order x h.flow.queue ≡ one_if (same r.order x m) + times_in r.order x new.flow.queue)
      (mine : done_events_at r.order (r.order.receiver m) new.done ≡ done_events_at r.order (r.order.receiver m) h.done ++ d ∷ [])
      (kept : (q : ℕ) → (q ≡ r.order.receiver m → ⊥) → done_events_at r.order q new.done ≡ done_events_at r.order q h.done) (extra : new.flow.extra ≡ h.flow.extra) (tray : new.flow.tray ≡ h.flow.tray) (rows : new.rows ≡ h.rows) where
    -- it is done once more, and all others as often as before
    pub more-done : (x : Message) → times_in r.order x (messages_of new.done) ≡ one_if (same r.order x m) + times_in r.order x (messages_of h.done)
    more-done x = go (cases_eq (r.order.receiver x) (r.order.receiver m))
      where
        go : (r.order.receiver x ≡ r.order.receiver m) ⊎ (r.order.receiver x ≡ r.order.receiver m → ⊥) →
            times_in r.order x (messages_of new.done) ≡ one_if (same r.order x m) + times_in r.order x (messages_of h.done)
        go (inl e) =
            let a = times-at r O V (r.order.receiver m) x e h.done in
            let b = times-at r O V (r.order.receiver m) x e new.done in
            let c : times_in r.order x (messages_of (done_events_at r.order (r.order.receiver m) new.done)) ≡ times_in r.order x (messages_of (done_events_at r.order (r.order.receiver m) h.done) ++ m ∷ []) =
            ap (times_in r.order x) (ap messages_of mine ∙ (messages-push (done_events_at r.order (r.order.receiver m) h.done) d ∙ ap (λ z. messages_of (done_events_at r.order (r.order.receiver m) h.done) ++ z ∷ []) is)) in
            let i = times-append r.order O x (messages_of (done_events_at r.order (r.order.receiver m) h.done)) (m ∷ []) in
            omega arith
        go (inr n) = elim (same_cases r.order O x m) [
          | inl e ↦ absurd (n (ap r.order.receiver e))
          | inr k ↦ (let a = times-at r O V (r.order.receiver x) x refl h.done in let b = times-at r O V (r.order.receiver x) x refl new.done in
              let c = ap (λ z. times_in r.order x (messages_of z)) (kept (r.order.receiver x) n) in let e = ap one_if k in omega arith)
        ]

    new-pluses : (x : Message) → pluses r.order x (counted h) ≡ pluses r.order x (counted new)
    new-pluses x =
        let a = all-pluses r O V x h in
        let b = all-pluses r O V x new in
        let c = times-append r.order O x h.flow.queue (messages_of h.done) in
        let e = times-append r.order O x new.flow.queue (messages_of new.done) in
        let g = more-done x in
        let j = ap (pluses r.order x) extra in
        let k = queue x in
        omega arith

    new-minuses : (x : Message) → minuses r.order x (counted h) ≡ minuses r.order x (counted new)
    new-minuses x =
        let a = all-minuses r O V x h in
        let b = all-minuses r O V x new in
        let j = ap (minuses r.order x) extra in
        omega arith

    -- another member
    pub ran-other : (opening : S) (p : ℕ) (part : Part Message S) (s : S) → (r.order.receiver m ≡ p → ⊥) → IsMember r V opening p part s h → IsMember r V opening p part s new
    ran-other opening p part s n k = record {
      state = k.state;
      done = kept p (λ e. n (sym e)) ∙ k.done;
      values = k.values;
      counts = λ x. k.counts x ∙ received-same p (counted h) (counted new) new-pluses new-minuses x;
      tray = k.tray ∙ ap (received_by r.order p) (sym tray);
      outbox = k.outbox;
      rows = subst (λ z. rows_at p z.all ≡ rowed r opening part.committed) (sym rows) k.rows;
      well = k.well;
    }

    -- the receiver, whose next message it was
    pub ran-member : (law : (s : S) (e : Message) → r.undo (r.after s e) e (r.kept s e) ≡ s) (opening : S) (part : Part Message S) (s : S) →
        d ≡ done_event_of r s m → V s m → next_of r.order part ≡ Some m → IsMember r V opening (r.order.receiver m) part s h →
        IsMember r V opening (r.order.receiver m) (emptied (handled r part (Some m))) (r.after s m) new
    ran-member law opening part s event value next k = record {
      state = ap (λ z. r.after z m) k.state;
      done = mine ∙ (ap (λ z. z ++ d ∷ []) k.done ∙ (ap (λ z. done_events_of r (reached r opening part.committed) part.done ++ z ∷ []) (event ∙ ap (λ z. done_event_of r z m) from) ∙
          sym (events-push (reached r opening part.committed) part.done m)));
      values = values-more (reached r opening part.committed) part.done m k.values (subst (λ z. V z m) from value);
      counts = λ x. k.counts x ∙ received-same (r.order.receiver m) (counted h) (counted new) new-pluses new-minuses x;
      tray = k.tray ∙ ap (received_by r.order (r.order.receiver m)) (sym tray);
      outbox = refl;
      rows = subst (λ z. rows_at (r.order.receiver m) z.all ≡ rowed r opening part.committed) (sym rows) k.rows;
      well = emptied-well r (λ z. ⊤) opening (handled r part (Some m))
          (subst (IsWell r (λ z. ⊤) opening) (ap (handled r part) next) (run-well r O (λ z. ⊤) (λ z x g. law z x) opening part k.well tt).well);
    }
      where
        from : s ≡ reached r (reached r opening part.committed) part.done
        from = sym k.state ∙ (k.well.state_is ∙ reached-append r opening part.committed part.done)
