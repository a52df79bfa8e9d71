-- What a hand has of one member: which messages are present there, which are done, and which is next.
use Rattle.std.proofs.Common.{◌≡◌, ℕ, ◌+◌, ◌<◌, ◌≤◌, ◌==◌, ◌⊎◌, inl, inr, Bool, true, false, cond, List, [], ◌∷◌, ◌++◌, map, Some, refl, sym, ap, ◌∙◌, arith, eq-eqb, eqb-true}
use Rattle.std.proofs.lemmas.Bool.{cases_lt, both_ways}
use Rattle.vlink.specs.declared.message.Message.{Message}
use Rattle.vlink.specs.declared.note.Note.{Note}
use Rattle.virtual_time.specs.Law.{Rules, IsOrder, IsIn, times_in, one_if, same, plus_of, pluses, minuses, IsPresent, received_by, Part, next_of}
use Rattle.virtual_time.proofs.Order.{same_cases}
use Rattle.virtual_time.proofs.Letters.{pluses-append, minuses-append, pluses-plus, minuses-plus, received-mine, received-here}
use Rattle.virtual_time.proofs.Lists.{times-append, in-append}
use Rattle.virtual_time.proofs.Presence.{present-true, present-from}
use Rattle.virtual_time.proofs.Reading.{next-from}
use Rattle.antimessages.proofs.Agreeing.{present-same_count}
use Rattle.group_queues.specs.DoneEvents.{DoneEvent, done_events_at, done_events_of, messages_of}
use Rattle.group_hand.specs.Hands.{Held, IsMember, CountsBeside, counted}

module _ {S K : Type 0} (r : Rules Message S K Note) (O : IsOrder r.order) (V : S → Message → Type 0) where
  pub messages-of : (s : S) (ms : List Message) → messages_of (done_events_of r s ms) ≡ ms
  messages-of s [] = refl
  messages-of s (m ∷ ms) = ap (λ xs. m ∷ xs) (messages-of (r.after s m) ms)

  -- of a message for p the events of p have as many as all have
  pub times-at : (p : ℕ) (m : Message) → r.order.receiver m ≡ p → (ds : List (DoneEvent K)) →
      times_in r.order m (messages_of (done_events_at r.order p ds)) ≡ times_in r.order m (messages_of ds)
  times-at p m e [] = refl
  times-at p m e (d ∷ ds) = go (r.order.receiver d.message == p) refl (times-at p m e ds)
    where
      go : (b : Bool) → (r.order.receiver d.message == p) ≡ b → times_in r.order m (messages_of (done_events_at r.order p ds)) ≡ times_in r.order m (messages_of ds) →
          times_in r.order m (messages_of (cond b (d ∷ done_events_at r.order p ds) (done_events_at r.order p ds))) ≡ one_if (same r.order m d.message) + times_in r.order m (messages_of ds)
      go true h i = ap (λ n. one_if (same r.order m d.message) + n) i
      go false h i = elim (same_cases r.order O m d.message) [
        | inl k ↦ absurd (both_ways _ h (eq-eqb _ _ (sym (ap r.order.receiver k) ∙ e)))
        | inr n ↦ (let z = ap one_if n in omega (arith, i))
      ]

  -- of a message for another process they have none
  pub times-elsewhere : (p : ℕ) (m : Message) → (r.order.receiver m ≡ p → ⊥) → (ds : List (DoneEvent K)) → times_in r.order m (messages_of (done_events_at r.order p ds)) ≡ 0
  times-elsewhere p m n [] = refl
  times-elsewhere p m n (d ∷ ds) = go (r.order.receiver d.message == p) refl (times-elsewhere p m n ds)
    where
      go : (b : Bool) → (r.order.receiver d.message == p) ≡ b → times_in r.order m (messages_of (done_events_at r.order p ds)) ≡ 0 →
          times_in r.order m (messages_of (cond b (d ∷ done_events_at r.order p ds) (done_events_at r.order p ds))) ≡ 0
      go true h i = elim (same_cases r.order O m d.message) [
        | inl e ↦ absurd (n (ap r.order.receiver e ∙ eqb-true _ _ h))
        | inr k ↦ (let z = ap one_if k in omega (arith, i))
      ]
      go false h i = i

  -- what counts of a message: the queue, the done events, and what is beside
  pub all-pluses : (m : Message) (h : Held S K) → pluses r.order m (counted h) ≡ times_in r.order m (h.flow.queue ++ messages_of h.done) + pluses r.order m h.flow.extra
  all-pluses m h =
      let a = pluses-append r.order O m (map plus_of h.flow.queue) (map plus_of (messages_of h.done) ++ h.flow.extra) in
      let c = pluses-append r.order O m (map plus_of (messages_of h.done)) h.flow.extra in
      let d = pluses-plus r.order O m h.flow.queue in
      let e = pluses-plus r.order O m (messages_of h.done) in
      let g = times-append r.order O m h.flow.queue (messages_of h.done) in
      omega arith

  pub all-minuses : (m : Message) (h : Held S K) → minuses r.order m (counted h) ≡ minuses r.order m h.flow.extra
  all-minuses m h =
      let a = minuses-append r.order O m (map plus_of h.flow.queue) (map plus_of (messages_of h.done) ++ h.flow.extra) in
      let c = minuses-append r.order O m (map plus_of (messages_of h.done)) h.flow.extra in
      let d = minuses-plus r.order O m h.flow.queue in
      let e = minuses-plus r.order O m (messages_of h.done) in
      omega arith

  module _ (opening : S) (p : ℕ) (part : Part Message S) (s : S) (h : Held S K) (b : (m : Message) → CountsBeside r.order h m) (k : IsMember r V opening p part s h) where
    -- a message of p is done there as often as here
    pub done-times : (m : Message) → r.order.receiver m ≡ p → times_in r.order m part.done ≡ times_in r.order m (messages_of h.done)
    done-times m e =
        ap (times_in r.order m) (sym (messages-of _ part.done) ∙ ap messages_of (sym k.done)) ∙ times-at p m e h.done

    -- what p's tally has is for p
    pub of-tally : (m : Message) → IsPresent r.order part.tally m → IsPresent r.order (received_by r.order p (counted h)) m
    of-tally m i = present-true r.order O _ m (sym (present-same_count r.order m part.tally (received_by r.order p (counted h)) (k.counts m)) ∙ present-from r.order O part.tally m i)

    pub is-for : (m : Message) → IsPresent r.order part.tally m → r.order.receiver m ≡ p
    is-for m i = let a = of-tally m i in received-here r.order O p m (counted h) (omega arith)

    -- a message is present in p just where it is in the queue or done
    pub present-there : (m : Message) → IsPresent r.order part.tally m → IsIn r.order m (h.flow.queue ++ messages_of h.done)
    present-there m i =
        let a = of-tally m i in
        let c = received-mine r.order O p m (is-for m i) (counted h) in
        go a c.0 c.1 (cases_lt (minuses r.order m h.flow.extra) (pluses r.order m h.flow.extra))
      where
        go : IsPresent r.order (received_by r.order p (counted h)) m → pluses r.order m (received_by r.order p (counted h)) ≡ pluses r.order m (counted h) →
            minuses r.order m (received_by r.order p (counted h)) ≡ minuses r.order m (counted h) →
            (minuses r.order m h.flow.extra < pluses r.order m h.flow.extra) ⊎ (pluses r.order m h.flow.extra ≤ minuses r.order m h.flow.extra) → IsIn r.order m (h.flow.queue ++ messages_of h.done)
        go a c d (inl more) = (b m).more more
        go a c d (inr less) = let x = all-pluses m h in let y = all-minuses m h in omega arith

    pub present-here : (m : Message) → r.order.receiver m ≡ p → IsIn r.order m (h.flow.queue ++ messages_of h.done) → IsPresent r.order part.tally m
    present-here m e i = go (cases_lt (pluses r.order m h.flow.extra) (minuses r.order m h.flow.extra))
      where
        go : (pluses r.order m h.flow.extra < minuses r.order m h.flow.extra) ⊎ (minuses r.order m h.flow.extra ≤ pluses r.order m h.flow.extra) → IsPresent r.order part.tally m
        go (inl less) = absurd (let z = (b m).less less in omega arith)
        go (inr more) =
            let c = received-mine r.order O p m e (counted h) in
            let u = c.0 in
            let v = c.1 in
            let x = all-pluses m h in
            let y = all-minuses m h in
            let there : IsPresent r.order (received_by r.order p (counted h)) m = omega arith in
            present-true r.order O part.tally m (present-same_count r.order m part.tally (received_by r.order p (counted h)) (k.counts m) ∙ present-from r.order O _ m there)

    -- the first message of the queue, if it is not done, is the one that its receiver handles next
    pub next-here : (m : Message) → r.order.receiver m ≡ p → IsIn r.order m h.flow.queue → times_in r.order m (messages_of h.done) ≡ 0 →
        ((x : Message) → IsIn r.order x h.flow.queue → r.order.less x m ≡ false) → next_of r.order part ≡ Some m
    next-here m e i z f = next-from r O part m (record {
      present = present-here m e (let a = times-append r.order O m h.flow.queue (messages_of h.done) in omega arith);
      not_done = done-times m e ∙ z;
      first = λ x here n. elim (in-append r.order O x h.flow.queue (messages_of h.done) (present-there x here)) [
        | inl j ↦ f x j
        | inr j ↦ absurd (let d = done-times x (is-for x here) in omega arith)
      ];
    })
