-- What counts after a letter arrived: as before, and the letter.
use Rattle.std.proofs.Common.{◌≡◌, ℕ, ◌+◌, ◌⊎◌, inl, inr, List, ◌∷◌, ◌++◌, pos, ◌≤ℤ◌, refl, sym, ap, ◌∙◌, subst, arith}
use Rattle.std.proofs.lemmas.Bool.{cases_eq}
use Rattle.std.proofs.lemmas.Int.{ints}
use Rattle.vlink.specs.declared.message.Message.{Message}
use Rattle.vlink.specs.declared.note.Note.{Note}
use Rattle.vlink.specs.Letters.{Letter}
use Rattle.virtual_time.specs.declared.letter.Sign.TheVariants.{Minus}
use Rattle.virtual_time.specs.Law.{Rules, IsOrder, IsIn, times_in, one_if, same, pluses, minuses, received_by}
use Rattle.virtual_time.proofs.Order.{same_cases, same-refl}
use Rattle.virtual_time.proofs.Lists.{times-append}
use Rattle.virtual_time.proofs.Letters.{counts-other, received-mine, received-here, named-none}
use Rattle.antimessages.specs.Counting.{HaveSameCounts, signed_count}
use Rattle.two_lists.proofs.Counting.{times-permutation}
use Rattle.group_queues.specs.DoneEvents.{DoneEvent, done_events_at, messages_of}
use Rattle.group_hand.specs.Hands.{Held, CountsBeside, counted}
use Rattle.group_hand.specs.Arriving.{StaysBeside, CountsMore, JoinsQueue, LeavesQueue, IsUndone, FrontArrived}
use Rattle.group_hand.proofs.Member.{all-pluses, all-minuses, times-at, times-elsewhere}
use Rattle.group_hand.proofs.Arrival.{plus-adds, minus-adds}
use Rattle.group_queues.proofs.Shares.{messages-append}

module _ {S K : Type 0} (r : Rules Message S K Note) (O : IsOrder r.order) (V : S → Message → Type 0) where
  -- lists with the same counts have them for each receiver
  pub received-signed : (q : ℕ) (xs ys : List Letter) → HaveSameCounts r.order xs ys → HaveSameCounts r.order (received_by r.order q xs) (received_by r.order q ys)
  received-signed q xs ys e m = go (cases_eq (r.order.receiver m) q)
    where
      none : (ls : List Letter) → (r.order.receiver m ≡ q → ⊥) → pluses r.order m (received_by r.order q ls) + minuses r.order m (received_by r.order q ls) ≡ 0
      none ls d = named-none r.order O m (received_by r.order q ls) (λ i. d (received-here r.order O q m ls i))

      go : (r.order.receiver m ≡ q) ⊎ (r.order.receiver m ≡ q → ⊥) → signed_count r.order m (received_by r.order q xs) ≡ signed_count r.order m (received_by r.order q ys)
      go (inl i) =
          let a = received-mine r.order O q m i xs in
          let b = received-mine r.order O q m i ys in
          let a0 = a.0 in let a1 = a.1 in let b0 = b.0 in let b1 = b.1 in
          let c = e m in
          omega (arith, ints)
      go (inr d) = let a = none xs d in let b = none ys d in omega (arith, ints)

  module _ (l : Letter) (rest : List Letter) (late : List (DoneEvent K)) (old new : Held S K) (a : FrontArrived r l rest late old new) (b : (m : Message) → CountsBeside r.order old m) where
    abbrev m : Message
    m = l.message

    abbrev p : ℕ
    p = r.order.receiver l.message

    -- each message is done as often as before, or undone
    done-was : (y : Message) → times_in r.order y (messages_of old.done) ≡ times_in r.order y (messages_of new.done) + times_in r.order y (messages_of late)
    done-was y = go (cases_eq (r.order.receiver y) p)
      where
        split : times_in r.order y (messages_of (done_events_at r.order p old.done)) ≡ times_in r.order y (messages_of (done_events_at r.order p new.done)) + times_in r.order y (messages_of late)
        split =
            ap (λ z. times_in r.order y (messages_of z)) a.undone ∙ (ap (times_in r.order y) (messages-append (done_events_at r.order p new.done) late) ∙
            times-append r.order O y (messages_of (done_events_at r.order p new.done)) (messages_of late))

        go : (r.order.receiver y ≡ p) ⊎ (r.order.receiver y ≡ p → ⊥) →
            times_in r.order y (messages_of old.done) ≡ times_in r.order y (messages_of new.done) + times_in r.order y (messages_of late)
        go (inl e) =
            let c = times-at r O V p y e old.done in
            let d = times-at r O V p y e new.done in
            let i = split in
            omega arith
        go (inr n) =
            let c = times-at r O V (r.order.receiver y) y refl old.done in
            let d = times-at r O V (r.order.receiver y) y refl new.done in
            let e = ap (λ z. times_in r.order y (messages_of z)) (a.kept (r.order.receiver y) n) in
            let z = times-elsewhere r O V p y n old.done in
            let i = split in
            omega arith

    -- what is there of a message
    abbrev there : Held S K → Message → ℕ
    there h y = times_in r.order y (h.flow.queue ++ messages_of h.done)

    -- what the letter makes of the counts
    pub record Adds : Type 0 where
      pub counts : HaveSameCounts r.order (l ∷ counted old) (counted new)
      pub beside : (y : Message) → CountsBeside r.order new y
      pub was_there : (y : Message) → IsIn r.order y (new.flow.queue ++ messages_of new.done) → (y ≡ l.message) ⊎ IsIn r.order y (old.flow.queue ++ messages_of old.done)

    -- of another message there is as much, and it counts beside as before
    others-beside : (y : Message) → there new y ≡ there old y → signed_count r.order y new.flow.extra ≡ signed_count r.order y old.flow.extra → CountsBeside r.order new y
    others-beside y t e = record {
      more = λ i. let j = (b y).more (omega (arith, ints)) in omega arith;
      less = λ i. let j = (b y).less (omega (arith, ints)) in omega arith;
    }

    counts-from : (y : Message) → pluses r.order y (l ∷ counted old) + minuses r.order y (counted new) ≡ minuses r.order y (l ∷ counted old) + pluses r.order y (counted new) →
        signed_count r.order y (l ∷ counted old) ≡ signed_count r.order y (counted new)
    counts-from y e = omega (arith, ints)

    counts-more : CountsMore r.order l late old new → Adds
    counts-more c = record {
      counts = λ y.
          let p0 = all-pluses r O V y old in let p1 = all-pluses r O V y new in
          let m0 = all-minuses r O V y old in let m1 = all-minuses r O V y new in
          let t = as-before y in
          let e = c.extra y in
          counts-from y (omega (arith, ints));
      beside = λ y. elim (same_cases r.order O y m) [
        | inl i ↦ subst (CountsBeside r.order new) (sym i) here
        | inr n ↦ others-beside y (as-before y) (c.extra y ∙ (let o = counts-other r.order O y l old.flow.extra n in let o0 = o.0 in let o1 = o.1 in omega (arith, ints)))
      ];
      was_there = λ y i. inr (let t = as-before y in omega arith);
    }
      where
        as-before : (y : Message) → there new y ≡ there old y
        as-before y =
            let g = times-append r.order O y old.flow.queue (messages_of old.done) in
            let h = times-append r.order O y new.flow.queue (messages_of new.done) in
            let i = times-permutation r.order y old.flow.queue new.flow.queue c.queue in
            let d = done-was y in
            let z = ap (λ z. times_in r.order y (messages_of z)) c.none in
            omega arith

        here : CountsBeside r.order new l.message
        here = go c.why
          where
            go : StaysBeside r.order l late old new → CountsBeside r.order new l.message
            go (inl (sign, inl less)) = record {
              more = λ i. absurd (let e = c.extra l.message in let u = plus-adds r l old.flow.extra m sign in let u0 = u.0 in let u1 = u.1 in
                  let w = ap one_if (same-refl r.order O m) in omega (arith, ints, less));
              less = λ i. let t = as-before l.message in let j = (b l.message).less (omega (arith, ints, less)) in omega arith;
            }
            go (inl (sign, inr done)) = record {
              more = λ i. let t = as-before l.message in let g = times-append r.order O m old.flow.queue (messages_of old.done) in omega arith;
              less = λ i. let e = c.extra l.message in let u = plus-adds r l old.flow.extra m sign in let u0 = u.0 in let u1 = u.1 in
                  let w = ap one_if (same-refl r.order O m) in let t = as-before l.message in let j = (b l.message).less (omega (arith, ints)) in omega arith;
            }
            go (inr (sign, inl more)) = record {
              more = λ i. let t = as-before l.message in let j = (b l.message).more (omega (arith, ints, more)) in omega arith;
              less = λ i. absurd (let e = c.extra l.message in let u = minus-adds r l old.flow.extra m sign in let u0 = u.0 in let u1 = u.1 in
                  let w = ap one_if (same-refl r.order O m) in omega (arith, ints, more));
            }
            go (inr (sign, inr none)) = record {
              more = λ i. absurd (let e = c.extra l.message in let u = minus-adds r l old.flow.extra m sign in let u0 = u.0 in let u1 = u.1 in
                  let n = none.0 in let w = ap one_if (same-refl r.order O m) in omega (arith, ints));
              less = λ i. let t = as-before l.message in let n1 = none.1 in let n2 = none.2 in let g = times-append r.order O m old.flow.queue (messages_of old.done) in omega arith;
            }

    joins-queue : JoinsQueue r.order l late old new → Adds
    joins-queue c = record {
      counts = λ y.
          let p0 = all-pluses r O V y old in let p1 = all-pluses r O V y new in
          let m0 = all-minuses r O V y old in let m1 = all-minuses r O V y new in
          let t = one-more y in
          let e = c.extra y in
          let u = plus-adds r l (counted old) y c.sign in let u0 = u.0 in let u1 = u.1 in
          counts-from y (omega (arith, ints));
      beside = λ y. elim (same_cases r.order O y m) [
        | inl i ↦ subst (CountsBeside r.order new) (sym i) here
        | inr n ↦ others-beside y (let t = one-more y in let z = ap one_if n in omega arith) (c.extra y)
      ];
      was_there = λ y i. elim (same_cases r.order O y m) [ inl e ↦ inl e | inr n ↦ inr (let t = one-more y in let z = ap one_if n in omega arith) ];
    }
      where
        one-more : (y : Message) → there new y ≡ one_if (same r.order y l.message) + there old y
        one-more y =
            let g = times-append r.order O y old.flow.queue (messages_of old.done) in
            let h = times-append r.order O y new.flow.queue (messages_of new.done) in
            let i = times-permutation r.order y (m ∷ (messages_of late ++ old.flow.queue)) new.flow.queue c.queue in
            let j = times-append r.order O y (messages_of late) old.flow.queue in
            let d = done-was y in
            omega arith

        here : CountsBeside r.order new l.message
        here = record {
          more = λ i. let t = one-more l.message in let w = ap one_if (same-refl r.order O m) in omega arith;
          less = λ i. absurd (let e = c.extra l.message in let n = c.beside in omega (arith, ints));
        }

    -- its message goes, and counts no more beside
    one-goes : (extra : HaveSameCounts r.order new.flow.extra old.flow.extra) → l.sign ≡ Minus → signed_count r.order l.message old.flow.extra ≤ℤ pos 0 →
        ((y : Message) → there old y ≡ one_if (same r.order y l.message) + there new y) → Adds
    one-goes extra sign not_more less = record {
      counts = λ y.
          let p0 = all-pluses r O V y old in let p1 = all-pluses r O V y new in
          let m0 = all-minuses r O V y old in let m1 = all-minuses r O V y new in
          let t = less y in
          let e = extra y in
          let u = minus-adds r l (counted old) y sign in let u0 = u.0 in let u1 = u.1 in
          counts-from y (omega (arith, ints));
      beside = λ y. elim (same_cases r.order O y m) [
        | inl i ↦ subst (CountsBeside r.order new) (sym i) here
        | inr n ↦ others-beside y (let t = less y in let z = ap one_if n in omega arith) (extra y)
      ];
      was_there = λ y i. inr (let t = less y in omega arith);
    }
      where
        here : CountsBeside r.order new l.message
        here = record {
          more = λ i. absurd (let e = extra l.message in let n = not_more in omega (arith, ints));
          less = λ i. absurd (let e = extra l.message in let t = less l.message in let w = ap one_if (same-refl r.order O m) in let j = (b l.message).less (omega (arith, ints)) in omega arith);
        }

    leaves-queue : LeavesQueue r.order l late old new → Adds
    leaves-queue c = one-goes c.extra c.sign c.beside (λ y.
        let g = times-append r.order O y old.flow.queue (messages_of old.done) in
        let h = times-append r.order O y new.flow.queue (messages_of new.done) in
        let i = times-permutation r.order y old.flow.queue (m ∷ new.flow.queue) c.queue in
        let d = done-was y in
        let z = ap (λ z. times_in r.order y (messages_of z)) c.none in
        omega arith)

    is-undone : IsUndone r.order l late old new → Adds
    is-undone c = one-goes c.extra c.sign c.beside (λ y.
        let g = times-append r.order O y old.flow.queue (messages_of old.done) in
        let h = times-append r.order O y new.flow.queue (messages_of new.done) in
        let i = times-permutation r.order y (messages_of late ++ old.flow.queue) (m ∷ new.flow.queue) c.queue in
        let j = times-append r.order O y (messages_of late) old.flow.queue in
        let d = done-was y in
        omega arith)

    pub adds : Adds
    adds = go a.counts
      where
        go : CountsMore r.order l late old new ⊎ (JoinsQueue r.order l late old new ⊎ (LeavesQueue r.order l late old new ⊎ IsUndone r.order l late old new)) → Adds
        go (inl c) = counts-more c
        go (inr (inl c)) = joins-queue c
        go (inr (inr (inl c))) = leaves-queue c
        go (inr (inr (inr c))) = is-undone c
