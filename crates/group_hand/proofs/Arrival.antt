-- What the arrival of a letter makes of its receiver's part, as it is told over lists.
use Rattle.std.proofs.Common.{◌≡◌, ℕ, ◌+◌, ◌<◌, ◌≤◌, ◌⊎◌, inl, inr, Bool, true, false, not, ◌&&◌, cond, List, [], ◌∷◌, ◌++◌, map, reverse, refl, sym, ap, ◌∙◌, arith, append-nil}
use Rattle.std.proofs.lemmas.Bool.{cases_lt, both_ways, false_from_ne_true, not_from_true, not_from_false}
use Rattle.std.proofs.lemmas.Int.{ints}
use Rattle.std.proofs.lemmas.List.Elements.{filter-append}
use Rattle.vlink.specs.declared.message.Message.{Message}
use Rattle.vlink.specs.declared.note.Note.{Note}
use Rattle.vlink.specs.Letters.{Letter}
use Rattle.virtual_time.specs.declared.letter.Sign.TheVariants.{Plus, Minus}
use Rattle.virtual_time.specs.Law.{Rules, IsOrder, IsIn, times_in, IsAscending, before, from_on, one_if, same, is_plus, pluses, minuses, minus_of, is_present, is_toggled, received_by, reached, sent, undone, Part, tallied, rolled_back, arrived, arrive}
use Rattle.virtual_time.proofs.Order.{same-refl}
use Rattle.virtual_time.proofs.Lists.{times-append, in-head, filter-all, filter-none}
use Rattle.virtual_time.proofs.Ascending.{ascending-once}
use Rattle.virtual_time.proofs.Letters.{received-mine}
use Rattle.virtual_time.proofs.Presence.{present-true, present-from}
use Rattle.virtual_time.proofs.Handling.{reached-append}
use Rattle.virtual_time.proofs.Rolling.{roll-none}
use Rattle.two_lists.proofs.Counting.{times-permutation}
use Rattle.group_queues.specs.DoneEvents.{DoneEvent, done_events_at, messages_of}
use Rattle.group_hand.specs.Hands.{Held, IsMember, CountsBeside, counted}
use Rattle.group_hand.specs.Arriving.{sent_by, taken_back, undone_events, AreLate, StaysBeside, CountsMore, JoinsQueue, LeavesQueue, IsUndone, FrontArrived}
use Rattle.group_hand.proofs.Member.{all-pluses, all-minuses, done-times, present-here}
use Rattle.group_hand.proofs.Going.{received-first}
use Rattle.group_hand.proofs.LateDone.{AreHalves, halves-of, sent-events, undone-events}

module _ {S K : Type 0} (r : Rules Message S K Note) (l : Letter) (ls : List Letter) (y : Message) where
  -- what a letter adds to the counts
  pub plus-adds : l.sign ≡ Plus → (pluses r.order y (l ∷ ls) ≡ one_if (same r.order y l.message) + pluses r.order y ls) × (minuses r.order y (l ∷ ls) ≡ minuses r.order y ls)
  plus-adds e =
      let a = ap (λ z. one_if (is_plus z && same r.order y l.message)) e in
      let b = ap (λ z. one_if (not (is_plus z) && same r.order y l.message)) e in
      (omega arith, omega arith)

  pub minus-adds : l.sign ≡ Minus → (pluses r.order y (l ∷ ls) ≡ pluses r.order y ls) × (minuses r.order y (l ∷ ls) ≡ one_if (same r.order y l.message) + minuses r.order y ls)
  minus-adds e =
      let a = ap (λ z. one_if (is_plus z && same r.order y l.message)) e in
      let b = ap (λ z. one_if (not (is_plus z) && same r.order y l.message)) e in
      (omega arith, omega arith)

module _ {S K : Type 0} (r : Rules Message S K Note) (O : IsOrder r.order) (V : S → Message → Type 0) (opening : S) (part : Part Message S) (s : S) (old new : Held S K)
    (l : Letter) (rest : List Letter) (late : List (DoneEvent K)) (a : FrontArrived r l rest late old new) (b : (m : Message) → CountsBeside r.order old m)
    (k : IsMember r V opening (r.order.receiver l.message) part s old) where
  abbrev m : Message
  m = l.message

  abbrev p : ℕ
  p = r.order.receiver l.message

  abbrev left : List Letter
  left = received_by r.order p rest

  abbrev ds : List Message
  ds = messages_of (done_events_at r.order p new.done)

  abbrev es : List Message
  es = messages_of late

  abbrev base : S
  base = reached r opening part.committed

  -- the receiver afterwards, before it posts
  abbrev pub after : Part Message S
  after =
      record {
        committed = part.committed;
        done = messages_of (done_events_at r.order (r.order.receiver l.message) new.done);
        state = undone_events r late part.state;
        tally = l ∷ part.tally;
        tray = received_by r.order (r.order.receiver l.message) rest;
        outbox = taken_back late;
      }

  pub halves : AreHalves r (reached r opening part.committed) part.done (done_events_at r.order (r.order.receiver l.message) new.done) late
  halves = halves-of r base part.done (done_events_at r.order p new.done) late (sym k.done ∙ a.undone)

  pub tray-is : part.tray ≡ l ∷ left
  tray-is = k.tray ∙ (ap (received_by r.order p) a.tray ∙ received-first r.order p l rest refl)

  -- nothing is undone
  stays : late ≡ [] → tallied r l left part ≡ after
  stays none = λ j. record {
    committed = part.committed;
    done = (halves.messages ∙ (ap (λ z. ds ++ messages_of z) none ∙ append-nil ds)) j;
    state = undone_events r (sym none j) part.state;
    tally = l ∷ part.tally;
    tray = left;
    outbox = (k.outbox ∙ ap (λ z. taken_back z) (sym none)) j;
  }

  -- the late ones are undone
  rolls : AreLate r.order l late old new → rolled_back r opening m (tallied r l left part) ≡ after
  rolls h = λ j. record {
    committed = part.committed;
    done = kept j;
    state = (ap (λ z. undone r z (from_on r.order m part.done) part.state) from ∙ (ap (λ z. undone r (reached r base ds) z part.state) undone-ones ∙
        (sym (undone-events r (reached r base ds) es part.state) ∙ ap (λ z. undone_events r z part.state) (sym halves.back)))) j;
    tally = l ∷ part.tally;
    tray = left;
    outbox = (ap (λ z. z ++ map minus_of (reverse (sent r (reached r opening (part.committed ++ before r.order m part.done)) (from_on r.order m part.done)))) k.outbox ∙
        ap (λ z. map minus_of (reverse z)) sends) j;
  }
    where
      kept : before r.order m part.done ≡ ds
      kept = ap (before r.order m) halves.messages ∙ (filter-append (λ x. r.order.less x m) ds es ∙
          ((λ j. filter-all r.order O (λ x. r.order.less x m) ds h.before j ++ filter-none r.order O (λ x. r.order.less x m) es h.not_before j) ∙ append-nil ds))

      undone-ones : from_on r.order m part.done ≡ es
      undone-ones = ap (from_on r.order m) halves.messages ∙ (filter-append (λ x. not (r.order.less x m)) ds es ∙
          (λ j. filter-none r.order O (λ x. not (r.order.less x m)) ds (λ y i. not_from_true _ (h.before y i)) j ++
          filter-all r.order O (λ x. not (r.order.less x m)) es (λ y i. not_from_false _ (h.not_before y i)) j))

      from : reached r opening (part.committed ++ before r.order m part.done) ≡ reached r base ds
      from = ap (λ z. reached r opening (part.committed ++ z)) kept ∙ reached-append r opening part.committed ds

      sends : sent r (reached r opening (part.committed ++ before r.order m part.done)) (from_on r.order m part.done) ≡ sent_by late
      sends = ap (λ z. sent r z (from_on r.order m part.done)) from ∙ (ap (sent r (reached r base ds)) undone-ones ∙
          (sym (sent-events r (reached r base ds) es) ∙ ap (λ z. sent_by z) (sym halves.back)))

  by-toggle : (t : Bool) → is_toggled r.order l part.tally ≡ t → cond t (rolled_back r opening m (tallied r l left part)) (tallied r l left part) ≡ after → arrive r opening part ≡ after
  by-toggle t e h = ap (arrived r opening part) tray-is ∙ (ap (λ z. cond z (rolled_back r opening m (tallied r l left part)) (tallied r l left part)) e ∙ h)

  -- where all that the receiver has done comes before the message, nothing is undone, whether it is toggled or not
  still : late ≡ [] → ((y : Message) → IsIn r.order y part.done → r.order.less y m ≡ true) → arrive r opening part ≡ after
  still none h = go (is_toggled r.order l part.tally) refl
    where
      go : (t : Bool) → is_toggled r.order l part.tally ≡ t → arrive r opening part ≡ after
      go true e = by-toggle true e (roll-none r O opening (tallied r l left part) m h ∙ stays none)
      go false e = by-toggle false e (stays none)

  absent : (ls : List Letter) → pluses r.order m ls ≤ minuses r.order m ls → is_present r.order ls m ≡ false
  absent ls h = false_from_ne_true _ (λ t. let i = present-true r.order O ls m t in omega arith)

  toggles : (x y : Bool) → is_present r.order part.tally m ≡ x → is_present r.order (l ∷ part.tally) m ≡ y → is_toggled r.order l part.tally ≡ cond x (not y) y
  toggles x y e h = λ j. cond (e j) (not (h j)) (h j)

  -- presence does not change
  stays-present : late ≡ [] → minuses r.order m part.tally < pluses r.order m part.tally → minuses r.order m (l ∷ part.tally) < pluses r.order m (l ∷ part.tally) → arrive r opening part ≡ after
  stays-present none x y = by-toggle false (toggles true true (present-from r.order O part.tally m x) (present-from r.order O (l ∷ part.tally) m y)) (stays none)

  stays-absent : late ≡ [] → pluses r.order m part.tally ≤ minuses r.order m part.tally → pluses r.order m (l ∷ part.tally) ≤ minuses r.order m (l ∷ part.tally) → arrive r opening part ≡ after
  stays-absent none x y = by-toggle false (toggles false false (absent part.tally x) (absent (l ∷ part.tally) y)) (stays none)

  -- how often the message counts in the tally
  tally-is : pluses r.order m part.tally + minuses r.order m old.flow.extra
      ≡ minuses r.order m part.tally + (times_in r.order m old.flow.queue + times_in r.order m (messages_of old.done) + pluses r.order m old.flow.extra)
  tally-is =
      let c = k.counts m in
      let d = received-mine r.order O (r.order.receiver l.message) m refl (counted old) in
      let d0 = d.0 in let d1 = d.1 in
      let e = all-pluses r O V m old in
      let f = all-minuses r O V m old in
      let g = times-append r.order O m old.flow.queue (messages_of old.done) in
      omega (arith, ints)

  more-there : minuses r.order m old.flow.extra < pluses r.order m old.flow.extra → 0 < times_in r.order m old.flow.queue + times_in r.order m (messages_of old.done)
  more-there h = let i = (b l.message).more h in let g = times-append r.order O m old.flow.queue (messages_of old.done) in omega arith

  less-there : pluses r.order m old.flow.extra < minuses r.order m old.flow.extra → times_in r.order m old.flow.queue + times_in r.order m (messages_of old.done) ≡ 0
  less-there h = let i = (b l.message).less h in let g = times-append r.order O m old.flow.queue (messages_of old.done) in omega arith

  -- nothing counts less beside of what is there
  not-less : 0 < times_in r.order m old.flow.queue + times_in r.order m (messages_of old.done) → minuses r.order m old.flow.extra ≤ pluses r.order m old.flow.extra
  not-less h = elim (cases_lt (pluses r.order m old.flow.extra) (minuses r.order m old.flow.extra)) [ inl i ↦ absurd (let z = less-there i in omega arith) | inr i ↦ i ]

  -- a message that waits and is not done comes after all that its receiver has done
  waits-after : 0 < times_in r.order m old.flow.queue → times_in r.order m (messages_of old.done) ≡ 0 → (y : Message) → IsIn r.order y part.done → r.order.less y m ≡ true
  waits-after h z =
      k.well.done_first m
      (present-here r O V opening p part s old b k m refl (let g = times-append r.order O m old.flow.queue (messages_of old.done) in omega arith))
      (done-times r O V opening p part s old b k m refl ∙ z)

  none-late : ((y : Message) → IsIn r.order y (messages_of late) → ⊥) → late ≡ []
  none-late h = go late h
    where
      go : (xs : List (DoneEvent K)) → ((y : Message) → IsIn r.order y (messages_of xs) → ⊥) → xs ≡ []
      go [] i = refl
      go (x ∷ xs) i = absurd (i x.message (in-head r.order O x.message (messages_of xs)))

  counts-more : CountsMore r.order l late old new → arrive r opening part ≡ after
  counts-more c = go c.why
    where
      go : StaysBeside r.order l late old new → arrive r opening part ≡ after
      go (inl (sign, inl less)) =
          let t = tally-is in
          let z = less-there (omega (arith, ints, less)) in
          let u = plus-adds r l part.tally m sign in let w = ap one_if (same-refl r.order O m) in
          let u0 = u.0 in let u1 = u.1 in
          stays-absent c.none (omega (arith, ints, less)) (omega (arith, ints, less))
      go (inl (sign, inr done)) =
          let t = tally-is in
          let z = not-less (omega arith) in
          let u = plus-adds r l part.tally m sign in let w = ap one_if (same-refl r.order O m) in
          let u0 = u.0 in let u1 = u.1 in
          stays-present c.none (omega arith) (omega arith)
      go (inr (sign, inl more)) =
          let t = tally-is in
          let z = more-there (omega (arith, ints, more)) in
          let u = minus-adds r l part.tally m sign in let w = ap one_if (same-refl r.order O m) in
          let u0 = u.0 in let u1 = u.1 in
          stays-present c.none (omega (arith, ints, more)) (omega (arith, ints, more))
      go (inr (sign, inr none)) =
          let t = tally-is in
          let n0 = none.0 in let n1 = none.1 in let n2 = none.2 in
          let u = minus-adds r l part.tally m sign in let w = ap one_if (same-refl r.order O m) in
          let u0 = u.0 in let u1 = u.1 in
          stays-absent c.none (omega (arith, ints)) (omega (arith, ints))

  joins-queue : JoinsQueue r.order l late old new → arrive r opening part ≡ after
  joins-queue c = go (cases_lt 0 (times_in r.order m old.flow.queue))
    where
      go : (0 < times_in r.order m old.flow.queue) ⊎ (times_in r.order m old.flow.queue ≤ 0) → arrive r opening part ≡ after
      go (inl waits) =
          let first = waits-after waits c.not_done in
          still (none-late (λ y i. both_ways _ (c.undone.not_before y i) (first y (in-done y i)))) first
        where
          in-done : (y : Message) → IsIn r.order y (messages_of late) → IsIn r.order y part.done
          in-done y i = let e = ap (times_in r.order y) halves.messages in let g = times-append r.order O y ds es in omega arith
      go (inr none) = by-toggle true toggled (rolls c.undone)
        where
          toggled : is_toggled r.order l part.tally ≡ true
          toggled =
              let t = tally-is in
              let n = c.not_done in
              let i = c.beside in
              let u = plus-adds r l part.tally m c.sign in let w = ap one_if (same-refl r.order O m) in
              let u0 = u.0 in let u1 = u.1 in
              let z : pluses r.order m old.flow.extra ≤ minuses r.order m old.flow.extra =
              elim (cases_lt (minuses r.order m old.flow.extra) (pluses r.order m old.flow.extra)) [ inl j ↦ absurd (let y = more-there j in omega arith) | inr j ↦ j ] in
              let e : pluses r.order m part.tally ≡ minuses r.order m part.tally = omega (arith, ints) in
              toggles false true (absent part.tally (omega arith)) (present-from r.order O (l ∷ part.tally) m (omega arith))

  leaves-queue : LeavesQueue r.order l late old new → 0 < times_in r.order m old.flow.queue → arrive r opening part ≡ after
  leaves-queue c waits = go (cases_lt 0 (times_in r.order m (messages_of old.done)))
    where
      go : (0 < times_in r.order m (messages_of old.done)) ⊎ (times_in r.order m (messages_of old.done) ≤ 0) → arrive r opening part ≡ after
      go (inl done) =
          let t = tally-is in
          let z = not-less (omega arith) in
          let u = minus-adds r l part.tally m c.sign in let w = ap one_if (same-refl r.order O m) in
          let u0 = u.0 in let u1 = u.1 in
          stays-present c.none (omega arith) (omega arith)
      go (inr none) = still c.none (waits-after waits (omega arith))

  is-undone : IsUndone r.order l late old new → IsAscending r.order (messages_of old.done) → arrive r opening part ≡ after
  is-undone c up =
      let t = tally-is in
      let d = c.was_done in
      let n = c.not_waiting in
      let i = c.beside in
      let z = not-less (omega arith) in
      let o = ascending-once r.order O m (messages_of old.done) up in
      let u = minus-adds r l part.tally m c.sign in let w = ap one_if (same-refl r.order O m) in
      let u0 = u.0 in let u1 = u.1 in
      let e : pluses r.order m part.tally ≡ minuses r.order m part.tally + 1 = omega (arith, ints) in
      by-toggle true (toggles true false (present-from r.order O part.tally m (omega arith)) (absent (l ∷ part.tally) (omega arith))) (rolls c.undone)

  pub arrives-so : IsAscending r.order (messages_of old.done) → arrive r opening part ≡ after
  arrives-so up = go a.counts
    where
      go : CountsMore r.order l late old new ⊎ (JoinsQueue r.order l late old new ⊎ (LeavesQueue r.order l late old new ⊎ IsUndone r.order l late old new)) → arrive r opening part ≡ after
      go (inl c) = counts-more c
      go (inr (inl c)) = joins-queue c
      go (inr (inr (inl c))) = leaves-queue c
          (let i = times-permutation r.order m old.flow.queue (m ∷ new.flow.queue) c.queue in let e = in-head r.order O m new.flow.queue in omega arith)
      go (inr (inr (inr c))) = is-undone c up
