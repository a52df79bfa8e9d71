-- Where no done event can be committed any more, none is earlier than the GVT that the group saw; and which process wants numbers.
use Rattle.std.proofs.Common.{◌≡◌, ◌≢◌, ℕ, ◌+◌, ◌<◌, ◌≤◌, inl, inr, Bool, true, false, All, Contains, IfSome, List, [], ◌∷◌, ◌++◌, Some, is_some, pos, slice_get, refl, sym, ap, ◌∙◌, subst, arith}
use Rattle.std.proofs.lemmas.Bool.{both_ways, cases_lt}
use Rattle.std.proofs.lemmas.Int.{ints}
use Rattle.std.proofs.lemmas.List.Elements.{All-cons, All-nil}
use Rattle.vlink.specs.declared.message.Message.{Message}
use Rattle.vlink.specs.Order.{message_order}
use Rattle.vlink.specs.Numbering.{greatest_number}
use Rattle.virtual_time.specs.Law.{IsOrder, World, IsAscending, IsIn, IsSafeGroup, done_by, in_hand, minuses, next_of, pluses, reached, times_in}
use Rattle.virtual_time.specs.declared.step.Step.{Step}
use Rattle.virtual_time.proofs.Ascending.{ascending-once}
use Rattle.virtual_time.proofs.Letters.{received-mine}
use Rattle.virtual_time.proofs.Lists.{in-cons, in-head, times-append}
use Rattle.virtual_time.proofs.Order.{less-time, not_less-time}
use Rattle.reverse.specs.Plain.{Plain}
use Rattle.reverse.specs.Rules.{is_before, rules_of}
use Rattle.reverse.specs.Setting.{Setting, simulation_of}
use Rattle.reverse.specs.declared.sends.Sends.{Sends}
use Rattle.reverse.proofs.Members.{in-all}
use Rattle.antimessages.specs.Counting.{signed_count}
use Rattle.group_queues.specs.Block.{steps_told}
use Rattle.group_queues.specs.DoneEvents.{done_events_at, done_events_of, messages_of}
use Rattle.group_hand.specs.Handling.{FirstLacksNumbers}
use Rattle.group_hand.specs.Hands.{Held, IsAsBefore, IsMember, StandsForGroup, StaysDone, counted, is_ours}
use Rattle.group_queues.specs.Sealing.{Stays}
use Rattle.group_queues.proofs.Among.{contains-in, none-among}
use Rattle.group_hand.proofs.Going.{held-is}
use Rattle.group_hand.proofs.Member.{all-minuses, all-pluses, done-times, messages-of, next-here, present-here}
use Rattle.group_exchange.specs.Views.{world_after}
use Rattle.group_exchange.specs.Keeps.{Holds}
use Rattle.group_exchange.specs.Effects.{IsShort, WantsNumbers}
use Rattle.reverse.specs.declared.sends.TheConstants.{MOST_SENT}

-- what holds of each message in a list
each-in : IsOrder message_order → (P : Message → Type 0) (ms : List Message) → ((y : Message) → IsIn message_order y ms → P y) → All P ms
each-in O P [] p = All-nil P
each-in O P (m ∷ ms) p = All-cons P m ms (p m (in-head message_order O m ms)) (each-in O P ms (λ y i. p y (omega arith)))

module _ {S K : Type 0} (plain : Plain S Message Sends K) (O : IsOrder message_order) (V : S → Message → Type 0) (x : Setting S) (v : World Message S) (h : Held S K) (stands : StandsForGroup (rules_of plain) V x v h) where
  -- a message that is there is of a member
  at : (m : Message) → IsIn message_order m (h.flow.queue ++ messages_of h.done) → (s : S) × (slice_get h.members m.receiver ≡ Some (Some s))
  at m i = held-is (slice_get h.members m.receiver) (stands.home m i)

  its : (m : Message) (i : IsIn message_order m (h.flow.queue ++ messages_of h.done)) → IsMember (rules_of plain) V (x.opening m.receiver) m.receiver (v.parts m.receiver) (at m i).0 h
  its m i = stands.members m.receiver (at m i).0 (at m i).1

  waits : (m : Message) → IsIn message_order m h.flow.queue → IsIn message_order m (h.flow.queue ++ messages_of h.done)
  waits m i = let a = times-append message_order O m h.flow.queue (messages_of h.done) in omega arith

  module _ (ours : ℕ → Bool) (mine : (p : ℕ) → is_ours h.members p ≡ ours p) (g : ℕ) (safe : IsSafeGroup (simulation_of (rules_of plain) x) ours g v) where
    -- the first done event is not earlier than the moment, if it stays
    first-late : (m : Message) (rest : List Message) → messages_of h.done ≡ m ∷ rest → Stays g h.flow m → g ≤ m.time
    first-late m rest e stays = elim (cases_lt m.time g) [ inl early ↦ absurd (go early stays) | inr late ↦ late ]
      where
        up : IsAscending message_order (m ∷ rest)
        up = subst (λ ms. IsAscending message_order ms) e stands.ascending

        is-done : IsIn message_order m (messages_of h.done)
        is-done = subst (λ ms. IsIn message_order m ms) (sym e) (in-head message_order O m rest)

        there : IsIn message_order m (h.flow.queue ++ messages_of h.done)
        there = let a = times-append message_order O m h.flow.queue (messages_of h.done) in let b = is-done in omega arith

        of-ours : (y : Message) → IsIn message_order y (h.flow.queue ++ messages_of h.done) → ours y.receiver ≡ true
        of-ours y i = sym (mine y.receiver) ∙ stands.home y i

        counts : m.time < g → (times_in message_order m h.flow.queue ≡ 0) × (signed_count message_order m h.flow.extra ≡ pos 0)
        counts early =
            let k = its m there in
            let here : IsIn message_order m (v.parts m.receiver).done =
            (let a = done-times (rules_of plain) O V (x.opening m.receiver) m.receiver (v.parts m.receiver) (at m there).0 h stands.beside k m refl in let b = is-done in omega arith) in
            let one = (safe.parts m.receiver (of-ours m there)).counts_one m here early in
            let same-counts = k.counts m in
            let r = received-mine message_order O m.receiver m refl (counted h) in
            let a = all-pluses (rules_of plain) O V m h in
            let b = all-minuses (rules_of plain) O V m h in
            let c = times-append message_order O m h.flow.queue (messages_of h.done) in
            let d = ascending-once message_order O m (messages_of h.done) stands.ascending in
            let i = is-done in
            let less : minuses message_order m h.flow.extra ≤ pluses message_order m h.flow.extra =
            elim (cases_lt (pluses message_order m h.flow.extra) (minuses message_order m h.flow.extra)) [
              | inl n ↦ absurd (let z = (stands.beside m).less n in omega arith)
              | inr n ↦ n
            ] in
            let r0 = r.0 in
            let r1 = r.1 in
            (omega (arith, ints), omega (arith, ints))

        go : m.time < g → Stays g h.flow m → ⊥
        go early (inl late) = omega arith
        go early (inr (inl n)) = n (counts early).1
        go early (inr (inr n)) =
            let y = n.0 in
            let waiting = contains-in O h.flow.queue y n.1 in
            let i = waits y waiting in
            let k = its y i in
            let present = present-here (rules_of plain) O V (x.opening y.receiver) y.receiver (v.parts y.receiver) (at y i).0 h stands.beside k y refl i in
            let times = done-times (rules_of plain) O V (x.opening y.receiver) y.receiver (v.parts y.receiver) (at y i).0 h stands.beside k y refl in
            elim (cases_lt 0 (times_in message_order y (messages_of h.done))) [
              | inl done ↦ elim (in-cons message_order O y m rest (subst (λ ms. IsIn message_order y ms) e done)) [
                | inl same-one ↦ (let a = (counts early).0 in let b : IsIn message_order m h.flow.queue = subst (λ z. IsIn message_order z h.flow.queue) same-one waiting in omega arith)
                | inr behind ↦ both_ways (message_order.less m y) n.2 (up.0 y behind)
              ]
              | inr none ↦ (let late = (safe.parts y.receiver (of-ours y i)).unhandled y present (omega arith) in let a = not_less-time message_order O m y n.2 in omega arith)
            ]

    -- so none is
    pub all-late : StaysDone g h → All (λ m. g ≤ m.time) (messages_of h.done)
    all-late = go (messages_of h.done) refl
      where
        go : (ms : List Message) → messages_of h.done ≡ ms → IfSome (slice_get ms 0) (Stays g h.flow) → All (λ m. g ≤ m.time) ms
        go [] e s = All-nil (λ (m : Message). g ≤ m.time)
        go (m ∷ rest) e s =
            let first = first-late m rest e s in
            let up = subst (λ ms. IsAscending message_order ms) e stands.ascending in
            each-in O (λ y. g ≤ y.time) (m ∷ rest) (λ y i. elim (in-cons message_order O y m rest i) [
              | inl k ↦ subst (λ (z : Message). g ≤ z.time) (sym k) first
              | inr j ↦ (let a = less-time message_order O m y (up.0 y j) in omega arith)
            ])

  -- where the group has no done event, no process of it has
  pub none-done : h.done ≡ [] → (p : ℕ) → is_ours h.members p ≡ true → (v.parts p).done ≡ []
  none-done none p t =
      let m = held-is (slice_get h.members p) t in
      let e : [] ≡ done_events_of (rules_of plain) (reached (rules_of plain) (x.opening p) (v.parts p).committed) (v.parts p).done =
      ap (done_events_at message_order p) (sym none) ∙ (stands.members p m.0 m.1).done in
      sym (ap messages_of e ∙ messages-of (rules_of plain) O V (reached (rules_of plain) (x.opening p) (v.parts p).committed) (v.parts p).done)

  -- the first message of the queue, where it is not done, is what its receiver handles next
  pub next-first : (m : Message) → Contains h.flow.queue m → All (λ y. is_before y m ≡ false) h.flow.queue → (IsAscending message_order (messages_of h.done) → All (λ y. y ≢ m) (messages_of h.done)) →
      next_of message_order (v.parts m.receiver) ≡ Some m
  next-first m c before new =
      let i = contains-in O h.flow.queue m c in
      let t = waits m i in
      next-here (rules_of plain) O V (x.opening m.receiver) m.receiver (v.parts m.receiver) (at m t).0 h stands.beside (its m t) m refl i
      (none-among O (messages_of h.done) m (new stands.ascending)) (λ y j. in-all message_order O (λ z. is_before z m ≡ false) y h.flow.queue before j)

  -- and wants numbers, where it has too few
  pub wants : (m : Message) → Contains h.flow.queue m → All (λ y. is_before y m ≡ false) h.flow.queue → (IsAscending message_order (messages_of h.done) → All (λ y. y ≢ m) (messages_of h.done)) →
      ((s : S) → slice_get h.members m.receiver ≡ Some (Some s) → greatest_number < plain.counter s + MOST_SENT) →
      (is_ours h.members m.receiver ≡ true) × WantsNumbers (simulation_of (rules_of plain) x) [] (v.parts m.receiver)
  wants m c before new few =
      let t = waits m (contains-in O h.flow.queue m c) in
      let k = its m t in (
        stands.home m t,
        (ap is_some (next-first m c before new), subst (λ s. greatest_number < plain.counter s + MOST_SENT) (sym k.state) (few (at m t).0 (at m t).1)),
      )

-- where the first message of a group is not handled for want of numbers, its receiver wants them
pub is-short : {S K : Type 0} {plain : Plain S Message Sends K} {number end : S → ℕ} {is_placed : S → Type 0} {x : Setting S} {owners : List ℕ} {V : S → Message → Type 0} {groups g seen : ℕ} {last : List Step} {h : Held S K} →
    Holds (rules_of plain) number end is_placed x owners V groups g seen last h → IsOrder message_order → (new : Held S K) → IsAsBefore h new →
    FirstLacksNumbers (λ s. plain.counter s) h → (gone : ℕ) →
    IsShort (simulation_of (rules_of plain) x) owners (record { number = g; held = new; last = last; seen = seen; gone = gone })
is-short {plain = plain} {x = x} {owners = owners} {V = V} {seen = seen} {last = last} {h = h} old O new a e gone =
    let f = simulation_of (rules_of plain) x in
    let begun = in_hand f seen (world_after f last) in
    let s = wants plain O V x (done_by f (steps_told h.flow.words) begun) h old.stands e.0 e.1 e.2 e.3 e.4 in (
      e.0.receiver,
      sym (old.ours e.0.receiver) ∙ s.0,
      subst (λ ds. WantsNumbers f owners ((done_by f (steps_told ds) begun).parts e.0.receiver)) (sym (ap (λ (z : Held _ _). z.flow.words) a)) s.1,
    )
