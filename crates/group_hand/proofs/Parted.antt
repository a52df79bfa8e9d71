-- Done events in two parts: those that come before a message, and those that do not.
use Rattle.std.proofs.Common.{◌≡◌, ℕ, ◌==◌, inl, inr, Bool, true, false, not, cond, List, [], ◌∷◌, ◌++◌, filter, All, refl, sym, ap, ◌∙◌, subst, arith, append-nil, eq-eqb, ne_eqb, eqb-true}
use Rattle.std.proofs.lemmas.List.Elements.{filter-append}
use Rattle.vlink.specs.declared.message.Message.{Message}
use Rattle.vlink.specs.declared.note.Note.{Note}
use Rattle.virtual_time.specs.Law.{Rules, IsOrder, IsIn, IsAscending, times_in}
use Rattle.virtual_time.proofs.Order.{not_less-cases}
use Rattle.virtual_time.proofs.Lists.{in-cons, in-filter, times-append}
use Rattle.virtual_time.proofs.Ascending.{ascending-filter, ascending-append, ascending-left, ascending-across}
use Rattle.reverse.proofs.Members.{in-all}
use Rattle.antimessages.specs.Counting.{is_after, newest_of}
use Rattle.antimessages.proofs.Newest.{after-all}
use Rattle.group_queues.specs.DoneEvents.{DoneEvent, done_events_at, messages_of}
use Rattle.group_queues.proofs.Shares.{messages-append}

module _ {S K : Type 0} (r : Rules Message S K Note) (O : IsOrder r.order) where
  -- those of other processes than p
  abbrev pub not_at : ℕ → List (DoneEvent K) → List (DoneEvent K)
  not_at p ds = filter (λ d. not (r.order.receiver d.message == p)) ds

  pub messages-filter : (f : Message → Bool) (ds : List (DoneEvent K)) → messages_of (filter (λ d. f d.message) ds) ≡ filter f (messages_of ds)
  messages-filter f [] = refl
  messages-filter f (d ∷ ds) = go (f d.message) (messages-filter f ds)
    where
      go : (b : Bool) → messages_of (filter (λ d. f d.message) ds) ≡ filter f (messages_of ds) →
          messages_of (cond b (d ∷ filter (λ d. f d.message) ds) (filter (λ d. f d.message) ds)) ≡ cond b (d.message ∷ filter f (messages_of ds)) (filter f (messages_of ds))
      go true e = ap (λ z. d.message ∷ z) e
      go false e = e

  in-part : (f : Message → Bool) (ds : List (DoneEvent K)) (y : Message) → IsIn r.order y (messages_of (filter (λ d. f d.message) ds)) → IsIn r.order y (messages_of ds)
  in-part f ds y i = (in-filter r.order O f y (messages_of ds) (subst (IsIn r.order y) (messages-filter f ds) i)).1

  at-append : (q : ℕ) (xs ys : List (DoneEvent K)) → done_events_at r.order q (xs ++ ys) ≡ done_events_at r.order q xs ++ done_events_at r.order q ys
  at-append q xs ys = filter-append (λ d. r.order.receiver d.message == q) xs ys

  pub none-at : (p : ℕ) (ds : List (DoneEvent K)) → done_events_at r.order p (not_at p ds) ≡ []
  none-at p [] = refl
  none-at p (d ∷ ds) = go (r.order.receiver d.message == p) refl (none-at p ds)
    where
      go : (b : Bool) → (r.order.receiver d.message == p) ≡ b → done_events_at r.order p (not_at p ds) ≡ [] → done_events_at r.order p (cond (not b) (d ∷ not_at p ds) (not_at p ds)) ≡ []
      go true h e = e
      go false h e = ap (λ b. cond b (d ∷ done_events_at r.order p (not_at p ds)) (done_events_at r.order p (not_at p ds))) h ∙ e

  same-at : (p q : ℕ) → (q ≡ p → ⊥) → (ds : List (DoneEvent K)) → done_events_at r.order q (not_at p ds) ≡ done_events_at r.order q ds
  same-at p q n [] = refl
  same-at p q n (d ∷ ds) = go (r.order.receiver d.message == p) refl (same-at p q n ds)
    where
      go : (b : Bool) → (r.order.receiver d.message == p) ≡ b → done_events_at r.order q (not_at p ds) ≡ done_events_at r.order q ds →
          done_events_at r.order q (cond (not b) (d ∷ not_at p ds) (not_at p ds)) ≡ cond (r.order.receiver d.message == q) (d ∷ done_events_at r.order q ds) (done_events_at r.order q ds)
      go true h e = e ∙ ap (λ b. cond b (d ∷ done_events_at r.order q ds) (done_events_at r.order q ds)) (sym (ne_eqb (r.order.receiver d.message) q (λ k. n (sym k ∙ eqb-true _ _ h))))
      go false h e = ap (λ z. cond (r.order.receiver d.message == q) (d ∷ z) z) e

  ascending-right : (xs ys : List Message) → IsAscending r.order (xs ++ ys) → IsAscending r.order ys
  ascending-right [] ys h = h
  ascending-right (x ∷ xs) ys h = ascending-right xs ys h.1

  module _ (front behind : List (DoneEvent K)) (m : Message) where
    abbrev p : ℕ
    p = r.order.receiver m

    -- those behind that are of the receiver go, and the others stay
    pub parted-mine : done_events_at r.order (r.order.receiver m) (front ++ behind)
        ≡ done_events_at r.order (r.order.receiver m) (front ++ not_at (r.order.receiver m) behind) ++ done_events_at r.order (r.order.receiver m) behind
    parted-mine =
        at-append p front behind ∙
        ap (λ z. z ++ done_events_at r.order p behind)
        (sym (at-append p front (not_at p behind) ∙ (ap (λ z. done_events_at r.order p front ++ z) (none-at p behind) ∙ append-nil (done_events_at r.order p front))))

    pub parted-kept : (q : ℕ) → (q ≡ r.order.receiver m → ⊥) → done_events_at r.order q (front ++ not_at (r.order.receiver m) behind) ≡ done_events_at r.order q (front ++ behind)
    parted-kept q n = at-append q front (not_at p behind) ∙ (ap (λ z. done_events_at r.order q front ++ z) (same-at p q n behind) ∙ sym (at-append q front behind))

    module _ (up : IsAscending r.order (messages_of (front ++ behind))) where
      halves-up : IsAscending r.order (messages_of front ++ messages_of behind)
      halves-up = subst (IsAscending r.order) (messages-append front behind) up

      pub parted-ascending : IsAscending r.order (messages_of (front ++ not_at (r.order.receiver m) behind))
      parted-ascending =
          subst (IsAscending r.order) (sym (messages-append front (not_at p behind)))
          (ascending-append r.order O (messages_of front) (messages_of (not_at p behind)) (ascending-left r.order O (messages_of front) (messages_of behind) halves-up)
          (subst (IsAscending r.order) (sym (messages-filter (λ y. not (r.order.receiver y == p)) behind))
          (ascending-filter r.order O (λ y. not (r.order.receiver y == p)) (messages_of behind) (ascending-right (messages_of front) (messages_of behind) halves-up)))
          (λ a b i j. ascending-across r.order O (messages_of front) (messages_of behind) halves-up a b i (in-part (λ y. not (r.order.receiver y == p)) behind b j)))

      module _ (early : is_after r.order (newest_of (messages_of front)) m ≡ true) where
        front-before : (y : Message) → IsIn r.order y (messages_of front) → r.order.less y m ≡ true
        front-before y i = after-all r O (messages_of front) m (ascending-left r.order O (messages_of front) (messages_of behind) halves-up) early y i

        -- what the receiver still has comes before the message
        pub parted-left : (y : Message) → IsIn r.order y (messages_of (done_events_at r.order (r.order.receiver m) (front ++ not_at (r.order.receiver m) behind))) → r.order.less y m ≡ true
        parted-left y i =
            front-before y (in-part (λ z. r.order.receiver z == p) front y
            (subst (λ z. IsIn r.order y (messages_of z))
            (at-append p front (not_at p behind) ∙ (ap (λ z. done_events_at r.order p front ++ z) (none-at p behind) ∙ append-nil (done_events_at r.order p front))) i))

        -- the message's own event between both parts, where it is in none of them
        pub between-ascending : All (λ y. r.order.less y m ≡ false) (messages_of behind) → times_in r.order m (messages_of (front ++ behind)) ≡ 0 →
            (d : DoneEvent K) → d.message ≡ m → IsAscending r.order (messages_of (front ++ d ∷ behind))
        between-ascending late none d e =
            subst (IsAscending r.order) (sym (messages-append front (d ∷ behind) ∙ ap (λ z. messages_of front ++ z ∷ messages_of behind) e))
            (ascending-append r.order O (messages_of front) (m ∷ messages_of behind) (ascending-left r.order O (messages_of front) (messages_of behind) halves-up)
            (after, ascending-right (messages_of front) (messages_of behind) halves-up)
            (λ a b i j. elim (in-cons r.order O b m (messages_of behind) j) [
              | inl k ↦ subst (λ z. r.order.less a z ≡ true) (sym k) (front-before a i)
              | inr k ↦ ascending-across r.order O (messages_of front) (messages_of behind) halves-up a b i k
            ]))
          where
            after : (y : Message) → IsIn r.order y (messages_of behind) → r.order.less m y ≡ true
            after y i = elim (not_less-cases r.order O y m (in-all r.order O (λ z. r.order.less z m ≡ false) y (messages_of behind) late i)) [
              | inl k ↦ absurd (let j = subst (λ z. IsIn r.order z (messages_of behind)) (sym k) i in
                  let a = times-append r.order O m (messages_of front) (messages_of behind) in let b = ap (times_in r.order m) (messages-append front behind) in omega arith)
              | inr k ↦ k
            ]

    -- those that were undone do not come before the message
    pub parted-late : All (λ y. r.order.less y m ≡ false) (messages_of behind) → (y : Message) → IsIn r.order y (messages_of (done_events_at r.order (r.order.receiver m) behind)) → r.order.less y m ≡ false
    parted-late late y i = in-all r.order O (λ z. r.order.less z m ≡ false) y (messages_of behind) late (in-part (λ z. r.order.receiver z == p) behind y i)

    -- the message's own event is the last of its receiver, where none behind is of it; and those of others stay
    pub between-mine : done_events_at r.order (r.order.receiver m) behind ≡ [] → (d : DoneEvent K) → d.message ≡ m →
        done_events_at r.order (r.order.receiver m) (front ++ d ∷ behind) ≡ done_events_at r.order (r.order.receiver m) (front ++ behind) ++ d ∷ []
    between-mine none d e =
        at-append p front (d ∷ behind) ∙
        (ap (λ b. done_events_at r.order p front ++ cond b (d ∷ done_events_at r.order p behind) (done_events_at r.order p behind)) (eq-eqb (r.order.receiver d.message) p (ap r.order.receiver e)) ∙
        (ap (λ z. done_events_at r.order p front ++ d ∷ z) none ∙
        sym (ap (λ z. z ++ d ∷ []) (at-append p front behind ∙ (ap (λ z. done_events_at r.order p front ++ z) none ∙ append-nil (done_events_at r.order p front))))))

    pub between-kept : (d : DoneEvent K) → d.message ≡ m → (q : ℕ) → (q ≡ r.order.receiver m → ⊥) → done_events_at r.order q (front ++ d ∷ behind) ≡ done_events_at r.order q (front ++ behind)
    between-kept d e q n =
        at-append q front (d ∷ behind) ∙
        (ap (λ b. done_events_at r.order q front ++ cond b (d ∷ done_events_at r.order q behind) (done_events_at r.order q behind)) (ne_eqb (r.order.receiver d.message) q (λ k. n (sym k ∙ ap r.order.receiver e))) ∙
        sym (at-append q front behind))
