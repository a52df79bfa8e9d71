-- What is left where a member rolled back.
use Rattle.std.proofs.Common.{◌≡◌, ℕ, ◌+◌, ◌==◌, ◌⊎◌, inl, inr, Bool, true, false, not, cond, List, [], ◌∷◌, ◌++◌, Some, length, reverse, slice_get, refl, sym, ap, ◌∙◌, subst, arith, append-nil, length-append, eq-eqb}
use Rattle.std.proofs.lemmas.Bool.{both_ways, cases_eq}
use Rattle.std.proofs.lemmas.List.{reverse-reverse, length-reverse}
use Rattle.vlink.specs.declared.message.Message.{Message}
use Rattle.vlink.specs.declared.note.Note.{Note}
use Rattle.virtual_time.specs.Law.{Rules, IsOrder, IsAscending, IsIn}
use Rattle.virtual_time.proofs.Lists.{in-append, in-filter_from}
use Rattle.virtual_time.proofs.Ascending.{ascending-left}
use Rattle.antimessages.proofs.Newest.{after-all}
use Rattle.group_hand.specs.Arriving.{sent_by}
use Rattle.group_queues.specs.DoneEvents.{DoneEvent, done_events_at, messages_of, sent_in}
use Rattle.group_hand.specs.Undoing.{Retreat, RolledBack, CameTo, CameBy, Settled, others_at}
use Rattle.group_queues.specs.declared.tray.Way.{Way}
use Rattle.group_queues.specs.declared.tray.Way.TheVariants.{Beside, Joins, Leaves, Undoes}
use Rattle.group_queues.proofs.Shares.{messages-append}
use Rattle.group_hand.proofs.Parted.{messages-filter, parted-kept, none-at}
use Rattle.group_hand.proofs.Origin.{at-append}
use Rattle.group_hand.proofs.Rooms.{sent_in-append}

module _ {K : Type 0} where
  sent_in-by : (ds : List (DoneEvent K)) → length (sent_by ds) ≡ sent_in ds
  sent_in-by [] = refl
  sent_in-by (d ∷ ds) = length-append d.sent (sent_by ds) ∙ ap (λ n. length d.sent + n) (sent_in-by ds)

module _ {S K : Type 0} (r : Rules Message S K Note) (O : IsOrder r.order) (V : S → Message → Type 0) where
  -- each event is of p or of the others
  sent-both : (p : ℕ) (ds : List (DoneEvent K)) → sent_in (done_events_at r.order p ds) + sent_in (others_at r.order p ds) ≡ sent_in ds
  sent-both p [] = refl
  sent-both p (d ∷ ds) = go (r.order.receiver d.message == p) (sent-both p ds)
    where
      go : (b : Bool) → sent_in (done_events_at r.order p ds) + sent_in (others_at r.order p ds) ≡ sent_in ds →
          sent_in (cond b (d ∷ done_events_at r.order p ds) (done_events_at r.order p ds)) + sent_in (cond (not b) (d ∷ others_at r.order p ds) (others_at r.order p ds)) ≡ length d.sent + sent_in ds
      go true e = omega arith
      go false e = omega arith

  module _ (m : Message) (start now : Retreat S K) (b : RolledBack r m start now) where
    abbrev late : List (DoneEvent K)
    late = done_events_at r.order (r.order.receiver m) b.rolled.behind

    pub done-is : now.done ≡ b.front ++ others_at r.order (r.order.receiver m) b.rolled.behind
    done-is = b.done ∙ ap (λ z. b.front ++ z) (ap reverse b.rolled.aside ∙ reverse-reverse (others_at r.order (r.order.receiver m) b.rolled.behind))

    split : messages_of start.done ≡ messages_of b.front ++ messages_of b.rolled.behind
    split = ap messages_of b.rolled.done ∙ messages-append b.front b.rolled.behind

    -- where the message itself was done, it was undone
    pub is-late : IsAscending r.order (messages_of start.done) → IsIn r.order m (messages_of start.done) → IsIn r.order m (messages_of (done_events_at r.order (r.order.receiver m) b.rolled.behind))
    is-late up i =
        subst (IsIn r.order m) (sym (messages-filter r O (λ z. r.order.receiver z == r.order.receiver m) b.rolled.behind))
        (in-filter_from r.order O (λ z. r.order.receiver z == r.order.receiver m) m (messages_of b.rolled.behind) (eq-eqb (r.order.receiver m) (r.order.receiver m) refl)
        (elim (in-append r.order O m (messages_of b.front) (messages_of b.rolled.behind) (subst (IsIn r.order m) split i)) [
          | inl j ↦ absurd (both_ways _ (O.irreflexive m)
              (after-all r O (messages_of b.front) m (ascending-left r.order O (messages_of b.front) (messages_of b.rolled.behind) (subst (IsAscending r.order) split up)) b.newest m j))
          | inr j ↦ j
        ]))

    -- what was sent is with those that are done, or was taken back
    pub sent-is : length now.back + sent_in now.done ≡ sent_in start.done
    sent-is =
        let a = ap length b.rolled.back ∙ (length-reverse (sent_by late) ∙ sent_in-by late) in
        let c = ap sent_in done-is ∙ sent_in-append b.front (others_at r.order (r.order.receiver m) b.rolled.behind) in
        let d = ap sent_in b.rolled.done ∙ sent_in-append b.front b.rolled.behind in
        let e = sent-both (r.order.receiver m) b.rolled.behind in
        omega arith

    left-is : done_events_at r.order (r.order.receiver m) now.done ≡ done_events_at r.order (r.order.receiver m) b.front
    left-is = ap (done_events_at r.order (r.order.receiver m)) done-is ∙ (at-append r V (r.order.receiver m) b.front (others_at r.order (r.order.receiver m) b.rolled.behind) ∙
        (ap (λ z. done_events_at r.order (r.order.receiver m) b.front ++ z) (none-at r O (r.order.receiver m) b.rolled.behind) ∙ append-nil (done_events_at r.order (r.order.receiver m) b.front)))

    -- each member came to its state by what it has done
    pub all-came : ((q : ℕ) → CameTo r V start.members start.done q) → CameTo r V now.members b.front (r.order.receiver m) → (q : ℕ) → CameTo r V now.members now.done q
    all-came before its q s i = go (cases_eq q (r.order.receiver m))
      where
        go : (q ≡ r.order.receiver m) ⊎ (q ≡ r.order.receiver m → ⊥) → CameBy r V s (done_events_at r.order q now.done)
        go (inl e) =
            subst (λ z. CameBy r V s (done_events_at r.order z now.done)) (sym e)
            (subst (CameBy r V s) (sym left-is) (its s (subst (λ z. slice_get now.members z ≡ Some (Some s)) e i)))
        go (inr n) =
            subst (CameBy r V s)
            (sym (ap (done_events_at r.order q) done-is ∙ (parted-kept r O b.front b.rolled.behind m q n ∙ ap (done_events_at r.order q) (sym b.rolled.done))))
            (before q s (sym (b.rolled.others q n) ∙ i))

  -- the same whatever became of a message
  pub settled-sent : (m : Message) (old now : Retreat S K) → old.back ≡ [] → (way : Way) → Settled r m old now way → length now.back + sent_in now.done ≡ sent_in old.done
  settled-sent m old now none Beside s = let a = ap (λ z. length z.back) s in let b = ap length none in let e = ap (λ z. sent_in z.done) s in omega arith
  settled-sent m old now none Leaves s = let a = ap (λ z. length z.back) s in let b = ap length none in let e = ap (λ z. sent_in z.done) s in omega arith
  settled-sent m old now none Joins s = sent-is m old (record now { queue = s.0 }) s.1
  settled-sent m old now none Undoes s = sent-is m old (record now { queue = s.0 }) s.1
