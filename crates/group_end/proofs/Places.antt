-- Each group stays in its place.
use Rattle.std.proofs.Common.{◌≡◌, ℕ, ◌+◌, ◌<◌, inl, inr, List, [], ◌∷◌, length, Some, refl, arith, set, slice_get, sym, ap, ◌∙◌, subst}
use Rattle.std.proofs.lemmas.Bool.{cases_eq}
use Rattle.std.proofs.lemmas.Option.{slice_get_within}
use Rattle.vlink.specs.declared.message.Message.{Message}
use Rattle.virtual_time.specs.Law.{IsIn, IsOrder, Order}
use Rattle.virtual_time.proofs.Lists.{in-head}
use Rattle.group_queues.specs.DoneEvents.{DoneEvent, messages_of}
use Rattle.group_hand.proofs.FirstEvent.{set-here, set-there}
use Rattle.group_exchange.specs.Views.{GroupState}
use Rattle.group_end.specs.Together.{AreInPlace, AreOver, HasRested, HaveRested, OnlyRowsLeft}

pub places-set : {S K : Type 0} (groups : List (GroupState S K)) (place : ℕ) (old new : GroupState S K) → AreInPlace groups → slice_get groups place ≡ Some old → new.number ≡ old.number →
    AreInPlace (set groups place new)
places-set groups place old new a e n g group k = elim (cases_eq g place) [
  | inl h ↦ (
      let there = subst (λ i. slice_get (set groups place new) i ≡ Some group) h k in
      let here = set-here groups place new old e in
      let same : new ≡ group = cc in
      ap (λ (z : GroupState _ _). z.number) (sym same) ∙ (n ∙ (a place old e ∙ sym h)))
  | inr h ↦ a g group (sym (set-there groups place g new h) ∙ k)
]

-- one more has rested
pub rested-set : {S K : Type 0} (o : Order Message) (until gvt : ℕ) (groups : List (GroupState S K)) (place : ℕ) (old new : GroupState S K) →
    HaveRested o until gvt place groups → slice_get groups place ≡ Some old → HasRested o until gvt new → HaveRested o until gvt (place + 1) (set groups place new)
rested-set o until gvt groups place old new a e n g i group k = elim (cases_eq g place) [
  | inl h ↦ (
      let there = subst (λ i. slice_get (set groups place new) i ≡ Some group) h k in
      let here = set-here groups place new old e in
      let same : new ≡ group = cc in
      subst (λ z. HasRested o until gvt z) same n)
  | inr h ↦ a g (omega arith) group (sym (set-there groups place g new h) ∙ k)
]

nothing-done : {K : Type 0} (o : Order Message) → IsOrder o → (ds : List (DoneEvent K)) → ((m : Message) → IsIn o m (messages_of ds) → ⊥) → ds ≡ []
nothing-done o O [] h = refl
nothing-done o O (d ∷ ds) h = absurd (h d.message (in-head o O d.message (messages_of ds)))

-- where they have seen a GVT beyond the end, it is over
pub all-over : {S K : Type 0} (o : Order Message) → IsOrder o → (until gvt : ℕ) → until < gvt → (groups : List (GroupState S K)) → HaveRested o until gvt (length groups) groups → AreOver until groups
all-over o O until gvt late groups a g group e =
    let r = a g (slice_get_within groups g group e) group e in
    record {
      words = r.words;
      seen = let s = r.seen in omega arith;
      done = nothing-done o O group.held.done (λ m i. let x = r.late m i in let y = r.in_time m i in omega arith);
    }

-- a group that has rested still has when rows leave it
pub rested-left : {S K : Type 0} (o : Order Message) (until gvt : ℕ) (old new : GroupState S K) → OnlyRowsLeft old new → HasRested o until gvt old → HasRested o until gvt new
rested-left o until gvt old new left r =
    subst (HasRested o until gvt) (sym left) (record { words = r.words; seen = r.seen; late = r.late; in_time = r.in_time })
