-- Whether the oldest done event can be committed.
use Rattle.std.proofs.Common.{◌≡◌, ℕ, ◌+◌, ◌==◌, ℤ, Bool, true, false, List, [], ◌∷◌, pos, ◌+ℤ◌, ◌-ℤ◌, Some, None, slice_get, refl, sym, ap, ◌∙◌, subst, arith}
use Rattle.std.proofs.lemmas.Bool.Decides.{nat_tests}
use Rattle.std.proofs.lemmas.Int.{ints}
use Rattle.vlink.specs.declared.message.Message.{Message}
use Rattle.vlink.specs.declared.note.Note.{Note}
use Rattle.virtual_time.specs.Law.{Rules, reached, IsIn, pluses, minuses, Part, can_commit}
use Rattle.virtual_time.proofs.Lists.{in-head}
use Rattle.virtual_time.proofs.Ascending.{ascending-once}
use Rattle.vlink.specs.Order.{message_order}
use Rattle.vlink.specs.Letters.{Letter}
use Rattle.antimessages.specs.Counting.{signed_count}
use Rattle.process_steps.specs.declared.event.Event.{Event}
use Rattle.process_queues.specs.Past.{events_of, IsPastOf}
use Rattle.process_queues.specs.Queues.{Queues, StandsFor, rows_there, with_done}
use Rattle.process_queues.proofs.Beside.{times, with_done-count}
use Rattle.process_queues.proofs.Counting.{OfMessages}
use Rattle.process_queues.proofs.Reading.{first-done}
use Rattle.process_queues.proofs.Stragglers.{done-times}

-- the count of all is one more than that of the others, and is 1
zero-one : (p q : ℕ) (k : ℤ) → pos p -ℤ pos q ≡ k +ℤ pos 1 → (p == q + 1) ≡ true → k ≡ pos 0
zero-one p q k n c = grind (arith, nat_tests, ints)

module _ {S K : Type 0} {r : Rules Message S K Note} {is_value : S → Message → Type 0} {opening : S} {part : Part Message S} {q : Queues S K}
    (h : StandsFor r is_value opening part q) where
  -- where it can be committed, there is one
  pub first-sealed : can_commit r.order part part.done ≡ true → (m : Message) × (rest : List Message) × (part.done ≡ m ∷ rest)
      × IsPastOf r is_value (reached r opening part.committed) (m ∷ rest) (rows_there r opening part q) q.past
  first-sealed can = go part.done refl can
    where
      go : (ds : List Message) → part.done ≡ ds → can_commit r.order part ds ≡ true → (m : Message) × (rest : List Message) × (part.done ≡ m ∷ rest)
          × IsPastOf r is_value (reached r opening part.committed) (m ∷ rest) (rows_there r opening part q) q.past
      go [] e c = cc
      go (m ∷ rest) e c = (m, rest, e, subst (λ ms. IsPastOf r is_value (reached r opening part.committed) ms (rows_there r opening part q) q.past) e h.past.past_of)

  pub none-sealed : slice_get q.past.done 0 ≡ None → can_commit r.order part part.done ≡ false
  none-sealed none = go (reached r opening part.committed) part.done (sym (ap (λ es. slice_get es 0) h.past.past_of.done) ∙ none)
    where
      go : (s : S) (ds : List Message) → slice_get (events_of r s ds) 0 ≡ None → can_commit r.order part ds ≡ false
      go s [] n = refl
      go s (m ∷ rest) n = cc

module _ {S K : Type 0} {r : Rules Message S K Note} (R : OfMessages r) {is_value : S → Message → Type 0} {opening : S} {part : Part Message S} {q : Queues S K}
    (h : StandsFor r is_value opening part q) (t : List Letter) (e : q.tally ≡ with_done t q.past.done) where
  -- the count of the oldest done event
  oldest-count : (m : Message) (rest : List Message) → part.done ≡ m ∷ rest → signed_count message_order m part.tally ≡ signed_count message_order m t +ℤ pos 1
  oldest-count m rest d =
      let up = ascending-once r.order R.order m part.done h.past.ascending in
      let i = subst (λ ds. IsIn r.order m ds) (sym d) (in-head r.order R.order m rest) in
      let b = done-times R h m in
      let one : times R.messages m q.past.done ≡ 1 = omega arith in
      h.counts m ∙ (ap (signed_count message_order m) e ∙ (with_done-count R.messages m t q.past.done ∙ ap (λ n. signed_count message_order m t +ℤ pos n) one))

  -- it can be committed just where nothing else of its message counts
  pub seals : (event : Event K) → slice_get q.past.done 0 ≡ Some event → (can : Bool) →
      ((all : List Letter) → signed_count message_order event.message all ≡ signed_count message_order event.message t +ℤ pos 1 →
      can ≡ (pluses message_order event.message all == minuses message_order event.message all + 1)) → can ≡ can_commit r.order part part.done
  seals event first can once =
      let m = event.message in
      let f = first-done h event first in
      once part.tally (oldest-count m f.0 f.1) ∙
      sym (ap (can_commit r.order part) f.1 ∙ ap (λ o. pluses o m part.tally == minuses o m part.tally + 1) R.order_is)

  -- and where it can be committed, nothing else does
  pub sealed-zero : (m : Message) (rest : List Message) → part.done ≡ m ∷ rest → can_commit r.order part part.done ≡ true → signed_count message_order m t ≡ pos 0
  sealed-zero m rest d can =
      let n = oldest-count m rest d in
      let k = ap (λ o. pluses o m part.tally == minuses o m part.tally + 1) (sym R.order_is) ∙ (sym (ap (can_commit r.order part) d) ∙ can) in
      zero-one _ _ _ n k
