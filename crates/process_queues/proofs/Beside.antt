-- The letters that count, by those that are tallied beside the done events.
use Rattle.std.proofs.Common.{◌≡◌, ℕ, ◌<◌, true, List, [], ◌∷◌, ◌++◌, length, map, drop, slice_index_or, pos, ◌+ℤ◌, Option, sym, ap, ◌∙◌, arith}
use Rattle.std.proofs.lemmas.Int.{ints}
use Rattle.std.proofs.lemmas.List.{map-append}
use Rattle.vlink.specs.declared.message.Message.{Message}
use Rattle.vlink.specs.declared.note.Note.{Note}
use Rattle.virtual_time.specs.Law.{Rules, IsOrder, times_in, IsAscending, plus_of}
use Rattle.virtual_time.proofs.Letters.{pluses-append, minuses-append}
use Rattle.virtual_time.proofs.Lists.{times-append}
use Rattle.virtual_time.proofs.Ascending.{ascending-once}
use Rattle.vlink.specs.Order.{message_order}
use Rattle.vlink.specs.Letters.{Letter}
use Rattle.antimessages.specs.Counting.{signed_count, is_after, present_after, HaveSameCounts}
use Rattle.antimessages.proofs.Agreeing.{present-same_count}
use Rattle.antimessages.proofs.Following.{after-same}
use Rattle.process_steps.specs.declared.event.Event.{Event}
use Rattle.process_queues.specs.Queues.{with_done}
use Rattle.process_queues.proofs.Counting.{OfMessages}
use Rattle.process_steps.proofs.Tallied.{pluses-done, minuses-done, inside-at}

module _ (O : IsOrder message_order) {K : Type 0} where
  -- how often a message is done
  abbrev pub times : Message → List (Event K) → ℕ
  times m done = times_in message_order m (map (λ (e : Event K). e.message) done)

  -- the count of a message is that beside the done events, and how often it is done
  pub with_done-count : (m : Message) (t : List Letter) (done : List (Event K)) →
      signed_count message_order m (with_done t done) ≡ signed_count message_order m t +ℤ pos (times m done)
  with_done-count m t done =
      let a = pluses-append message_order O m t (map (λ (e : Event K). plus_of e.message) done) in
      let b = minuses-append message_order O m t (map (λ (e : Event K). plus_of e.message) done) in
      let c = pluses-done m done in
      let d = minuses-done m done in
      omega (arith, ints)

  pub with_done-same : (a b : List Letter) (done : List (Event K)) → HaveSameCounts message_order a b → HaveSameCounts message_order (with_done a done) (with_done b done)
  with_done-same a b done h m =
      with_done-count m a done ∙ (ap (λ n. n +ℤ pos (times m done)) (h m) ∙ sym (with_done-count m b done))

  -- the message that is handled leaves the letters beside the done events and joins these
  pub with_done-handled : (m : Message) (t t' : List Letter) (done done' : List (Event K)) (e : Event K) → HaveSameCounts message_order t (plus_of m ∷ t') →
      e.message ≡ m → done' ≡ done ++ e ∷ [] → HaveSameCounts message_order (with_done t' done') (with_done t done)
  with_done-handled m t t' done done' e h same more x =
      let a = with_done-count x t' done' in
      let b = with_done-count x t done in
      let c = ap (times x) more ∙ (ap (times_in message_order x) (map-append (λ (e : Event K). e.message) done (e ∷ [])) ∙
      times-append message_order O x (map (λ (e : Event K). e.message) done) (e.message ∷ [])) in
      let d = ap (λ z. times_in message_order x (z ∷ [])) same in
      let f = h x in
      omega (arith, ints)

  -- the oldest done event is committed
  pub with_done-committed : (m : Message) (rest : List Message) (t : List Letter) (done done' : List (Event K)) →
      map (λ (e : Event K). e.message) done ≡ m ∷ rest → map (λ (e : Event K). e.message) done' ≡ rest →
      HaveSameCounts message_order (plus_of m ∷ with_done t done') (with_done t done)
  with_done-committed m rest t done done' was now x =
      let a = with_done-count x t done' in
      let b = with_done-count x t done in
      let c = ap (times_in message_order x) was in
      let d = ap (times_in message_order x) now in
      omega (arith, ints)

  -- the last done events are undone, and their letters are tallied beside the others, and one letter more
  pub with_done-undone : (l : Letter) (n : ℕ) (t t' : List Letter) (done done' : List (Event K)) →
      HaveSameCounts message_order t' (l ∷ (map (λ (e : Event K). plus_of e.message) (drop n done) ++ t)) →
      map (λ (e : Event K). e.message) done ≡ map (λ (e : Event K). e.message) done' ++ map (λ (e : Event K). e.message) (drop n done) →
      HaveSameCounts message_order (with_done t' done') (l ∷ with_done t done)
  with_done-undone l n t t' done done' h split x =
      let a = with_done-count x t' done' in
      let b = with_done-count x t done in
      let c = ap (times_in message_order x) split ∙ times-append message_order O x (map (λ (e : Event K). e.message) done') (map (λ (e : Event K). e.message) (drop n done)) in
      let d = pluses-append message_order O x (map (λ (e : Event K). plus_of e.message) (drop n done)) t in
      let f = minuses-append message_order O x (map (λ (e : Event K). plus_of e.message) (drop n done)) t in
      let g = pluses-done x (drop n done) in
      let i = minuses-done x (drop n done) in
      let j = h x in
      omega (arith, ints)

  -- of the messages behind all done events the same one comes first
  pub with_done-next : (newest : Option Message) (t : List Letter) (done : List (Event K)) → ((m : Message) → is_after message_order newest m ≡ true → times m done ≡ 0) →
      present_after message_order newest (with_done t done) ≡ present_after message_order newest t
  with_done-next newest t done none = after-same message_order O newest (with_done t done) t
      (λ m a. present-same_count message_order m t (with_done t done)
      (let b = with_done-count m t done in let c = none m a in omega (arith, ints)))

-- how often a message is in a list, by the rules of messages alone
pub times-messages : {S K : Type 0} (r : Rules Message S K Note) (R : OfMessages r) (m : Message) (ms : List Message) → times_in r.order m ms ≡ times_in message_order m ms
times-messages r R m ms = ap (λ o. times_in o m ms) R.order_is

-- a done event at a place: its message is done once
pub one-at : (O : IsOrder message_order) {K : Type 0} (t : List Letter) (es : List (Event K)) → IsAscending message_order (map (λ (e : Event K). e.message) es) →
    (k : ℕ) (e : Event K) → k < length es → e ≡ slice_index_or es k e → signed_count message_order e.message (with_done t es) ≡ signed_count message_order e.message t +ℤ pos 1
one-at O t es up k e h at =
    let b = inside-at O es k e h at in
    let c = ascending-once message_order O e.message (map (λ (x : Event _). x.message) es) up in
    let one : times O e.message es ≡ 1 = omega arith in
    with_done-count O e.message t es ∙ ap (λ n. signed_count message_order e.message t +ℤ pos n) one
