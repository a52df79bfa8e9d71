-- The oldest done events are looked at, and forgotten.
use Rattle.std.proofs.Common.{◌≡◌, ℕ, zero, suc, ◌+◌, ◌<◌, ◌≤◌, take, drop, List, [], ◌∷◌, ◌++◌, length, IfSome, Some, All, slice_get, get_or, option_map, refl, sym, ap, ◌∙◌, subst, arith, length-drop, drop-drop, take-add, add-one}
use Rattle.std.proofs.lemmas.List.{length-take-le, take-append-drop, take_more}
use Rattle.std.proofs.lemmas.List.Elements.{All-nil, All-cons, All-head, All-tail, All-push}
use Rattle.std.proofs.lemmas.Option.{slice_get-map, slice_get-get_or, slice_get_within, slice_get_past, get_or_from_slice_get}
use Rattle.vlink.specs.declared.message.Message.{Message}
use Rattle.vlink.specs.Letters.{Row}
use Rattle.group_queues.specs.declared.done_events.Event.{Event}
use Rattle.group_queues.specs.declared.block.Word.TheVariants.{Committed}
use Rattle.group_queues.specs.DoneEvents.{DoneEvent, done_events_in, all_sent, all_noted, messages_of, sent_in, noted_in}
use Rattle.group_queues.specs.Sealing.{rows_in, words_of}
use Rattle.group_queues.proofs.NewestDone.{how-many}
use Rattle.group_queues.proofs.Shares.{messages-in, sent-more, noted-more}

module _ {K : Type 0} where
  -- the rows of all events are all rows
  pub rows-all : (es : List (Event K)) (sends : List Message) (rows : List Row) → length rows ≡ all_noted es → rows_in (done_events_in es sends rows) ≡ rows
  rows-all [] sends [] e = refl
  rows-all [] sends (x ∷ xs) e = absurd (omega (arith, e))
  rows-all (d ∷ es) sends rows e =
      let n : d.noted ≤ length rows = omega (arith, e) in
      let i = length-drop d.noted rows in
      ap (λ z. take d.noted rows ++ z) (rows-all es (drop d.sent sends) (drop d.noted rows) (omega (arith, e, i))) ∙ take-append-drop d.noted rows

  -- how many events are seen, and the message of each
  pub as-seen : (es : List (Event K)) (sends : List Message) (rows : List Row) (ds : List (DoneEvent K)) (xs : List (Event K)) → done_events_in es sends rows ≡ ds → xs ≡ es → length xs ≡ length ds
  as-seen es sends rows ds xs v e = ap length e ∙ (sym (how-many es sends rows) ∙ ap length v)

  pub seen-at : (es : List (Event K)) (sends : List Message) (rows : List Row) (ds : List (DoneEvent K)) (xs : List (Event K)) (k : ℕ) (d : Event K) → done_events_in es sends rows ≡ ds → xs ≡ es →
      k < length xs → slice_get (messages_of ds) k ≡ Some (get_or xs k d).message
  seen-at es sends rows ds xs k d v e l =
      ap (λ z. slice_get (messages_of z) k) (sym v) ∙
      (ap (λ ms. slice_get ms k) (messages-in es sends rows) ∙
      (slice_get-map (λ (e : Event K). e.message) es k ∙ ap (option_map (λ (e : Event K). e.message)) (ap (λ z. slice_get z k) (sym e) ∙ slice_get-get_or xs k d l)))

  -- the first events are gone, with what they sent and their rows
  pub oldest-out : (n : ℕ) (es : List (Event K)) (sends : List Message) (rows : List Row) →
      done_events_in (drop n es) (drop (all_sent (take n es)) sends) (drop (all_noted (take n es)) rows) ≡ drop n (done_events_in es sends rows)
  oldest-out zero es sends rows = refl
  oldest-out (suc n) [] sends rows = refl
  oldest-out (suc n) (e ∷ es) sends rows =
      (λ j. done_events_in (drop n es) (sym (drop-drop (all_sent (take n es)) e.sent sends) j) (sym (drop-drop (all_noted (take n es)) e.noted rows) j)) ∙
      oldest-out n es (drop e.sent sends) (drop e.noted rows)

  -- their rows are the first rows
  pub rows-out : (n : ℕ) (es : List (Event K)) (sends : List Message) (rows : List Row) → rows_in (take n (done_events_in es sends rows)) ≡ take (all_noted (take n es)) rows
  rows-out zero es sends rows = refl
  rows-out (suc n) [] sends rows = refl
  rows-out (suc n) (e ∷ es) sends rows =
      ap (λ z. take e.noted rows ++ z) (rows-out n es (drop e.sent sends) (drop e.noted rows)) ∙ sym (take-add e.noted (all_noted (take n es)) rows)

  -- how many messages they sent, and how many rows they gave
  sent-out : (n : ℕ) (es : List (Event K)) (sends : List Message) (rows : List Row) → length sends ≡ all_sent es → sent_in (take n (done_events_in es sends rows)) ≡ all_sent (take n es)
  sent-out zero es sends rows s = refl
  sent-out (suc n) [] sends rows s = refl
  sent-out (suc n) (e ∷ es) sends rows s =
      let a = length-take-le e.sent sends (omega (arith, s)) in
      let b = length-drop e.sent sends in
      let c = sent-out n es (drop e.sent sends) (drop e.noted rows) (omega (arith, s, b)) in
      omega (arith, a, c)

  noted-out : (n : ℕ) (es : List (Event K)) (sends : List Message) (rows : List Row) → length rows ≡ all_noted es → noted_in (take n (done_events_in es sends rows)) ≡ all_noted (take n es)
  noted-out zero es sends rows s = refl
  noted-out (suc n) [] sends rows s = refl
  noted-out (suc n) (e ∷ es) sends rows s =
      let a = length-take-le e.noted rows (omega (arith, s)) in
      let b = length-drop e.noted rows in
      let c = noted-out n es (drop e.sent sends) (drop e.noted rows) (omega (arith, s, b)) in
      omega (arith, a, c)

  pub sent-seen : (n : ℕ) (es : List (Event K)) (sends : List Message) (rows : List Row) (ds : List (DoneEvent K)) → done_events_in es sends rows ≡ ds → length sends ≡ all_sent es →
      sent_in (take n ds) ≡ all_sent (take n es)
  sent-seen n es sends rows ds v s = ap (λ z. sent_in (take n z)) (sym v) ∙ sent-out n es sends rows s

  pub noted-seen : (n : ℕ) (es : List (Event K)) (sends : List Message) (rows : List Row) (ds : List (DoneEvent K)) → done_events_in es sends rows ≡ ds → length rows ≡ all_noted es →
      noted_in (take n ds) ≡ all_noted (take n es)
  noted-seen n es sends rows ds v s = ap (λ z. noted_in (take n z)) (sym v) ∙ noted-out n es sends rows s

  -- what the first events sent and noted is a part of all, and what is left belongs to the others
  pub sent-split : (n : ℕ) (es : List (Event K)) → all_sent (take n es) + all_sent (drop n es) ≡ all_sent es
  sent-split zero es = omega arith
  sent-split (suc n) [] = refl
  sent-split (suc n) (e ∷ es) = let h = sent-split n es in omega arith

  pub noted-split : (n : ℕ) (es : List (Event K)) → all_noted (take n es) + all_noted (drop n es) ≡ all_noted es
  noted-split zero es = omega arith
  noted-split (suc n) [] = refl
  noted-split (suc n) (e ∷ es) = let h = noted-split n es in omega arith

  -- one more of the first events
  pub sent-next : (k : ℕ) (es : List (Event K)) (d : Event K) → k < length es → all_sent (take (k + 1) es) ≡ all_sent (take k es) + (get_or es k d).sent
  sent-next k es d l = ap all_sent (take_more es k d l) ∙ sent-more (take k es) (get_or es k d)

  pub noted-next : (k : ℕ) (es : List (Event K)) (d : Event K) → k < length es → all_noted (take (k + 1) es) ≡ all_noted (take k es) + (get_or es k d).noted
  noted-next k es d l = ap all_noted (take_more es k d l) ∙ noted-more (take k es) (get_or es k d)

  -- one more of the first events adds what it sent and noted, and all is no more than there is
  pub sent-with : (k : ℕ) (es : List (Event K)) (sends : List Message) (rows : List Row) (ds : List (DoneEvent K)) (xs : List (Event K)) (d : Event K) → done_events_in es sends rows ≡ ds → xs ≡ es →
      length sends ≡ all_sent es → k < length xs → (sent_in (take (k + 1) ds) ≡ sent_in (take k ds) + (get_or xs k d).sent) × (sent_in (take (k + 1) ds) ≤ length sends)
  sent-with k es sends rows ds xs d v e s l =
      let here = ap (λ z. (get_or z k d).sent) e in
      let seen = sent-seen k es sends rows ds v s in
      let more = sent-seen (k + 1) es sends rows ds v s in
      let next = sent-next k es d (subst (λ ys. k < length ys) e l) in
      let split = sent-split (k + 1) es in
      (omega (arith, here, seen, more, next), omega (arith, more, split, s))

  pub noted-with : (k : ℕ) (es : List (Event K)) (sends : List Message) (rows : List Row) (ds : List (DoneEvent K)) (xs : List (Event K)) (d : Event K) → done_events_in es sends rows ≡ ds → xs ≡ es →
      length rows ≡ all_noted es → k < length xs → (noted_in (take (k + 1) ds) ≡ noted_in (take k ds) + (get_or xs k d).noted) × (noted_in (take (k + 1) ds) ≤ length rows)
  noted-with k es sends rows ds xs d v e s l =
      let here = ap (λ z. (get_or z k d).noted) e in
      let seen = noted-seen k es sends rows ds v s in
      let more = noted-seen (k + 1) es sends rows ds v s in
      let next = noted-next k es d (subst (λ ys. k < length ys) e l) in
      let split = noted-split (k + 1) es in
      (omega (arith, here, seen, more, next), omega (arith, more, split, s))

  -- and its word
  word-after : (k : ℕ) (ds : List (DoneEvent K)) (m : Message) → slice_get (messages_of ds) k ≡ Some m → words_of (take (suc k) ds) ≡ words_of (take k ds) ++ Committed m.receiver ∷ []
  word-after zero [] m h = cc
  word-after (suc k) [] m h = cc
  word-after zero (d ∷ ds) m h = let e : d.message ≡ m = cc in ap (λ z. Committed z.receiver ∷ []) e
  word-after (suc k) (d ∷ ds) m h = ap (λ z. Committed d.message.receiver ∷ z) (word-after k ds m h)

  pub word-next : (k : ℕ) (ds : List (DoneEvent K)) (m : Message) → slice_get (messages_of ds) k ≡ Some m → words_of (take (k + 1) ds) ≡ words_of (take k ds) ++ Committed m.receiver ∷ []
  word-next k ds m h = ap (λ n. words_of (take n ds)) (add-one k) ∙ word-after k ds m h

  -- what holds of the messages of the first events
  pub of-messages : (P : Message → Type 0) (n : ℕ) (ds : List (DoneEvent K)) → All P (take n (messages_of ds)) → All (λ d. P d.message) (take n ds)
  of-messages P zero ds a = All-nil (λ (d : DoneEvent K). P d.message)
  of-messages P (suc n) [] a = All-nil (λ (d : DoneEvent K). P d.message)
  of-messages P (suc n) (d ∷ ds) a =
      All-cons (λ (d : DoneEvent K). P d.message) d (take n ds) (All-head P d.message (take n (messages_of ds)) a) (of-messages P n ds (All-tail P d.message (take n (messages_of ds)) a))

  -- the oldest once the first events are gone
  pub oldest-then : (P : Message → Type 0) (n : ℕ) (ds : List (DoneEvent K)) → IfSome (slice_get (messages_of ds) n) P → IfSome (slice_get (messages_of (drop n ds)) 0) P
  oldest-then P zero ds h = h
  oldest-then P (suc n) [] h = tt
  oldest-then P (suc n) (d ∷ ds) h = oldest-then P n ds h

-- what holds of the first of a list and of the next holds of one more
pub one-more : {X : Type 0} (P : X → Type 0) (k : ℕ) (xs : List X) (x : X) → slice_get xs k ≡ Some x → P x → All P (take k xs) → All P (take (k + 1) xs)
one-more P k xs x e p a =
    subst (λ ys. All P ys) (sym (take_more xs k x (slice_get_within xs k x e) ∙ ap (λ z. take k xs ++ z ∷ []) (get_or_from_slice_get xs k x x e))) (All-push P (take k xs) x a p)

-- past the end there is none
pub none-past : {X : Type 0} (P : X → Type 0) (k : ℕ) (xs : List X) → length xs ≤ k → IfSome (slice_get xs k) P
none-past P k xs l = subst (λ o. IfSome o P) (sym (slice_get_past xs k l)) tt
