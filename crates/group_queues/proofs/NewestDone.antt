-- The newest of the done events, with its share of what was sent and of the rows.
use Rattle.std.proofs.Common.{add-one, suc, zero, true, ◌≡◌, ◌≢◌, ℕ, ◌+◌, ◌<◌, take, drop, List, [], ◌∷◌, ◌++◌, length, map, Option, Some, None, Bor, option_copied, All, get_or, refl, sym, ap, ◌∙◌, subst, arith, length-drop}
use Rattle.std.proofs.lemmas.Bool.{both_ways}
use Rattle.std.proofs.lemmas.List.Elements.{All-nil, All-cons, All-head, All-tail}
use Rattle.std.proofs.lemmas.List.{take-append-drop, length-take-le}
use Rattle.vlink.specs.declared.message.Message.{Message}
use Rattle.vlink.specs.Letters.{Row}
use Rattle.vlink.specs.declared.note.Note.{Note}
use Rattle.vlink.specs.Order.{message_order}
use Rattle.virtual_time.specs.Law.{Rules, IsOrder, IsIn, IsAscending}
use Rattle.virtual_time.proofs.Lists.{in-head}
use Rattle.antimessages.specs.Counting.{is_after, newest_of}
use Rattle.antimessages.proofs.Newest.{newest-more, newest-in, after-all}
use Rattle.group_queues.specs.declared.done_events.Event.{Event}
use Rattle.group_queues.specs.DoneEvents.{DoneEvent, done_events_in, all_sent, all_noted, sent_in, noted_in}
use Rattle.group_queues.proofs.Shares.{events-more, sent-more, noted-more}

module _ {K : Type 0} where
  -- what is kept of the newest event, and of those before it
  pub newest-share : (es : List (Event K)) (e : Event K) (sends : List Message) (rows : List Row) (n k : ℕ) → length sends ≡ all_sent (es ++ e ∷ []) → length rows ≡ all_noted (es ++ e ∷ []) →
      n + e.sent ≡ length sends → k + e.noted ≡ length rows →
      done_events_in (es ++ e ∷ []) sends rows ≡ done_events_in es (take n sends) (take k rows) ++ record { message = e.message; kept = e.kept; sent = drop n sends; rows = drop k rows } ∷ []
  newest-share es e sends rows n k s m a b =
      let s' = sent-more es e in
      let n' = noted-more es e in
      let ls = length-take-le n sends (omega arith) in
      let ln = length-take-le k rows (omega arith) in
      let ds = length-drop n sends in
      let dn = length-drop k rows in
      ap (λ z. done_events_in (es ++ e ∷ []) z rows) (sym (take-append-drop n sends)) ∙
      (ap (λ z. done_events_in (es ++ e ∷ []) (take n sends ++ drop n sends) z) (sym (take-append-drop k rows)) ∙
      events-more es e (take n sends) (drop n sends) (take k rows) (drop k rows) (omega arith) (omega arith) (omega arith) (omega arith))

  -- how many events there are, and how much they sent and noted
  pub how-many : (es : List (Event K)) (sends : List Message) (rows : List Row) → length (done_events_in es sends rows) ≡ length es
  how-many [] sends rows = refl
  how-many (e ∷ es) sends rows = let h = how-many es (drop e.sent sends) (drop e.noted rows) in omega arith

  pub how-much_sent : (es : List (Event K)) (sends : List Message) (rows : List Row) → length sends ≡ all_sent es → sent_in (done_events_in es sends rows) ≡ length sends
  how-much_sent [] sends rows e = sym e
  how-much_sent (e ∷ es) sends rows h =
      let a = length-take-le e.sent sends (omega arith) in
      let b = length-drop e.sent sends in
      let c = how-much_sent es (drop e.sent sends) (drop e.noted rows) (omega arith) in
      omega arith

  pub how-much_noted : (es : List (Event K)) (sends : List Message) (rows : List Row) → length rows ≡ all_noted es → noted_in (done_events_in es sends rows) ≡ length rows
  how-much_noted [] sends rows e = sym e
  how-much_noted (e ∷ es) sends rows h =
      let a = length-take-le e.noted rows (omega arith) in
      let b = length-drop e.noted rows in
      let c = how-much_noted es (drop e.sent sends) (drop e.noted rows) (omega arith) in
      omega arith

  pub sent_in-push : (ds : List (DoneEvent K)) (d : DoneEvent K) → sent_in (ds ++ d ∷ []) ≡ sent_in ds + length d.sent
  sent_in-push [] d = omega arith
  sent_in-push (x ∷ xs) d = let e = sent_in-push xs d in omega arith

  pub noted_in-push : (ds : List (DoneEvent K)) (d : DoneEvent K) → noted_in (ds ++ d ∷ []) ≡ noted_in ds + length d.rows
  noted_in-push [] d = omega arith
  noted_in-push (x ∷ xs) d = let e = noted_in-push xs d in omega arith

  -- one more of the first events whose messages are others
  none-next : (m : Message) (es : List (Event K)) (k : ℕ) (e : Event K) → k < length es → e ≡ get_or es k e → e.message ≢ m → All (λ x. x ≢ m) (take k (map (λ x. x.message) es)) →
      All (λ x. x ≢ m) (take (suc k) (map (λ x. x.message) es))
  none-next m [] k e l i n a = absurd (omega arith)
  none-next m (x ∷ es) zero e l i n a = All-cons (λ z. z ≢ m) x.message [] (subst (λ z. z.message ≢ m) i n) (All-nil (λ z. z ≢ m))
  none-next m (x ∷ es) (suc k) e l i n a =
      All-cons (λ z. z ≢ m) x.message (take (suc k) (map (λ z. z.message) es)) (All-head (λ z. z ≢ m) x.message (take k (map (λ z. z.message) es)) a)
      (none-next m es k e (omega arith) i n (All-tail (λ z. z ≢ m) x.message (take k (map (λ z. z.message) es)) a))

  pub none-more : (m : Message) (es : List (Event K)) (k : ℕ) (e : Event K) → k < length es → e ≡ get_or es k e → e.message ≢ m → All (λ x. x ≢ m) (take k (map (λ x. x.message) es)) →
      All (λ x. x ≢ m) (take (k + 1) (map (λ x. x.message) es))
  none-more m es k e l i n a = subst (λ j. All (λ x. x ≢ m) (take j (map (λ x. x.message) es))) (sym (add-one k)) (none-next m es k e l i n a)

-- what holds of each message that is in a list holds of all
all-in : IsOrder message_order → (P : Message → Type 0) (xs : List Message) → ((x : Message) → IsIn message_order x xs → P x) → All P xs
all-in O P [] h = All-nil P
all-in O P (x ∷ xs) h = All-cons P x xs (h x (in-head message_order O x xs)) (all-in O P xs (λ y i. h y (omega arith)))

-- the newest of a list is its last
pub newest-last : {X : Type 0} (xs : List X) (x : X) → newest_of (xs ++ x ∷ []) ≡ Some x
newest-last [] x = refl
newest-last (y ∷ []) x = newest-more y x []
newest-last (y ∷ (z ∷ zs)) x = newest-more y z (zs ++ x ∷ []) ∙ newest-last (z ∷ zs) x

-- the newest, as code finds it
pub same-newest : (o : Option (Bor Message)) (x : Bor Message) (d : Message) → option_copied o ≡ Some d → o ≡ Some x → x.now ≡ d
same-newest o x d a b = let k : Some x.now ≡ Some d = sym (ap option_copied b) ∙ a in cc

pub no-newest : (o : Option (Bor Message)) (d : Message) → option_copied o ≡ Some d → o ≡ None → ⊥
no-newest o d a b = let k : None ≡ Some d = sym (ap option_copied b) ∙ a in cc

-- rules of nothing but the order
ordered : Rules Message ℕ ℕ Note
ordered = record { order = message_order; after = λ s m. s; sends = λ s m. []; notes = λ s m. []; counter = λ s. 0; kept = λ s m. 0; undo = λ s m k. s }

-- the newest is in the list
pub newest-among : IsOrder message_order → (xs : List Message) (y : Message) → newest_of xs ≡ Some y → IsIn message_order y xs
unfolding ordered
newest-among O xs y e = newest-in ordered O xs y e

-- what comes after the newest of an ascending list is not in it
pub after-none : IsOrder message_order → (m : Message) (xs : List Message) → IsAscending message_order xs → is_after message_order (newest_of xs) m ≡ true → All (λ x. x ≢ m) xs
unfolding ordered
after-none O m xs up a =
    all-in O (λ x. x ≢ m) xs
    (λ x i e. both_ways (message_order.less m m) (O.irreflexive m) (subst (λ z. message_order.less z m ≡ true) e (after-all ordered O xs m up a x i)))
