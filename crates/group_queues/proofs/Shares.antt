-- Done events with their shares of all that was sent and of all rows.
use Rattle.std.proofs.Common.{◌≡◌, ℕ, ◌+◌, ◌-◌, ◌≤◌, take, drop, List, [], ◌∷◌, ◌++◌, length, map, Some, slice_get, get_or, option_map, ◌<◌, refl, sym, ap, ◌∙◌, arith, length-drop}
use Rattle.std.proofs.lemmas.List.{take-append-le, drop-append-le, take_all, length-map}
use Rattle.std.proofs.lemmas.Option.{slice_get-map, slice_get-get_or}
use Rattle.vlink.specs.declared.message.Message.{Message}
use Rattle.vlink.specs.Letters.{Row}
use Rattle.antimessages.specs.Counting.{newest_of}
use Rattle.group_queues.specs.declared.done_events.Event.{Event}
use Rattle.group_queues.specs.DoneEvents.{DoneEvent, done_events_in, all_sent, all_noted, messages_of}

-- the messages of two parts
pub messages-append : {K : Type 0} (xs ys : List (DoneEvent K)) → messages_of (xs ++ ys) ≡ messages_of xs ++ messages_of ys
messages-append [] ys = refl
messages-append (x ∷ xs) ys = ap (λ z. x.message ∷ z) (messages-append xs ys)

take-whole : {X : Type 0} (n : ℕ) (xs : List X) → n ≡ length xs → take n xs ≡ xs
take-whole n xs e = take_all n xs (omega (arith, e))

module _ {K : Type 0} where
  -- the messages are those of the events
  pub messages-in : (es : List (Event K)) (sends : List Message) (rows : List Row) → messages_of (done_events_in es sends rows) ≡ map (λ e. e.message) es
  messages-in [] sends rows = refl
  messages-in (e ∷ es) sends rows = ap (λ z. e.message ∷ z) (messages-in es (drop e.sent sends) (drop e.noted rows))

  -- the newest of them
  pub newest-is : (es : List (Event K)) (sends : List Message) (rows : List Row) (e : Event K) → 0 < length es → e ≡ get_or es (length es - 1) e →
      newest_of (messages_of (done_events_in es sends rows)) ≡ Some e.message
  newest-is es sends rows e l h =
      ap newest_of (messages-in es sends rows) ∙
      (ap (λ n. slice_get (map (λ e. e.message) es) (n - 1)) (length-map es (λ (e : Event K). e.message)) ∙
      (slice_get-map (λ (e : Event K). e.message) es (length es - 1) ∙
      ap (option_map (λ (e : Event K). e.message)) (slice_get-get_or es (length es - 1) e (omega arith) ∙ ap (λ z. Some z) (sym h))))

  -- one event more, with what it sent and its rows
  pub events-more : (es : List (Event K)) (e : Event K) (sends more : List Message) (rows noted : List Row) →
      length sends ≡ all_sent es → length rows ≡ all_noted es → e.sent ≡ length more → e.noted ≡ length noted →
      done_events_in (es ++ e ∷ []) (sends ++ more) (rows ++ noted) ≡ done_events_in es sends rows ++ record { message = e.message; kept = e.kept; sent = more; rows = noted } ∷ []
  events-more [] e [] more [] noted a b c d = λ j. record { message = e.message; kept = e.kept; sent = take-whole e.sent more c j; rows = take-whole e.noted noted d j } ∷ []
  events-more [] e (x ∷ xs) more rows noted a b c d = absurd (omega (arith, a))
  events-more [] e [] more (x ∷ xs) noted a b c d = absurd (omega (arith, b))
  events-more (x ∷ es) e sends more rows noted a b c d =
      let s : x.sent ≤ length sends = omega (arith, a) in
      let n : x.noted ≤ length rows = omega (arith, b) in
      let i = length-drop x.sent sends in
      let k = length-drop x.noted rows in
      let h = events-more es e (drop x.sent sends) more (drop x.noted rows) noted (omega (arith, a, i)) (omega (arith, b, k)) c d in
      (λ j. record { message = x.message; kept = x.kept; sent = take-append-le x.sent sends more s j; rows = take-append-le x.noted rows noted n j }
      ∷ done_events_in (es ++ e ∷ []) (drop-append-le x.sent sends more s j) (drop-append-le x.noted rows noted n j)) ∙
      ap (λ ds. record { message = x.message; kept = x.kept; sent = take x.sent sends; rows = take x.noted rows } ∷ ds) h

  pub sent-more : (es : List (Event K)) (e : Event K) → all_sent (es ++ e ∷ []) ≡ all_sent es + e.sent
  sent-more [] e = omega arith
  sent-more (x ∷ es) e = let h = sent-more es e in omega arith

  pub noted-more : (es : List (Event K)) (e : Event K) → all_noted (es ++ e ∷ []) ≡ all_noted es + e.noted
  noted-more [] e = omega arith
  noted-more (x ∷ es) e = let h = noted-more es e in omega arith
