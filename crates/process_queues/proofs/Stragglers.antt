-- A letter of a message that does not come after all done events: whether that is done, and whether the letter makes it present or absent.
use Rattle.std.proofs.Common.{◌≡◌, ℕ, ◌≤◌, ℤ, inl, inr, Bool, true, false, not, ◌&&◌, List, [], ◌∷◌, map, filter, pos, ◌+ℤ◌, Option, Some, refl, sym, ap, ◌∙◌, arith, ◌≢◌, IsTrue}
use Rattle.std.proofs.lemmas.Int.{ints}
use Rattle.std.proofs.lemmas.Bool.{both_ways, cases_lt}
use Rattle.vlink.specs.declared.message.Message.{Message}
use Rattle.vlink.specs.declared.note.Note.{Note}
use Rattle.virtual_time.specs.declared.letter.Sign.{Sign}
use Rattle.virtual_time.specs.declared.letter.Sign.TheVariants.{Plus, Minus}
use Rattle.virtual_time.specs.Law.{Rules, one_if, least, same, times_in, IsIn, IsPresent, is_present, pluses, minuses, is_plus, Part}
use Rattle.virtual_time.proofs.Order.{same_cases}
use Rattle.virtual_time.proofs.Presence.{present-true}
use Rattle.virtual_time.proofs.Ascending.{ascending-once}
use Rattle.vlink.specs.Order.{message_order}
use Rattle.vlink.specs.Letters.{Letter}
use Rattle.antimessages.proofs.After.{first_after-is}
use Rattle.antimessages.proofs.Changes.{change-plus_none, change-plus_some, change-minus_one, change-minus_other}
use Rattle.antimessages.specs.Counting.{signed_count, change_by, is_after, present_after, newest_of}
use Rattle.antimessages.specs.declared.tally.Change.TheVariants.{Same}
use Rattle.process_queues.specs.Queues.{Queues, StandsFor, with_done, next_in}
use Rattle.process_queues.proofs.Beside.{times, with_done-count, with_done-next, times-messages}
use Rattle.process_queues.proofs.Counting.{OfMessages}
use Rattle.antimessages.proofs.Newest.{newest-more}
use Rattle.process_queues.proofs.Next.{here, there, after-not_done, not_done-after, after-here}
use Rattle.process_queues.proofs.Rolls.{done-messages}

-- a message that does not come after all done events is present just where it is done
module _ {S K : Type 0} {r : Rules Message S K Note} (R : OfMessages r) {is_value : S → Message → Type 0} {opening : S} {part : Part Message S} {q : Queues S K}
    (h : StandsFor r is_value opening part q) (m : Message) where
  pub done-times : times_in r.order m part.done ≡ times R.messages m q.past.done
  done-times = times-messages r R m part.done ∙ ap (times_in message_order m) (sym (done-messages h.past))

  pub done-present : times R.messages m q.past.done ≡ 1 → IsPresent message_order q.tally m
  done-present d = here r R is_value opening part q h m (h.well.done_present m (let k = done-times in omega arith))

  pub late-absent : is_after r.order (newest_of (map (λ e. e.message) q.past.done)) m ≡ false → times R.messages m q.past.done ≡ 0 →
      pluses message_order m q.tally ≤ minuses message_order m q.tally
  late-absent late d = elim (cases_lt (minuses message_order m q.tally) (pluses message_order m q.tally)) [
    | inl k ↦ absurd (both_ways _ late
        (ap (λ ds. is_after r.order (newest_of ds) m) (done-messages h.past) ∙
        not_done-after r R is_value opening part q h m (there r R is_value opening part q h m k) (done-times ∙ d)))
    | inr k ↦ k
  ]

  -- what comes after all done events is not done
  pub after-none : is_after message_order (newest_of (map (λ e. e.message) q.past.done)) m ≡ true → times R.messages m q.past.done ≡ 0
  after-none a = sym done-times ∙ after-not_done r R is_value opening part q h m (sym (after-here r R is_value opening part q h m) ∙ a)

  -- of a done message not less than 0 count beside the done events
  pub not-owed : (t : List Letter) → q.tally ≡ with_done t q.past.done → IsIn message_order m (map (λ e. e.message) q.past.done) →
      minuses message_order m t ≤ pluses message_order m t
  not-owed t e i =
      let a = with_done-count R.messages m t q.past.done in
      let up = ascending-once r.order R.order m part.done h.past.ascending in
      let k = done-times in
      let p = done-present (omega arith) in
      let f = ap (signed_count message_order m) e in
      omega (arith, ints)

-- what a letter makes of its message, which does not come after all done events
module _ {S K : Type 0} {r : Rules Message S K Note} (R : OfMessages r) {is_value : S → Message → Type 0} {opening : S} {part : Part Message S} {q : Queues S K}
    (h : StandsFor r is_value opening part q) (l : Letter) (t : List Letter) (e : q.tally ≡ with_done t q.past.done) where
  counted : signed_count message_order l.message q.tally ≡ signed_count message_order l.message t +ℤ pos (times R.messages l.message q.past.done)
  counted = ap (signed_count message_order l.message) e ∙ with_done-count R.messages l.message t q.past.done

  -- it brings a message that is not done, or takes back one that is, and nothing else counts
  pub toggles-it : times R.messages l.message q.past.done ≡ one_if (not (is_plus l.sign)) → signed_count message_order l.message t ≡ pos 0 →
      change_by message_order l q.tally ≢ Same
  toggles-it k z same = go l.sign refl k
    where
      go : (s : Sign) → l.sign ≡ s → times R.messages l.message q.past.done ≡ one_if (not (is_plus s)) → ⊥
      go Plus i d = let c = counted in let bad = sym (change-plus_none message_order R.messages l q.tally i (omega (arith, ints))) ∙ same in cc
      go Minus i d = let c = counted in let bad = sym (change-minus_one message_order R.messages l q.tally i (omega (arith, ints))) ∙ same in cc

  -- such a message, of which something else counts
  pub keeps-it : times R.messages l.message q.past.done ≡ one_if (not (is_plus l.sign)) → signed_count message_order l.message t ≢ pos 0 →
      change_by message_order l q.tally ≡ Same
  keeps-it k n = go l.sign refl k
    where
      go : (s : Sign) → l.sign ≡ s → times R.messages l.message q.past.done ≡ one_if (not (is_plus s)) → change_by message_order l q.tally ≡ Same
      go Plus i d = let c = counted in change-plus_some message_order R.messages l q.tally i (λ x. n (omega (arith, ints)))
      go Minus i d = let c = counted in change-minus_other message_order R.messages l q.tally i (λ x. n (omega (arith, ints)))

  -- it brings a message that is done, or takes back one that is not
  pub keeps-done : is_after r.order (newest_of (map (λ e. e.message) q.past.done)) l.message ≡ false → times R.messages l.message q.past.done ≡ one_if (is_plus l.sign) →
      change_by message_order l q.tally ≡ Same
  keeps-done late k = go l.sign refl k
    where
      go : (s : Sign) → l.sign ≡ s → times R.messages l.message q.past.done ≡ one_if (is_plus s) → change_by message_order l q.tally ≡ Same
      go Plus i d = let p = done-present R h l.message d in change-plus_some message_order R.messages l q.tally i (λ x. omega (arith, ints))
      go Minus i d = let p = late-absent R h l.message late d in change-minus_other message_order R.messages l q.tally i (λ x. omega (arith, ints))

-- what counts beside the done events
module _ {S K : Type 0} {r : Rules Message S K Note} (R : OfMessages r) {is_value : S → Message → Type 0} {opening : S} {part : Part Message S} {q : Queues S K}
    (h : StandsFor r is_value opening part q) (t : List Letter) (e : q.tally ≡ with_done t q.past.done) where
  -- the signed count of a message, by whether it is done
  pub count-stands : (m : Message) (done : Bool) (count : ℤ) →
      (IsTrue done → times R.messages m q.past.done ≡ 1) → (done ≡ false → times R.messages m q.past.done ≡ 0) →
      (IsTrue done → count ≡ signed_count message_order m t +ℤ pos 1) → (done ≡ false → count ≡ signed_count message_order m t) → count ≡ signed_count r.order m part.tally
  count-stands m done count some none more rest = go done some none more rest
    where
      by-times : (n : ℕ) → times R.messages m q.past.done ≡ n → count ≡ signed_count message_order m t +ℤ pos n → count ≡ signed_count r.order m part.tally
      by-times n d k =
          k ∙ (ap (λ x. signed_count message_order m t +ℤ pos x) (sym d) ∙
          (sym (with_done-count R.messages m t q.past.done) ∙ (ap (signed_count message_order m) (sym e) ∙
          (sym (h.counts m) ∙ sym (ap (λ o. signed_count o m part.tally) R.order_is)))))

      go : (d : Bool) → (IsTrue d → times R.messages m q.past.done ≡ 1) → (d ≡ false → times R.messages m q.past.done ≡ 0) →
          (IsTrue d → count ≡ signed_count message_order m t +ℤ pos 1) → (d ≡ false → count ≡ signed_count message_order m t) → count ≡ signed_count r.order m part.tally
      go true some none more rest = by-times 1 (some refl) (more refl)
      go false some none more rest = by-times 0 (none refl) (let k = rest refl in omega (arith, ints))

  -- the message that is next
  pub next-beside : next_in q ≡ present_after message_order (newest_of (map (λ e. e.message) q.past.done)) t
  next-beside =
      let newest = newest_of (map (λ e. e.message) q.past.done) in
      ap (present_after message_order newest) e ∙ with_done-next R.messages newest t q.past.done (after-none R h)

  -- so it is looked for behind the newest done event
  pub found-beside : {next newest : Option Message} → next ≡ present_after message_order newest t → newest ≡ newest_of (map (λ e. e.message) q.past.done) → next ≡ next_in q
  found-beside n w = n ∙ (ap (λ o. present_after message_order o t) w ∙ sym next-beside)

  -- the oldest done event is committed, of whose message nothing else counts: the same message is next, behind the events that are left
  pub next-left : (m : Message) (rest ds : List Message) → part.done ≡ m ∷ rest → signed_count message_order m t ≡ pos 0 → ds ≡ rest →
      next_in q ≡ present_after message_order (newest_of ds) t
  next-left m rest ds d z left = next-beside ∙ (ap by (done-messages h.past ∙ d) ∙ (go rest d ∙ ap by (sym left)))
    where
      by : List Message → Option Message
      by es = present_after message_order (newest_of es) t

      not-done : part.done ≡ m ∷ [] → (x : Message) → IsPresent message_order t x → times_in r.order x part.done ≡ 0
      not-done one x p = elim (same_cases r.order R.order x m) [
        | inl s ↦ let c = ap (λ y. signed_count message_order y t) s in absurd (omega (arith, ints))
        | inr n ↦ let a = ap (times_in r.order x) one in let b = ap one_if n in omega arith
      ]

      behind : part.done ≡ m ∷ [] → (x : Message) → IsPresent message_order t x → is_after message_order (Some m) x ≡ true
      behind one x p =
          let a = with_done-count R.messages x t q.past.done in
          let f = ap (signed_count message_order x) e in
          ap (λ es. is_after message_order (newest_of es) x) (sym (done-messages h.past ∙ one)) ∙ (after-here r R is_value opening part q h x ∙
          not_done-after r R is_value opening part q h x (there r R is_value opening part q h x (omega (arith, ints))) (not-done one x p))

      wanted : part.done ≡ m ∷ [] → (x : Message) (b : Bool) → is_present message_order t x ≡ b → (b && is_after message_order (Some m) x) ≡ (b && true)
      wanted one x false w = refl
      wanted one x true w = behind one x (present-true message_order R.messages t x w)

      go : (rest : List Message) → part.done ≡ m ∷ rest → by (m ∷ rest) ≡ by rest
      go [] one = ap (λ wants. least message_order (filter wants (map (λ l. l.message) t))) (λ i x. wanted one x (is_present message_order t x) refl i)
      go (y ∷ ys) more = ap (λ o. present_after message_order o t) (newest-more m y ys)

  pub beside-present : (m : Message) → next_in q ≡ Some m → IsPresent message_order t m
  beside-present m next = (first_after-is message_order R.messages (newest_of (map (λ e. e.message) q.past.done)) t m (sym next-beside ∙ next)).present
