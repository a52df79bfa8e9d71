-- The message that is handled next, by the newest done event and the letters that were tallied.
use Rattle.std.proofs.Common.{◌≡◌, inl, inr, true, map, Option, Some, None, refl, sym, ap, ◌∙◌, subst, arith}
use Rattle.std.proofs.lemmas.Bool.{cases_lt}
use Rattle.vlink.specs.declared.message.Message.{Message}
use Rattle.vlink.specs.declared.note.Note.{Note}
use Rattle.virtual_time.specs.Law.{Rules, IsIn, times_in, IsPresent, Part, next_of}
use Rattle.virtual_time.proofs.Lists.{times-none}
use Rattle.virtual_time.proofs.Presence.{present-true, present-from}
use Rattle.virtual_time.proofs.Reading.{next-from, none-next_from}
use Rattle.vlink.specs.Order.{message_order}
use Rattle.antimessages.specs.Counting.{is_after, newest_of}
use Rattle.antimessages.proofs.After.{first_after-is, first_after-none}
use Rattle.process_queues.specs.Queues.{Queues, StandsFor, next_in}
use Rattle.process_queues.proofs.Counting.{OfMessages, present-agree}
use Rattle.antimessages.proofs.Newest.{none-newest, newest-in, newest-last}
use Rattle.process_queues.proofs.Rolls.{done-messages}

module _ {S K : Type 0} (r : Rules Message S K Note) (R : OfMessages r) (is_value : S → Message → Type 0) (opening : S) (part : Part Message S) (q : Queues S K)
    (h : StandsFor r is_value opening part q) where
  -- the newest done event
  newest-same : newest_of (map (λ e. e.message) q.past.done) ≡ newest_of part.done
  newest-same = ap newest_of (done-messages h.past)

  after-same : (o : Option Message) (m : Message) → is_after message_order o m ≡ is_after r.order o m
  after-same o m = sym (ap (λ order. is_after order o m) R.order_is)

  -- a present message is not done just where it comes after the newest done event
  pub after-not_done : (m : Message) → is_after r.order (newest_of part.done) m ≡ true → times_in r.order m part.done ≡ 0
  after-not_done m a = times-none r.order R.order m part.done (go (newest_of part.done) refl a)
    where
      go : (o : Option Message) → newest_of part.done ≡ o → is_after r.order o m ≡ true → IsIn r.order m part.done → ⊥
      go None e a j = let k = subst (λ ds. IsIn r.order m ds) (none-newest part.done e) j in absurd (omega arith)
      go (Some d) e a j = let k = newest-last r R.order part.done d m h.well.ascending e j in cc

  pub not_done-after : (m : Message) → IsPresent r.order part.tally m → times_in r.order m part.done ≡ 0 → is_after r.order (newest_of part.done) m ≡ true
  not_done-after m present z = go (newest_of part.done) refl
    where
      go : (o : Option Message) → newest_of part.done ≡ o → is_after r.order o m ≡ true
      go None e = refl
      go (Some d) e = h.well.done_first m present z d (newest-in r R.order part.done d e)

  pub after-here : (m : Message) → is_after message_order (newest_of (map (λ e. e.message) q.past.done)) m ≡ is_after r.order (newest_of part.done) m
  after-here m = ap (λ o. is_after message_order o m) newest-same ∙ after-same (newest_of part.done) m

  -- a message is present here and there
  pub here : (m : Message) → IsPresent r.order part.tally m → IsPresent message_order q.tally m
  here m present = present-true message_order R.messages q.tally m
      (sym (present-agree r R part.tally q.tally h.counts m) ∙ present-from r.order R.order part.tally m present)

  pub there : (m : Message) → IsPresent message_order q.tally m → IsPresent r.order part.tally m
  there m present = present-true r.order R.order part.tally m
      (present-agree r R part.tally q.tally h.counts m ∙ present-from message_order R.messages q.tally m present)

  pub next-stands : next_of r.order part ≡ next_in q
  next-stands = go (next_in q) refl
    where
      go : (o : Option Message) → next_in q ≡ o → next_of r.order part ≡ o
      go None e = none-next_from r R.order part (λ m present.
          elim (cases_lt 0 (times_in r.order m part.done)) [
            | inl j ↦ j
            | inr z ↦ absurd (first_after-none message_order R.messages _ q.tally e m (here m present)
                (after-here m ∙ not_done-after m present (omega arith)))
          ])
      go (Some m) e =
          let f = first_after-is message_order R.messages _ q.tally m e in
          next-from r R.order part m (record {
            present = there m f.present;
            not_done = after-not_done m (sym (after-here m) ∙ f.after);
            first = λ x present z. ap (λ o. o.less x m) R.order_is ∙ f.first x (here x present) (after-here x ∙ not_done-after x present z);
          })
