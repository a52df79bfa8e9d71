-- What each act of a process makes of the part that its queues stand for.
use Rattle.std.proofs.Common.{◌≡◌, ℕ, ◌+◌, ◌-◌, ◌≤◌, true, false, cond, List, [], ◌∷◌, ◌++◌, length, map, drop, Option, Some, refl, sym, ap, ◌∙◌, subst, arith, append_assoc, append-nil, length-append, length-drop, drop-drop}
use Rattle.std.specs.Prelude.{⊤}
use Rattle.std.proofs.lemmas.List.{drop-append-le, length-map}
use Rattle.vlink.specs.declared.message.Message.{Message}
use Rattle.vlink.specs.declared.note.Note.{Note}
use Rattle.virtual_time.specs.Law.{Rules, reached, rowed, rows_of, plus_of, Part, opened, delivered, emptied, next_of, handled, run_one, can_commit, oldest_committed, commit_oldest, IsWell}
use Rattle.virtual_time.proofs.Handling.{reached-append, rowed-append}
use Rattle.virtual_time.proofs.WellStep.{opened-well, delivered-well, emptied-well}
use Rattle.virtual_time.proofs.WellRun.{run-well}
use Rattle.virtual_time.proofs.WellCommit.{commit-well}
use Rattle.vlink.specs.Order.{message_order}
use Rattle.vlink.specs.Letters.{Letter}
use Rattle.antimessages.specs.Counting.{HaveSameCounts, signed_count}
use Rattle.process_queues.specs.Past.{Past, Rows, IsPastOf, handled_past}
use Rattle.process_queues.specs.Queues.{Queues, InHand, StandsFor, Does, IsStanding, rows_there, delivered_all, next_in, with_done}
use Rattle.process_queues.proofs.Beside.{with_done-committed}
use Rattle.process_queues.proofs.Counting.{OfMessages, counts-less}
use Rattle.process_queues.proofs.Pasts.{past-more, messages-of}
use Rattle.process_queues.proofs.Rolls.{done-messages}

module _ {S K : Type 0} (r : Rules Message S K Note) (is_value : S → Message → Type 0) where
  pub opened-stands : (actor : S) (q : Queues S K) →
      q ≡ record { past = record { state = actor; done = []; sends = []; rows = [] }; left = 0; sealed = 0; committed = 0; tally = []; tray = []; outbox = [] } →
      StandsFor r is_value actor (opened actor) q
  opened-stands actor q e = subst (StandsFor r is_value actor (opened actor)) (sym e) (record {
    past = record { past_of = record { state = refl; done = refl; values = tt; sends = refl; rows = refl }; state = refl; ascending = tt };
    sealed = refl;
    committed = refl;
    counts = λ m. refl;
    tray = refl;
    outbox = refl;
    well = opened-well r (λ s. ⊤) actor;
  })

module _ {S K : Type 0} {r : Rules Message S K Note} {is_value : S → Message → Type 0} where
  module _ {opening : S} {part : Part Message S} {q q' : Queues S K} (h : StandsFor r is_value opening part q) where
    -- with other letters, in the part as well, where these agree and the part is well
    lettered : {tally tray outbox tally' tray' outbox' : List Letter} → HaveSameCounts message_order tally tally' → tray' ≡ tray → outbox' ≡ outbox →
        IsWell r (λ s. ⊤) opening (record part { tally = tally; tray = tray; outbox = outbox }) → q' ≡ record q { tally = tally'; tray = tray'; outbox = outbox' } →
        StandsFor r is_value opening (record part { tally = tally; tray = tray; outbox = outbox }) q'
    lettered counts came goes well e = subst (StandsFor r is_value opening _) (sym e) (record {
      past = record { past_of = h.past.past_of; state = h.past.state; ascending = h.past.ascending };
      sealed = h.sealed;
      committed = h.committed;
      counts = counts;
      tray = came;
      outbox = goes;
      well = well;
    })

    pub delivered-stands : (l : Letter) → q' ≡ record q { tray = q.tray ++ l ∷ [] } → StandsFor r is_value opening (delivered l part) q'
    delivered-stands l e = lettered h.counts (ap (λ ls. ls ++ l ∷ []) h.tray) h.outbox (delivered-well r (λ s. ⊤) opening l part h.well) e

    -- the letters that count are others, with the same signed counts
    pub retallied-stands : (tally : List Letter) → HaveSameCounts message_order q.tally tally → q' ≡ record q { tally = tally } → StandsFor r is_value opening part q'
    retallied-stands tally same e = lettered (λ m. h.counts m ∙ same m) h.tray h.outbox h.well e

    pub emptied-stands : q' ≡ record q { outbox = [] } → StandsFor r is_value opening (emptied part) q'
    emptied-stands e = lettered h.counts h.tray refl (emptied-well r (λ s. ⊤) opening part h.well) e

  module _ (R : OfMessages r) {opening : S} {part : Part Message S} {q q' : Queues S K} (h : StandsFor r is_value opening part q) where
    -- the message that is next is handled
    pub ran-stands : (m : Message) → next_of r.order part ≡ Some m → is_value q.past.state m →
        q' ≡ record q { past = handled_past r q.past m; outbox = q.outbox ++ map plus_of (r.sends q.past.state m) } →
        StandsFor r is_value opening (run_one r part) q'
    ran-stands m next valid f =
        subst (λ z. StandsFor r is_value opening z q') (sym (ap (handled r part) next))
        (subst (StandsFor r is_value opening (handled r part (Some m))) (sym f) (record {
          past = record {
            past_of = past-more m R.order_is h.past.past_of valid;
            state = ap (λ s. r.after s m) h.past.state;
            ascending = well.ascending;
          };
          sealed = h.sealed;
          committed = h.committed;
          counts = h.counts;
          tray = h.tray;
          outbox = ap (λ ls. ls ++ map plus_of (r.sends q.past.state m)) h.outbox ∙ ap (λ s. part.outbox ++ map plus_of (r.sends s m)) (sym h.past.state);
          well = well;
        }))
      where
        well : IsWell r (λ s. ⊤) opening (handled r part (Some m))
        well = subst (IsWell r (λ s. ⊤) opening) (ap (handled r part) next) (run-well r R.order (λ s. ⊤) (λ s e g. R.undoes s e) opening part h.well tt).well

    -- the oldest done event is committed
    pub commit-stands : (m : Message) (rest : List Message) (past' : Past S K) (t : List Letter) → part.done ≡ m ∷ rest → can_commit r.order part part.done ≡ true →
        IsPastOf r is_value (r.after (reached r opening part.committed) m) rest
        (rows_there r opening part q ++ rows_of message_order m (r.notes (reached r opening part.committed) m)) past' →
        past'.state ≡ q.past.state → q.tally ≡ with_done t q.past.done →
        q' ≡ record q { past = past'; sealed = q.sealed + length (r.notes (reached r opening part.committed) m); committed = q.committed + 1; tally = with_done t past'.done } →
        StandsFor r is_value opening (commit_oldest r part) q'
    commit-stands m rest past' t d c p s e f =
        subst (λ z. StandsFor r is_value opening z q') (sym seals)
        (subst (StandsFor r is_value opening (oldest_committed r part (m ∷ rest))) (sym f) (record {
          past = record {
            past_of = subst (λ z. IsPastOf r is_value z rest (drop q.left (rowed r opening (part.committed ++ m ∷ []))) past') (sym (reached-append r opening part.committed (m ∷ [])))
                (subst (λ z. IsPastOf r is_value (r.after (reached r opening part.committed) m) rest z past') (sym there) p);
            state = h.past.state ∙ sym s;
            ascending = well.ascending;
          };
          sealed =
              let a = ap length rows in
              let b = length-append (rowed r opening part.committed) (rows_of message_order m (r.notes (reached r opening part.committed) m)) in
              let n : length (rows_of message_order m (r.notes (reached r opening part.committed) m)) ≡ length (r.notes (reached r opening part.committed) m) = length-map (r.notes (reached r opening part.committed) m) _ in
              let g = h.sealed in
              omega arith;
          committed = let a = length-append part.committed (m ∷ []) in let b = h.committed in omega arith;
          counts = counts-less m part.tally q.tally (with_done t past'.done) h.counts (λ x.
              with_done-committed R.messages m rest t q.past.done past'.done (done-messages h.past ∙ d)
              (ap (map (λ e. e.message)) p.done ∙ messages-of r (r.after (reached r opening part.committed) m) rest) x ∙
              ap (signed_count message_order x) (sym e));
          tray = h.tray;
          outbox = h.outbox;
          well = well;
        }))
      where
        seals : commit_oldest r part ≡ oldest_committed r part (m ∷ rest)
        seals = ap (λ b. cond b (oldest_committed r part part.done) part) c ∙ ap (oldest_committed r part) d

        rows : rowed r opening (part.committed ++ m ∷ []) ≡ rowed r opening part.committed ++ rows_of message_order m (r.notes (reached r opening part.committed) m)
        rows = rowed-append r opening part.committed (m ∷ []) ∙
            ap (λ z. rowed r opening part.committed ++ z) (append-nil _ ∙ ap (λ o. rows_of o m (r.notes (reached r opening part.committed) m)) R.order_is)

        there : drop q.left (rowed r opening (part.committed ++ m ∷ [])) ≡
            rows_there r opening part q ++ rows_of message_order m (r.notes (reached r opening part.committed) m)
        there = ap (drop q.left) rows ∙ drop-append-le q.left (rowed r opening part.committed) _ (let k = h.sealed in omega arith)

        well : IsWell r (λ s. ⊤) opening (oldest_committed r part (m ∷ rest))
        well = subst (IsWell r (λ s. ⊤) opening) seals (commit-well r R.order (λ s. ⊤) (λ s e g. R.undoes s e) opening part h.well).well

  -- it stays
  pub commit-stays : {opening : S} {part : Part Message S} {q : Queues S K} → StandsFor r is_value opening part q → can_commit r.order part part.done ≡ false →
      StandsFor r is_value opening (commit_oldest r part) q
  commit-stays {opening} {part} {q} h c = subst (λ z. StandsFor r is_value opening z q) (sym (ap (λ b. cond b (oldest_committed r part part.done) part) c)) h

  -- the oldest rows of committed events leave
  pub gone-stands : {opening : S} {part : Part Message S} {q q' : Queues S K} → StandsFor r is_value opening part q → (n : ℕ) → n ≤ q.sealed →
      q' ≡ record q { past = record q.past { rows = drop n q.past.rows }; left = q.left + n; sealed = q.sealed - n } → StandsFor r is_value opening part q'
  gone-stands {opening} {part} {q} h n within e = subst (StandsFor r is_value opening part) (sym e) (record {
    past = record {
      past_of = record {
        state = h.past.past_of.state;
        done = h.past.past_of.done;
        values = h.past.past_of.values;
        sends = h.past.past_of.sends;
        rows = ap (drop n) h.past.past_of.rows ∙
            (drop-append-le n (drop q.left all) _ (let k = h.sealed in let d = length-drop q.left all in omega arith) ∙
            ap (λ z. z ++ rowed r (reached r opening part.committed) part.done) (drop-drop n q.left all));
      };
      state = h.past.state;
      ascending = h.past.ascending;
    };
    sealed = let k = h.sealed in omega arith;
    committed = h.committed;
    counts = h.counts;
    tray = h.tray;
    outbox = h.outbox;
    well = h.well;
  })
    where
      all : Rows
      all = rowed r opening part.committed

  -- several letters come to the back of the tray
  pub delivered_all-stands : (ls : List Letter) {opening : S} {part : Part Message S} {q q' : Queues S K} → StandsFor r is_value opening part q →
      q' ≡ record q { tray = q.tray ++ ls } → StandsFor r is_value opening (delivered_all ls part) q'
  delivered_all-stands [] {opening} {part} {q} h e = subst (StandsFor r is_value opening part) (sym (e ∙ ap (λ ts. record q { tray = ts }) (append-nil q.tray))) h
  delivered_all-stands (l ∷ ls) {q = q} h e =
      delivered_all-stands ls (delivered-stands h l refl) (e ∙ ap (λ ts. record q { tray = ts }) (sym (append_assoc q.tray (l ∷ []) ls)))

  -- what an act does keeps what always holds of a process: the old one, as it is told, and the queues afterwards, where the message that is kept is the next one then
  pub keeps : {act : S → Part Message S → Part Message S} {old told : InHand S K} {new : Queues S K} {next next' : Option Message} → old ≡ told →
      IsStanding r is_value next old.queues → Does r is_value act told.queues new →
      ((opening : S) (part : Part Message S) → StandsFor r is_value opening part old.queues → StandsFor r is_value opening (act opening part) new → next' ≡ next_in new) →
      IsStanding r is_value next' new
  keeps {act} e i does found =
      let stands = does i.0 i.1 (subst (λ p. StandsFor r is_value i.0 i.1 p.queues) e i.2) in
      (i.0, act i.0 i.1, stands, found i.0 i.1 i.2 stands)
