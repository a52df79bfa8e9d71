-- One event more at the end of several, or one less: what is kept of them, what they sent, and their rows.
use Rattle.std.proofs.Common.{◌≡◌, ℕ, ◌+◌, ◌-◌, ◌<◌, List, [], ◌∷◌, ◌++◌, length, map, take, drop, refl, sym, ap, ◌∙◌, subst, arith, append_assoc, append-nil, length-append}
use Rattle.std.proofs.Math.Seq.{take-append_seam, drop-append_seam}
use Rattle.std.proofs.lemmas.List.{length-map}
use Rattle.vlink.specs.declared.message.Message.{Message}
use Rattle.vlink.specs.declared.note.Note.{Note}
use Rattle.vlink.specs.Order.{message_order}
use Rattle.virtual_time.specs.Law.{Rules, reached, sent, rowed, rows_of}
use Rattle.virtual_time.proofs.Handling.{reached-append, sent-append, rowed-append}
use Rattle.process_steps.specs.declared.event.Event.{Event}
use Rattle.process_queues.specs.Past.{Past, Rows, event_of, events_of, handled_past, IsPastOf}
use Rattle.reverse.specs.Rules.{AreValues}
use Rattle.process_queues.proofs.Taking.{snoc-equal, split-last}

-- the front part of a list, and what is behind it
pub front-of : {A : Type 0} (xs ys : List A) (k : ℕ) → k ≡ length xs → take k (xs ++ ys) ≡ xs
front-of xs ys k e = ap (λ n. take n (xs ++ ys)) e ∙ take-append_seam xs ys

pub back-of : {A : Type 0} (xs ys : List A) (k : ℕ) → k ≡ length xs → drop k (xs ++ ys) ≡ ys
back-of xs ys k e = ap (λ n. drop n (xs ++ ys)) e ∙ drop-append_seam xs ys

module _ {S K : Type 0} (r : Rules Message S K Note) where
  events-append : (s : S) (ms ns : List Message) → events_of r s (ms ++ ns) ≡ events_of r s ms ++ events_of r (reached r s ms) ns
  events-append s [] ns = refl
  events-append s (m ∷ ms) ns = ap (λ es. event_of r s m ∷ es) (events-append (r.after s m) ms ns)

  pub messages-of : (s : S) (ms : List Message) → map (λ e. e.message) (events_of r s ms) ≡ ms
  messages-of s [] = refl
  messages-of s (m ∷ ms) = ap (λ xs. m ∷ xs) (messages-of (r.after s m) ms)

  values-append : (is_value : S → Message → Type 0) (s : S) (ms : List Message) (m : Message) → AreValues r is_value s ms → is_value (reached r s ms) m →
      AreValues r is_value s (ms ++ m ∷ [])
  values-append is_value s [] m h v = (v, tt)
  values-append is_value s (x ∷ xs) m h v = (h.0, values-append is_value (r.after s x) xs m h.1 v)

  values-last : (is_value : S → Message → Type 0) (s : S) (ms : List Message) (m : Message) → AreValues r is_value s (ms ++ m ∷ []) →
      AreValues r is_value s ms × is_value (reached r s ms) m
  values-last is_value s [] m h = (tt, h.0)
  values-last is_value s (x ∷ xs) m h = let a = values-last is_value (r.after s x) xs m h.1 in ((h.0, a.0), a.1)

  pub as_many : (s : S) (ms : List Message) → length (events_of r s ms) ≡ length ms
  as_many s [] = refl
  as_many s (m ∷ ms) = let e = as_many (r.after s m) ms in omega arith

  -- the last event: the state now and its record came from it, at the state that the events before it led to
  pub record CameLast (is_value : S → Message → Type 0) (start : S) (ms : List Message) (earlier : Rows)
      (e : Message) (past : Past S K) (front : List (Event K)) (event : Event K) : Type 0 where
    pub state : past.state ≡ r.after (reached r start ms) e
    pub event_is : event ≡ event_of r (reached r start ms) e
    pub front_is : front ≡ events_of r start ms
    pub valid : is_value (reached r start ms) e
    pub values : AreValues r is_value start ms
    pub sends : past.sends ≡ sent r start ms ++ r.sends (reached r start ms) e
    pub rows : past.rows ≡ (earlier ++ rowed r start ms) ++ rows_of r.order e (r.notes (reached r start ms) e)
    -- so many of what was sent, and so many rows, are its
    pub sent : length past.sends ≡ length (sent r start ms) + event.sent
    pub noted : length past.rows ≡ length (earlier ++ rowed r start ms) + event.noted

module _ {S K : Type 0} {r : Rules Message S K Note} {is_value : S → Message → Type 0} {start : S} {earlier : Rows} {past : Past S K} where
  -- one event is handled at the end
  pub past-more : {ms : List Message} (m : Message) → r.order ≡ message_order → IsPastOf r is_value start ms earlier past → is_value past.state m →
      IsPastOf r is_value start (ms ++ m ∷ []) earlier (handled_past r past m)
  past-more {ms} m order_is h v = record {
    state = ap (λ s. r.after s m) h.state ∙ sym (reached-append r start ms (m ∷ []));
    done = ap (λ es. es ++ event_of r past.state m ∷ []) h.done ∙ (ap (λ s. events_of r start ms ++ event_of r s m ∷ []) h.state ∙ sym (events-append r start ms (m ∷ [])));
    values = values-append r is_value start ms m h.values (subst (λ s. is_value s m) h.state v);
    sends = ap (λ es. es ++ r.sends past.state m) h.sends ∙ (ap (λ s. sent r start ms ++ r.sends s m) h.state ∙
        sym (sent-append r start ms (m ∷ []) ∙ ap (λ z. sent r start ms ++ z) (append-nil _)));
    rows = ap (λ rs. rs ++ map (λ n. record { message = m; place = m.receiver; note = n }) (r.notes past.state m)) h.rows ∙
        (append_assoc earlier (rowed r start ms) _ ∙
        ap (λ z. earlier ++ z) (ap (λ z. rowed r start ms ++ z) (ap (λ o. rows_of o m (r.notes past.state m)) (sym order_is) ∙ ap (λ s. rows_of r.order m (r.notes s m)) h.state) ∙
        sym (rowed-append r start ms (m ∷ []) ∙ ap (λ z. rowed r start ms ++ z) (append-nil _))));
  }

  pub came-last : (ms : List Message) (e : Message) (front : List (Event K)) (event : Event K) → past.done ≡ front ++ event ∷ [] →
      IsPastOf r is_value start (ms ++ e ∷ []) earlier past → CameLast r is_value start ms earlier e past front event
  came-last ms e front event d h =
      let both = snoc-equal front (events_of r start ms) event (event_of r (reached r start ms) e) (sym d ∙ (h.done ∙ events-append r start ms (e ∷ []))) in
      let v = values-last r is_value start ms e h.values in
      let sends : past.sends ≡ sent r start ms ++ r.sends (reached r start ms) e =
      h.sends ∙ (sent-append r start ms (e ∷ []) ∙ ap (λ z. sent r start ms ++ z) (append-nil _)) in
      let rows : past.rows ≡ (earlier ++ rowed r start ms) ++ rows_of r.order e (r.notes (reached r start ms) e) =
      h.rows ∙ (ap (λ z. earlier ++ z) (rowed-append r start ms (e ∷ []) ∙ ap (λ z. rowed r start ms ++ z) (append-nil _)) ∙ sym (append_assoc earlier (rowed r start ms) _)) in
      record {
        state = h.state ∙ reached-append r start ms (e ∷ []);
        event_is = both.1;
        front_is = both.0;
        valid = v.1;
        values = v.0;
        sends = sends;
        rows = rows;
        sent = ap length sends ∙ (length-append (sent r start ms) _ ∙ ap (λ (x : Event K). length (sent r start ms) + x.sent) (sym both.1));
        noted = ap length rows ∙ (length-append (earlier ++ rowed r start ms) _ ∙
            ap (λ n. length (earlier ++ rowed r start ms) + n) (length-map (r.notes (reached r start ms) e) _ ∙ ap (λ (x : Event K). x.noted) (sym both.1)));
      }

  -- of a past with an event at the end something was done
  pub some-done : (ms : List Message) (e : Message) → IsPastOf r is_value start (ms ++ e ∷ []) earlier past → 0 < length past.done
  some-done ms e h =
      let a = ap length (h.done ∙ events-append r start ms (e ∷ [])) ∙ length-append (events_of r start ms) (event_of r (reached r start ms) e ∷ []) in
      omega arith

  -- where something was done, there is a last event
  pub has-last : {ns : List Message} (front : List (Event K)) (event : Event K) → past.done ≡ front ++ event ∷ [] → IsPastOf r is_value start ns earlier past →
      (ms : List Message) × (e : Message) × CameLast r is_value start ms earlier e past front event
  has-last {ns} front event d h =
      let a = ap length d ∙ length-append front (event ∷ []) in
      let b = ap length h.done ∙ as_many r start ns in
      let k = split-last ns (omega arith) in
      (k.0, k.1, came-last k.0 k.1 front event d (subst (λ z. IsPastOf r is_value start z earlier past) k.2 h))

  -- where nothing is left, the state is that at the start
  pub left-none : (ns : List Message) → IsPastOf r is_value start ns earlier past → length past.done ≡ 0 → past.state ≡ start
  left-none [] h z = h.state
  left-none (n ∷ ns) h z = let b = ap length h.done ∙ as_many r start (n ∷ ns) in absurd (omega arith)

module _ {S K : Type 0} {r : Rules Message S K Note} {is_value : S → Message → Type 0} {start : S} {ms : List Message} {earlier : Rows} {e : Message} {past : Past S K}
    {front : List (Event K)} {event : Event K} (l : CameLast r is_value start ms earlier e past front event) where
  -- what it sent
  pub last-sends : drop (length past.sends - event.sent) past.sends ≡ r.sends (reached r start ms) e
  last-sends =
      let n = l.sent in
      ap (drop (length past.sends - event.sent)) l.sends ∙ back-of (sent r start ms) (r.sends (reached r start ms) e) (length past.sends - event.sent) (omega arith)

  -- what undoing it asks for
  pub came-from : (s : S) × is_value s event.message × (past.state ≡ r.after s event.message) × (event.kept ≡ r.kept s event.message)
  came-from =
      let same : event.message ≡ e = ap (λ x. x.message) l.event_is in (
        reached r start ms,
        subst (is_value (reached r start ms)) (sym same) l.valid,
        l.state ∙ ap (r.after (reached r start ms)) (sym same),
        ap (λ x. x.kept) l.event_is ∙ ap (r.kept (reached r start ms)) (sym same),
      )

  module _ (law : (s : S) → r.undo (r.after s e) e (r.kept s e) ≡ s) (now : S) (undone : now ≡ r.undo past.state event.message event.kept) where
    came-back : now ≡ reached r start ms
    came-back = undone ∙ (ap (λ z. r.undo past.state z.message z.kept) l.event_is ∙
        (ap (λ z. r.undo z e (r.kept (reached r start ms) e)) l.state ∙ law (reached r start ms)))

    -- it is undone
    pub past-less : (sends : List Message) (rows : Rows) → sends ≡ take (length past.sends - event.sent) past.sends → rows ≡ take (length past.rows - event.noted) past.rows →
        IsPastOf r is_value start ms earlier (record { state = now; done = front; sends = sends; rows = rows })
    past-less sends rows c d =
        let s = l.sent in
        let n = l.noted in
        record {
          state = came-back;
          done = l.front_is;
          values = l.values;
          sends = c ∙ (ap (take (length past.sends - event.sent)) l.sends ∙
              front-of (sent r start ms) (r.sends (reached r start ms) e) (length past.sends - event.sent) (omega arith));
          rows = d ∙ (ap (take (length past.rows - event.noted)) l.rows ∙
              front-of (earlier ++ rowed r start ms) (rows_of r.order e (r.notes (reached r start ms) e)) (length past.rows - event.noted) (omega arith));
        }

    -- it is undone, of state and events alone
    pub left-less : IsPastOf r is_value start ms [] (record { state = now; done = front; sends = sent r start ms; rows = rowed r start ms })
    left-less = record { state = came-back; done = l.front_is; values = l.values; sends = refl; rows = refl }
