-- Done events of one member in two parts, of which the second is undone.
use Rattle.std.proofs.Common.{◌≡◌, List, [], ◌∷◌, ◌++◌, refl, sym, ap, ◌∙◌}
use Rattle.vlink.specs.declared.message.Message.{Message}
use Rattle.vlink.specs.declared.note.Note.{Note}
use Rattle.virtual_time.specs.Law.{Rules, reached, sent, undone}
use Rattle.reverse.specs.Rules.{AreValues}
use Rattle.group_queues.specs.DoneEvents.{DoneEvent, done_event_of, done_events_of, messages_of}
use Rattle.group_hand.specs.Arriving.{sent_by, undone_events}

module _ {S K : Type 0} (r : Rules Message S K Note) where
  -- the events handled from the state s on are these, and then those
  pub record AreHalves (s : S) (ms : List Message) (xs ys : List (DoneEvent K)) : Type 0 where
    pub messages : ms ≡ messages_of xs ++ messages_of ys
    pub front : xs ≡ done_events_of r s (messages_of xs)
    pub back : ys ≡ done_events_of r (reached r s (messages_of xs)) (messages_of ys)

  all-of : (s : S) (ms : List Message) → messages_of (done_events_of r s ms) ≡ ms
  all-of s [] = refl
  all-of s (m ∷ ms) = ap (λ xs. m ∷ xs) (all-of (r.after s m) ms)

  pub halves-of : (s : S) (ms : List Message) (xs ys : List (DoneEvent K)) → done_events_of r s ms ≡ xs ++ ys → AreHalves s ms xs ys
  halves-of s ms [] ys e =
      let m : ms ≡ messages_of ys = sym (all-of s ms) ∙ ap messages_of e in
      record { messages = m; front = refl; back = sym e ∙ ap (done_events_of r s) m }
  halves-of s [] (x ∷ xs) ys e = absurd (let k : ⊥ = cc in k)
  halves-of s (m ∷ ms) (x ∷ xs) ys e =
      let a : done_event_of r s m ≡ x = cc in
      let b : done_events_of r (r.after s m) ms ≡ xs ++ ys = cc in
      let c : m ≡ x.message = ap (λ z. z.message) a in
      let h = halves-of (r.after s m) ms xs ys b in
      record {
        messages = (λ j. c j ∷ h.messages j);
        front = (λ j. (sym a ∙ ap (done_event_of r s) c) j ∷ (h.front ∙ ap (λ z. done_events_of r (r.after s z) (messages_of xs)) c) j);
        back = h.back ∙ ap (λ z. done_events_of r (reached r (r.after s z) (messages_of xs)) (messages_of ys)) c;
      }

  -- what such events sent, and undoing them by their records
  pub sent-events : (s : S) (ms : List Message) → sent_by (done_events_of r s ms) ≡ sent r s ms
  sent-events s [] = refl
  sent-events s (m ∷ ms) = ap (λ z. r.sends s m ++ z) (sent-events (r.after s m) ms)

  pub undone-events : (s : S) (ms : List Message) (now : S) → undone_events r (done_events_of r s ms) now ≡ undone r s ms now
  undone-events s [] now = refl
  undone-events s (m ∷ ms) now = ap (λ z. r.undo z m (r.kept s m)) (undone-events (r.after s m) ms now)

  -- the values of the first part
  pub values-front : (V : S → Message → Type 0) (s : S) (xs ys : List Message) → AreValues r V s (xs ++ ys) → AreValues r V s xs
  values-front V s [] ys v = tt
  values-front V s (x ∷ xs) ys v = (v.0, values-front V (r.after s x) xs ys v.1)
