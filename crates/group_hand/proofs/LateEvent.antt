-- An event that is handled late: newer ones of other members are set aside, and come back behind it.
use Rattle.std.proofs.Common.{◌≡◌, ℕ, ◌==◌, true, false, cond, Option, List, [], ◌∷◌, ◌++◌, map, reverse, Some, All, IsPermutation, refl, sym, ap, ◌∙◌, subst, append_assoc, slice_get, set, length-set}
use Rattle.std.proofs.lemmas.List.{reverse-append, reverse-reverse}
use Rattle.std.proofs.lemmas.List.Elements.{All-cons, All-head, All-tail}
use Rattle.vlink.specs.declared.message.Message.{Message}
use Rattle.vlink.specs.Order.{message_order}
use Rattle.virtual_time.specs.Law.{Order, IsOrder, IsAscending, times_in, plus_of}
use Rattle.reverse.specs.Plain.{Plain}
use Rattle.reverse.specs.Rules.{rules_of}
use Rattle.reverse.specs.declared.sends.Sends.{Sends}
use Rattle.antimessages.specs.Counting.{is_after, newest_of}
use Rattle.group_queues.specs.declared.block.Word.TheVariants.{Ran}
use Rattle.group_hand.specs.Arriving.{WentOn, to_members, to_others, words_taken}
use Rattle.group_queues.specs.DoneEvents.{DoneEvent, done_event_of, done_events_at, messages_of}
use Rattle.group_queues.specs.Flow.{Flow}
use Rattle.group_hand.specs.Handling.{SetAside}
use Rattle.group_hand.specs.Hands.{DoesSent}
use Rattle.group_hand.specs.Passing.{held}
use Rattle.group_queues.specs.Rows.{Sealed}
use Rattle.group_hand.specs.Undoing.{CameTo}
use Rattle.group_hand.proofs.Came.{handled-came}
use Rattle.group_hand.proofs.FirstEvent.{set-here, set-there, set-ours}
use Rattle.group_hand.proofs.LateTold.{late-told}
use Rattle.group_hand.proofs.Parted.{between-mine, between-kept}
use Rattle.group_hand.proofs.WentOn.{to_members-same, to_others-same}

module _ {K : Type 0} (o : Order Message) (m : Message) where
  -- the newest goes there too
  pub aside-more : (done front aside : List (DoneEvent K)) (d : DoneEvent K) → o.less d.message m ≡ false → (o.receiver d.message == o.receiver m) ≡ false →
      SetAside o m done (front ++ d ∷ []) aside → SetAside o m done front (aside ++ d ∷ [])
  aside-more done front aside d late other a = record {
    behind = d ∷ a.behind;
    was = a.was ∙ append_assoc front (d ∷ []) a.behind;
    late = All-cons (λ y. o.less y m ≡ false) d.message (messages_of a.behind) late a.late;
    others = All-cons (λ y. (o.receiver y == o.receiver m) ≡ false) d.message (messages_of a.behind) other a.others;
    is_aside = ap (λ z. z ++ d ∷ []) a.is_aside ∙ sym (reverse-append (d ∷ []) a.behind);
  }

  -- those that were set aside are back
  pub set-back : (done front aside later : List (DoneEvent K)) → SetAside o m done front aside → later ≡ front ++ reverse aside → later ≡ done
  set-back done front aside later a e = e ∙ (ap (λ z. front ++ reverse z) a.is_aside ∙ (ap (λ z. front ++ z) (reverse-reverse a.behind) ∙ sym a.was))

  none-of : (ds : List (DoneEvent K)) → All (λ y. (o.receiver y == o.receiver m) ≡ false) (messages_of ds) → done_events_at o (o.receiver m) ds ≡ []
  none-of [] a = refl
  none-of (d ∷ ds) a =
      ap (λ b. cond b (d ∷ done_events_at o (o.receiver m) ds) (done_events_at o (o.receiver m) ds)) (All-head (λ y. (o.receiver y == o.receiver m) ≡ false) d.message (messages_of ds) a) ∙
      none-of ds (All-tail (λ y. (o.receiver y == o.receiver m) ≡ false) d.message (messages_of ds) a)

module _ {S K : Type 0} (plain : Plain S Message Sends K) (V : S → Message → Type 0) (O : IsOrder message_order)
    (law : (s : S) (e : Message) → plain.before (plain.after s e) e (plain.saves s e) ≡ s)
    (members : List (Option S)) (done front aside later : List (DoneEvent K)) (rows : Sealed) (old popped told new : Flow) (m : Message) (s : S)
    (at : slice_get members m.receiver ≡ Some (Some s)) (value : V s m) (set_aside : SetAside message_order m done front aside)
    (early : is_after message_order (newest_of (messages_of front)) m ≡ true) (back : later ≡ (front ++ done_event_of (rules_of plain) s m ∷ []) ++ reverse aside) where
  abbrev members' : List (Option S)
  members' = set members m.receiver (Some (plain.after s m))

  done-now : later ≡ front ++ done_event_of (rules_of plain) s m ∷ set_aside.behind
  done-now =
      back ∙ (append_assoc front (done_event_of (rules_of plain) s m ∷ []) (reverse aside) ∙
      ap (λ z. front ++ done_event_of (rules_of plain) s m ∷ z) (ap reverse set_aside.is_aside ∙ reverse-reverse set_aside.behind))

  -- the state of each member came from what it has done
  pub late-came : ((p : ℕ) → CameTo (rules_of plain) V members done p) → (p : ℕ) → CameTo (rules_of plain) V (set members m.receiver (Some (plain.after s m))) later p
  late-came came =
      handled-came (rules_of plain) O V members members' done later m s at (set-here members m.receiver (Some (plain.after s m)) (Some s) at)
      (λ q n. set-there members m.receiver q (Some (plain.after s m)) n) value
      (ap (done_events_at message_order m.receiver) done-now ∙
      (between-mine (rules_of plain) O front set_aside.behind m (none-of message_order m set_aside.behind set_aside.others) (done_event_of (rules_of plain) s m) refl ∙
      ap (λ z. done_events_at message_order m.receiver z ++ done_event_of (rules_of plain) s m ∷ []) (sym set_aside.was)))
      (λ q n. ap (done_events_at message_order q) done-now ∙ (between-kept (rules_of plain) O front set_aside.behind m (done_event_of (rules_of plain) s m) refl q n ∙
      ap (done_events_at message_order q) (sym set_aside.was)))
      came

  -- the steps that this is
  pub late-handles : All (λ y. message_order.less y m ≡ false) old.queue → (IsAscending message_order (messages_of done) → times_in message_order m (messages_of done) ≡ 0) →
      IsPermutation old.queue (m ∷ popped.queue) → popped ≡ record old { queue = popped.queue; room = popped.room } →
      told ≡ record popped { words = popped.words ++ Ran m.receiver ∷ []; room = told.room } →
      WentOn (set members m.receiver (Some (plain.after s m))) (map plus_of ((rules_of plain).sends s m)) told new → new.queue ≡ told.queue → new.extra ≡ told.extra →
      DoesSent (rules_of plain) V (held members done rows old) [] (held (set members m.receiver (Some (plain.after s m))) later rows new) []
  late-handles first not_done queue took tells went same_queue same_extra =
      late-told plain V O law m s (held members done rows old) (held members' later rows new)
      (record {
        tray = went.tray ∙ (λ j. tray-was j ++ home-same j);
        abroad = went.abroad ∙ (λ j. abroad-was j ++ others-same j);
        words = went.words ∙ (λ j. words-were j ++ words_taken (home-same j));
        keeps = went.keeps ∙ (ap (λ z. z.keeps) tells ∙ ap (λ z. z.keeps) took);
      }) refl
      (λ up. record {
        first = first;
        not_done = not_done up;
        queue = subst (λ z. IsPermutation old.queue (m ∷ z)) (sym (same_queue ∙ ap (λ z. z.queue) tells)) queue;
        extra = same_extra ∙ (ap (λ z. z.extra) tells ∙ ap (λ z. z.extra) took);
        before = at;
        value = value;
        state = set-here members m.receiver (Some (plain.after s m)) (Some s) at;
        others = λ q n. set-there members m.receiver q (Some (plain.after s m)) n;
        count = length-set members m.receiver (Some (plain.after s m));
        front = front;
        behind = set_aside.behind;
        was = set_aside.was;
        done = done-now;
        early = early;
        late = set_aside.late;
        rows = refl;
      })
    where
      home-same : to_members members' (map plus_of ((rules_of plain).sends s m)) ≡ to_members members (map plus_of ((rules_of plain).sends s m))
      home-same = to_members-same members' members (set-ours members m.receiver s (plain.after s m) at) (map plus_of ((rules_of plain).sends s m))

      others-same : to_others members' (map plus_of ((rules_of plain).sends s m)) ≡ to_others members (map plus_of ((rules_of plain).sends s m))
      others-same = to_others-same members' members (set-ours members m.receiver s (plain.after s m) at) (map plus_of ((rules_of plain).sends s m))

      tray-was : told.tray ≡ old.tray
      tray-was = ap (λ z. z.tray) tells ∙ ap (λ z. z.tray) took

      abroad-was : told.abroad ≡ old.abroad
      abroad-was = ap (λ z. z.abroad) tells ∙ ap (λ z. z.abroad) took

      words-were : told.words ≡ old.words ++ Ran m.receiver ∷ []
      words-were = ap (λ z. z.words) tells ∙ ap (λ z. z.words ++ Ran m.receiver ∷ []) took
