-- The front of the tray arrived, as code has it: how it counts, what its receiver undid, and what was taken back.
use Rattle.std.proofs.Common.{◌≡◌, ◌≢◌, ℕ, ◌+◌, ◌<◌, ◌⊎◌, inl, inr, Bool, true, false, not, Option, List, [], ◌∷◌, ◌++◌, All, Contains, length, map, reverse, pos, ◌≤ℤ◌, IsPermutation, refl, sym, ap, ◌∙◌, subst, arith, length-append}
use Rattle.std.proofs.lemmas.List.{length-map}
use Rattle.std.proofs.lemmas.List.Filters.{length-filter_both}
use Rattle.std.proofs.lemmas.List.Elements.{Contains-append_right, Contains-get_or}
use Rattle.std.proofs.lemmas.List.Sorted.{IsPermutation-refl, IsPermutation-trans, IsPermutation-cons}
use Rattle.vlink.specs.declared.message.Message.{Message}
use Rattle.vlink.specs.Letters.{Letter}
use Rattle.vlink.specs.Order.{message_order}
use Rattle.virtual_time.specs.declared.letter.Sign.TheVariants.{Plus, Minus}
use Rattle.virtual_time.specs.Law.{IsOrder, IsAscending, IsIn, times_in, minus_of}
use Rattle.virtual_time.proofs.Lists.{in-cons, times-append}
use Rattle.reverse.specs.Plain.{Plain}
use Rattle.reverse.specs.Rules.{rules_of}
use Rattle.reverse.specs.declared.sends.Sends.{Sends}
use Rattle.antimessages.specs.Counting.{HaveSameCounts, signed_count}
use Rattle.two_lists.proofs.Counting.{times-permutation}
use Rattle.group_queues.specs.declared.block.Word.TheVariants.{Arrived}
use Rattle.group_queues.specs.declared.tray.Way.{Way}
use Rattle.group_queues.specs.declared.tray.Way.TheVariants.{Beside, Joins, Leaves, Undoes}
use Rattle.group_hand.specs.Arriving.{FrontArrived, WentOn, CountsMore, JoinsQueue, LeavesQueue, IsUndone, sent_by, taken_back, to_members, to_others, words_taken}
use Rattle.group_queues.specs.DoneEvents.{DoneEvent, done_events_at, messages_of, sent_in}
use Rattle.group_queues.specs.Flow.{Flow}
use Rattle.group_hand.specs.Hands.{is_ours}
use Rattle.group_hand.specs.Passing.{held}
use Rattle.group_queues.specs.Rows.{Sealed}
use Rattle.group_queues.specs.Counted.{CountedBeside, FoundWaiting, FrontCounts}
use Rattle.group_hand.specs.Undoing.{Retreat, RolledBack, Settled}
use Rattle.group_queues.proofs.Among.{none-among}
use Rattle.group_hand.proofs.FrontCases.{front-still, front-rolled, are-late}
use Rattle.group_hand.proofs.Rolled.{done-is, is-late, settled-sent}
use Rattle.group_hand.proofs.WentOn.{to_members-same, to_others-same}

-- what is in a list is at a place of it
in-contains : IsOrder message_order → (m : Message) (xs : List Message) → IsIn message_order m xs → Contains xs m
in-contains O m [] i = absurd (omega arith)
in-contains O m (x ∷ xs) i = elim (in-cons message_order O m x xs i) [
  | inl e ↦ subst (λ z. Contains (x ∷ xs) z) (sym e) (Contains-get_or (x ∷ xs) 0 x (omega arith))
  | inr j ↦ Contains-append_right (x ∷ []) xs m (in-contains O m xs j)
]

module _ {S K : Type 0} (plain : Plain S Message Sends K) (V : S → Message → Type 0) (O : IsOrder message_order) (l : Letter) (rest : List Letter) (is_done : Bool)
    (members members' : List (Option S)) (done done' : List (DoneEvent K)) (rows : Sealed) (old counted told settled new : Flow) (back : List Message)
    (tray : old.tray ≡ l ∷ rest) (yes : is_done ≡ true → IsIn message_order l.message (messages_of done))
    (no : is_done ≡ false → IsAscending message_order (messages_of done) → times_in message_order l.message (messages_of done) ≡ 0)
    (only : counted ≡ record old { queue = counted.queue; extra = counted.extra; room = counted.room })
    (left : told.tray ≡ rest) (word : told.words ≡ counted.words ++ Arrived l.message.receiver ∷ []) (taken : told ≡ record counted { tray = told.tray; words = told.words; room = told.room })
    (others : settled ≡ record told { queue = settled.queue; room = settled.room })
    (gone : WentOn members' (map minus_of back) settled new) (queue : new.queue ≡ settled.queue) (extra : new.extra ≡ settled.extra) where
  -- what arrived, and how that is told
  pub record Fronted : Type 0 where
    pub late : List (DoneEvent K)
    pub went : WentOn members (taken_back late) (record old { tray = rest; words = old.words ++ Arrived l.message.receiver ∷ [] }) new
    pub arrived : IsAscending message_order (messages_of done) → FrontArrived (rules_of plain) l rest late (held members done rows old) (held members' done' rows new)

  module _ (late_ones : List (DoneEvent K)) (same : back ≡ reverse (sent_by late_ones)) (ours : (q : ℕ) → is_ours members' q ≡ is_ours members q) where
    home-same : to_members members' (map minus_of back) ≡ to_members members (taken_back late_ones)
    home-same = to_members-same members' members ours (map minus_of back) ∙ ap (λ z. to_members members (map minus_of z)) same

    abroad-same : to_others members' (map minus_of back) ≡ to_others members (taken_back late_ones)
    abroad-same = to_others-same members' members ours (map minus_of back) ∙ ap (λ z. to_others members (map minus_of z)) same

    went-with : WentOn members (taken_back late_ones) (record old { tray = rest; words = old.words ++ Arrived l.message.receiver ∷ [] }) new
    went-with = record {
      tray = gone.tray ∙ (λ j. (ap (λ z. z.tray) others ∙ left) j ++ home-same j);
      abroad = gone.abroad ∙ (λ j. (ap (λ z. z.abroad) others ∙ (ap (λ z. z.abroad) taken ∙ ap (λ z. z.abroad) only)) j ++ abroad-same j);
      words = gone.words ∙ (λ j. (ap (λ z. z.words) others ∙ (word ∙ ap (λ z. z.words ++ Arrived l.message.receiver ∷ []) only)) j ++ words_taken (home-same j));
      keeps = gone.keeps ∙ (ap (λ z. z.keeps) others ∙ (ap (λ z. z.keeps) taken ∙ ap (λ z. z.keeps) only));
    }

  extra-is : new.extra ≡ counted.extra
  extra-is = extra ∙ (ap (λ z. z.extra) others ∙ ap (λ z. z.extra) taken)

  told-queue : told.queue ≡ counted.queue
  told-queue = ap (λ z. z.queue) taken

  -- nothing was undone
  module _ (same : members' ≡ members) (kept : done' ≡ done) (none : back ≡ []) (waits : settled.queue ≡ told.queue) where
    still-with : (IsAscending message_order (messages_of done) → CountsMore message_order l [] (held members done rows old) (held members' done' rows new)
        ⊎ LeavesQueue message_order l [] (held members done rows old) (held members' done' rows new)) → Fronted
    still-with counts = record {
      late = [];
      went = went-with [] none (λ q. ap (λ z. is_ours z q) same);
      arrived = λ up. front-still (rules_of plain) O l rest (held members done rows old) (held members' done' rows new) tray refl same kept (counts up);
    }

    queue-is : new.queue ≡ counted.queue
    queue-is = queue ∙ (waits ∙ told-queue)

    stays-beside : CountedBeside l is_done old counted → Fronted
    stays-beside b =
        still-with (λ up. inl (record {
          why = elim b.why [
            | inl x ↦ inl (x.0, elim x.1 [ inl n ↦ inl n | inr d ↦ inr (yes d) ])
            | inr x ↦ inr (x.0, elim x.1 [ inl n ↦ inl n | inr d ↦ inr (d.0, none-among O old.queue l.message d.1, no d.2 up) ])
          ];
          none = refl;
          queue = subst (IsPermutation old.queue) (sym (queue-is ∙ b.queue)) (IsPermutation-refl old.queue);
          extra = subst (λ z. HaveSameCounts message_order z (l ∷ old.extra)) (sym extra-is) b.extra;
        }))

    leaves-queue : FoundWaiting l is_done old counted → Fronted
    leaves-queue b =
        still-with (λ up. inr (record {
          sign = b.sign;
          beside = b.beside;
          none = refl;
          queue = subst (λ z. IsPermutation old.queue (l.message ∷ z)) (sym queue-is) b.queue;
          extra = λ y. ap (signed_count message_order y) (extra-is ∙ b.extra);
        }))

  -- the receiver rolled back
  abbrev at_first : Retreat S K
  at_first = record { members = members; done = done; aside = []; queue = told.queue; back = [] }

  abbrev at_last : List Message → Retreat S K
  at_last waits = record { members = members'; done = done'; aside = []; queue = waits; back = back }

  module _ (waits : List Message) (b : RolledBack (rules_of plain) l.message at_first (at_last waits)) (same : counted.queue ≡ old.queue) (same_extra : counted.extra ≡ old.extra) where
    abbrev late_ones : List (DoneEvent K)
    late_ones = done_events_at message_order l.message.receiver b.rolled.behind

    rolled-with : (IsAscending message_order (messages_of done) → JoinsQueue message_order l late_ones (held members done rows old) (held members' done' rows new)
        ⊎ IsUndone message_order l late_ones (held members done rows old) (held members' done' rows new)) → Fronted
    rolled-with counts = record {
      late = late_ones;
      went = went-with late_ones b.rolled.back b.rolled.ours;
      arrived = λ up. front-rolled (rules_of plain) O l rest (held members done rows old) (held members' done' rows new) tray refl b.front b.rolled.behind b.rolled.done
          (done-is (rules_of plain) O V l.message at_first (at_last waits) b) b.rolled.late b.newest b.rolled.state b.rolled.others b.rolled.count (counts up);
    }

    waited : IsPermutation (messages_of late_ones ++ old.queue) waits
    waited = subst (λ z. IsPermutation (messages_of late_ones ++ z) waits) (told-queue ∙ same) b.rolled.queue

    joins-queue : l.sign ≡ Plus → pos 0 ≤ℤ signed_count message_order l.message old.extra → is_done ≡ false → IsPermutation (l.message ∷ waits) settled.queue → Fronted
    joins-queue sign beside n p =
        rolled-with (λ up. inl (record {
          sign = sign;
          beside = beside;
          not_done = no n up;
          undone = are-late (rules_of plain) O l rest (held members done rows old) (held members' done' rows new) tray refl b.front b.rolled.behind b.rolled.done
              (done-is (rules_of plain) O V l.message at_first (at_last waits) b) b.rolled.late b.newest up;
          queue = subst (IsPermutation (l.message ∷ (messages_of late_ones ++ old.queue))) (sym queue)
              (IsPermutation-trans (l.message ∷ (messages_of late_ones ++ old.queue)) (l.message ∷ waits) settled.queue
              (IsPermutation-cons l.message (messages_of late_ones ++ old.queue) waits waited) p);
          extra = λ y. ap (signed_count message_order y) (extra-is ∙ same_extra);
        }))

    waits-too : IsAscending message_order (messages_of done) → is_done ≡ true → Contains waits l.message
    waits-too up d =
        let i = is-late (rules_of plain) O V l.message at_first (at_last waits) b up (yes d) in
        let t = times-permutation message_order l.message (messages_of late_ones ++ old.queue) waits waited in
        let a = times-append message_order O l.message (messages_of late_ones) old.queue in
        in-contains O l.message waits (omega arith)

    is-undone : l.sign ≡ Minus → signed_count message_order l.message old.extra ≤ℤ pos 0 → All (λ x. x ≢ l.message) old.queue → is_done ≡ true →
        (Contains waits l.message → IsPermutation waits (l.message ∷ settled.queue)) → Fronted
    is-undone sign beside n d p =
        rolled-with (λ up. inr (record {
          sign = sign;
          beside = beside;
          not_waiting = none-among O old.queue l.message n;
          was_done = yes d;
          undone = are-late (rules_of plain) O l rest (held members done rows old) (held members' done' rows new) tray refl b.front b.rolled.behind b.rolled.done
              (done-is (rules_of plain) O V l.message at_first (at_last waits) b) b.rolled.late b.newest up;
          queue = subst (λ z. IsPermutation (messages_of late_ones ++ old.queue) (l.message ∷ z)) (sym queue)
              (IsPermutation-trans (messages_of late_ones ++ old.queue) waits (l.message ∷ settled.queue) waited (p (waits-too up d)));
          extra = λ y. ap (signed_count message_order y) (extra-is ∙ same_extra);
        }))

  -- whichever way it is
  pub fronted : (way : Way) → FrontCounts l is_done old counted way → Settled (rules_of plain) l.message at_first (at_last settled.queue) way → Fronted
  fronted Beside c s = stays-beside (ap (λ z. z.members) s) (ap (λ z. z.done) s) (ap (λ z. z.back) s) (ap (λ z. z.queue) s) c
  fronted Leaves c s = leaves-queue (ap (λ z. z.members) s) (ap (λ z. z.done) s) (ap (λ z. z.back) s) (ap (λ z. z.queue) s) c
  fronted Joins c s = joins-queue s.0 s.1 c.queue c.extra c.sign c.beside c.not_done s.2
  fronted Undoes c s = is-undone s.0 s.1 c.queue c.extra c.sign c.beside c.not_waiting c.was_done s.2

  -- less is to arrive than before, or to be taken back
  pub tray-fewer : (way : Way) → Settled (rules_of plain) l.message at_first (at_last settled.queue) way → length new.tray + sent_in done' < length old.tray + sent_in done
  tray-fewer way s =
      let a = ap length gone.tray ∙ length-append settled.tray (to_members members' (map minus_of back)) in
      let b = ap length (ap (λ z. z.tray) others ∙ left) in
      let c = ap length tray in
      let d = length-filter_both (λ x. is_ours members' x.message.receiver) (λ x. not (is_ours members' x.message.receiver)) (λ x. refl) (map minus_of back) in
      let e = length-map back (λ x. minus_of x) in
      let i = settled-sent (rules_of plain) O V l.message at_first (at_last settled.queue) refl way s in
      omega arith
