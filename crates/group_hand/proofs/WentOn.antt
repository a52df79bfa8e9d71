-- Letters that were posted go on, one after another: those to members are taken to the tray, the others join the letters for others.
use Rattle.std.proofs.Common.{◌≡◌, ℕ, ◌≤◌, Bool, true, false, not, cond, Option, List, [], ◌∷◌, ◌++◌, refl, sym, ap, ◌∙◌, subst, append_assoc, append-nil, arith}
use Rattle.std.proofs.lemmas.List.{map-append}
use Rattle.std.proofs.lemmas.List.Elements.{All-push, filter-append}
use Rattle.vlink.specs.declared.message.Message.{Message}
use Rattle.vlink.specs.Letters.{Letter}
use Rattle.vlink.specs.Order.{message_order}
use Rattle.virtual_time.specs.Law.{IsOrder, World, IsNamed, AreBy, AreDone, done_by, received_by}
use Rattle.virtual_time.proofs.Letters.{named-head}
use Rattle.reverse.specs.Plain.{Plain}
use Rattle.reverse.specs.Rules.{rules_of}
use Rattle.reverse.specs.Setting.{Setting, simulation_of}
use Rattle.reverse.specs.declared.sends.Sends.{Sends}
use Rattle.group_queues.specs.declared.block.Word.TheVariants.{Taken}
use Rattle.group_queues.specs.Block.{steps_told}
use Rattle.group_queues.specs.DoneEvents.{DoneEvent}
use Rattle.group_queues.specs.Flow.{Flow}
use Rattle.group_hand.specs.Hands.{StandsForSent, is_ours}
use Rattle.group_hand.specs.Passing.{held}
use Rattle.group_queues.specs.Rows.{Sealed}
use Rattle.group_hand.specs.Arriving.{WentOn, to_members, to_others, words_taken}
use Rattle.group_hand.proofs.Telling.{are_done-append}
use Rattle.group_hand.proofs.Going.{stands-kept}
use Rattle.group_hand.proofs.Taking.{taken-steps, was-taken}

-- where the same are members, letters to members are the same
pub to_members-same : {S : Type 0} (xs ys : List (Option S)) → ((q : ℕ) → is_ours xs q ≡ is_ours ys q) → (ls : List Letter) → to_members xs ls ≡ to_members ys ls
to_members-same xs ys e [] = refl
to_members-same xs ys e (l ∷ ls) = λ j. cond (e l.message.receiver j) (l ∷ to_members-same xs ys e ls j) (to_members-same xs ys e ls j)

pub to_others-same : {S : Type 0} (xs ys : List (Option S)) → ((q : ℕ) → is_ours xs q ≡ is_ours ys q) → (ls : List Letter) → to_others xs ls ≡ to_others ys ls
to_others-same xs ys e [] = refl
to_others-same xs ys e (l ∷ ls) = λ j. cond (not (e l.message.receiver j)) (l ∷ to_others-same xs ys e ls j) (to_others-same xs ys e ls j)

-- letters to members are taken by members
pub taken-by : {S : Type 0} (members : List (Option S)) (ls : List Letter) → AreBy (is_ours members) (steps_told (words_taken (to_members members ls)))
taken-by members [] = tt
taken-by members (l ∷ ls) = go (taken-by members ls) (is_ours members l.message.receiver) refl
  where
    go : AreBy (is_ours members) (steps_told (words_taken (to_members members ls))) → (b : Bool) → is_ours members l.message.receiver ≡ b →
        AreBy (is_ours members) (steps_told (words_taken (cond b (l ∷ to_members members ls) (to_members members ls))))
    go rest true e = (e, rest)
    go rest false e = rest

-- no letter, and one after another
pub went-none : {S : Type 0} (members : List (Option S)) (old new : Flow) → new.tray ≡ old.tray → new.abroad ≡ old.abroad → new.words ≡ old.words → new.keeps ≡ old.keeps → WentOn members [] old new
went-none members old new t a w k = record { tray = t ∙ sym (append-nil old.tray); abroad = a ∙ sym (append-nil old.abroad); words = w ∙ sym (append-nil old.words); keeps = k }

pub went-both : {S : Type 0} (members : List (Option S)) (xs ys : List Letter) (old mid new : Flow) → WentOn members xs old mid → WentOn members ys mid new → WentOn members (xs ++ ys) old new
went-both members xs ys old mid new a b = record {
  tray = b.tray ∙ (ap (λ z. z ++ to_members members ys) a.tray ∙ (append_assoc old.tray (to_members members xs) (to_members members ys) ∙
      ap (λ z. old.tray ++ z) (sym (filter-append (λ l. is_ours members l.message.receiver) xs ys))));
  abroad = b.abroad ∙ (ap (λ z. z ++ to_others members ys) a.abroad ∙ (append_assoc old.abroad (to_others members xs) (to_others members ys) ∙
      ap (λ z. old.abroad ++ z) (sym (filter-append (λ l. not (is_ours members l.message.receiver)) xs ys))));
  words = b.words ∙ (ap (λ z. z ++ words_taken (to_members members ys)) a.words ∙ (append_assoc old.words (words_taken (to_members members xs)) (words_taken (to_members members ys)) ∙
      ap (λ z. old.words ++ z) (sym (ap (λ z. words_taken z) (filter-append (λ l. is_ours members l.message.receiver) xs ys) ∙
      map-append (λ l. Taken l.message.receiver) (to_members members xs) (to_members members ys)))));
  keeps = b.keeps ∙ a.keeps;
}

module _ {S K : Type 0} (plain : Plain S Message Sends K) (V : S → Message → Type 0) (O : IsOrder message_order)
    (law : (s : S) (e : Message) → plain.before (plain.after s e) e (plain.saves s e) ≡ s) (members : List (Option S)) (done : List (DoneEvent K)) (rows : Sealed) (x : Setting S) where
  -- what the group has after a letter went on
  abbrev taken_to : Letter → Flow → Flow
  taken_to l flow = record flow { tray = flow.tray ++ l ∷ []; words = flow.words ++ Taken l.message.receiver ∷ [] }

  abbrev sent_abroad : Letter → Flow → Flow
  sent_abroad l flow = record flow { abroad = flow.abroad ++ l ∷ [] }

  -- the group stands for what the steps make of it, with these letters for members and those for others
  pub record Goes (v : World Message S) (flow : Flow) (home abroad left : List Letter) : Type 0 where
    pub steps : AreDone (simulation_of (rules_of plain) x) (steps_told (words_taken home)) v
    pub stands : StandsForSent (rules_of plain) V x (done_by (simulation_of (rules_of plain) x) (steps_told (words_taken home)) v)
        (held members done rows (record flow { tray = flow.tray ++ home; abroad = flow.abroad ++ abroad; words = flow.words ++ words_taken home })) left

  went-home : (v : World Message S) (flow : Flow) (l : Letter) (home abroad more left : List Letter) → is_ours members l.message.receiver ≡ true → l.message.time ≤ x.until →
      StandsForSent (rules_of plain) V x v (held members done rows flow) (l ∷ more) →
      ((w : World Message S) → StandsForSent (rules_of plain) V x w (held members done rows (taken_to l flow)) more → Goes w (taken_to l flow) home abroad left) →
      Goes v flow (l ∷ home) abroad left
  went-home v flow l home abroad more left ours soon g rest =
      let f = simulation_of (rules_of plain) x in
      let h = held members done rows flow in
      let new = held members done rows (taken_to l flow) in
      let one = taken-steps (rules_of plain) V x v h new l refl refl refl refl refl refl ours soon refl more g in
      let two = rest (done_by f (steps_told (Taken l.message.receiver ∷ [])) v) (was-taken (rules_of plain) V x v h new l refl refl refl refl refl refl ours soon refl more g) in
      record {
        steps = are_done-append f (steps_told (Taken l.message.receiver ∷ [])) (steps_told (words_taken home)) v one two.steps;
        stands = subst (λ z. StandsForSent (rules_of plain) V x (done_by f (steps_told (words_taken home)) (done_by f (steps_told (Taken l.message.receiver ∷ [])) v)) (held members done rows z) left)
            (λ j. record flow {
              tray = append_assoc flow.tray (l ∷ []) home j;
              abroad = flow.abroad ++ abroad;
              words = append_assoc flow.words (Taken l.message.receiver ∷ []) (words_taken home) j;
            }) two.stands;
      }

  went-abroad : (v : World Message S) (flow : Flow) (l : Letter) (home abroad more left : List Letter) → is_ours members l.message.receiver ≡ false →
      StandsForSent (rules_of plain) V x v (held members done rows flow) (l ∷ more) →
      ((w : World Message S) → StandsForSent (rules_of plain) V x w (held members done rows (sent_abroad l flow)) more → Goes w (sent_abroad l flow) home abroad left) →
      Goes v flow home (l ∷ abroad) left
  went-abroad v flow l home abroad more left other g rest =
      let f = simulation_of (rules_of plain) x in
      let h = held members done rows flow in
      let new = held members done rows (sent_abroad l flow) in
      let two = rest v (stands-kept (rules_of plain) O V law x v h new (l ∷ more) more refl refl refl (λ y. refl) refl refl
      (λ q. ap (received_by message_order q) (sym (append_assoc flow.abroad (l ∷ []) more)))
      (All-push (λ z. is_ours members (message_order.receiver z.message) ≡ false) flow.abroad l g.elsewhere other) g) in
      record {
        steps = two.steps;
        stands = subst (λ z. StandsForSent (rules_of plain) V x (done_by f (steps_told (words_taken home)) v) (held members done rows z) left)
            (λ j. record flow { tray = flow.tray ++ home; abroad = append_assoc flow.abroad (l ∷ []) abroad j; words = flow.words ++ words_taken home }) two.stands;
      }

  pub all-went : (v : World Message S) (flow : Flow) (ls left : List Letter) → ((m : Message) → IsNamed message_order m ls → m.time ≤ x.until) →
      StandsForSent (rules_of plain) V x v (held members done rows flow) (ls ++ left) → Goes v flow (to_members members ls) (to_others members ls) left
  all-went v flow [] left soon g = record {
    steps = tt;
    stands = subst (λ z. StandsForSent (rules_of plain) V x v (held members done rows z) left)
        (sym (λ j. record flow { tray = append-nil flow.tray j; abroad = append-nil flow.abroad j; words = append-nil flow.words j })) g;
  }
  all-went v flow (l ∷ ls) left soon g = go (λ w more k. all-went w more ls left (λ m i. soon m (omega arith)) k) (is_ours members l.message.receiver) refl
    where
      go : ((w : World Message S) (more : Flow) → StandsForSent (rules_of plain) V x w (held members done rows more) (ls ++ left) → Goes w more (to_members members ls) (to_others members ls) left) →
          (b : Bool) → is_ours members l.message.receiver ≡ b → Goes v flow (cond b (l ∷ to_members members ls) (to_members members ls)) (cond (not b) (l ∷ to_others members ls) (to_others members ls)) left
      go rest true e = went-home v flow l (to_members members ls) (to_others members ls) (ls ++ left) left e (soon l.message (named-head message_order O l ls)) g
          (λ w k. rest w (taken_to l flow) k)
      go rest false e = went-abroad v flow l (to_members members ls) (to_others members ls) (ls ++ left) left e g (λ w k. rest w (sent_abroad l flow) k)
