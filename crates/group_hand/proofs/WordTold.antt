-- A word is told, and what it posted goes on.
use Rattle.std.proofs.Common.{◌≡◌, ℕ, ◌≤◌, false, List, [], ◌∷◌, ◌++◌, All, refl, sym, ap, ◌∙◌, subst, append_assoc, append-nil}
use Rattle.vlink.specs.declared.message.Message.{Message}
use Rattle.vlink.specs.Letters.{Letter}
use Rattle.vlink.specs.Order.{message_order}
use Rattle.virtual_time.specs.Law.{IsOrder, Laws, World, IsNamed, AreBy, AreDone, done_by, received_by}
use Rattle.reverse.specs.Plain.{Plain}
use Rattle.reverse.specs.Rules.{rules_of}
use Rattle.reverse.specs.Setting.{Setting, simulation_of}
use Rattle.reverse.specs.declared.sends.Sends.{Sends}
use Rattle.group_queues.specs.declared.block.Word.{Word}
use Rattle.group_queues.specs.Block.{steps_told}
use Rattle.group_hand.specs.Hands.{Held, DoesSent, StandsForSent, is_ours}
use Rattle.group_hand.specs.Passing.{held}
use Rattle.group_hand.specs.Arriving.{WentOn, to_members, to_others, words_taken}
use Rattle.group_hand.proofs.Telling.{are_done-append, by-both, done-append}
use Rattle.group_queues.proofs.Steps.{told-append}
use Rattle.group_hand.proofs.Going.{stands-kept}
use Rattle.group_hand.proofs.WentOn.{to_members-same, to_others-same, taken-by, all-went, Goes}

module _ {S K : Type 0} (plain : Plain S Message Sends K) (V : S → Message → Type 0) (O : IsOrder message_order)
    (law : (s : S) (e : Message) → plain.before (plain.after s e) e (plain.saves s e) ≡ s) (word : Word) (tray sent : List Letter) (old new : Held S K) where
  -- the group when the word is told, and what it posted has not gone on
  abbrev pub between : Held S K
  between = held new.members new.done new.rows (record new.flow { tray = tray; abroad = old.flow.abroad; words = old.flow.words ++ word ∷ [] })

  -- the steps of the word can be done and are of a member, the group stands for what they make of it, the members are the same, and nothing that was
  -- posted is after the end
  pub record IsTold (x : Setting S) (v : World Message S) : Type 0 where
    pub steps : AreDone (simulation_of (rules_of plain) x) (steps_told (word ∷ [])) v
    pub stands : StandsForSent (rules_of plain) V x (done_by (simulation_of (rules_of plain) x) (steps_told (word ∷ [])) v) between sent
    pub by : AreBy (is_ours old.members) (steps_told (word ∷ []))
    pub same : (q : ℕ) → is_ours new.members q ≡ is_ours old.members q
    pub soon : (m : Message) → IsNamed message_order m sent → m.time ≤ x.until

  module _ (went : WentOn old.members sent (record old.flow { tray = tray; words = old.flow.words ++ word ∷ [] }) new.flow) where
    module _ (x : Setting S) (v : World Message S) (t : IsTold x v) where
      abbrev afterwards : World Message S
      afterwards = done_by (simulation_of (rules_of plain) x) (steps_told (word ∷ [])) v

      goes : Goes plain V O law new.members new.done new.rows x afterwards between.flow (to_members new.members sent) (to_others new.members sent) []
      goes =
          all-went plain V O law new.members new.done new.rows x (done_by (simulation_of (rules_of plain) x) (steps_told (word ∷ [])) v) between.flow sent [] t.soon
          (subst (λ ls. StandsForSent (rules_of plain) V x (done_by (simulation_of (rules_of plain) x) (steps_told (word ∷ [])) v) between ls) (sym (append-nil sent)) t.stands)

      same-home : to_members new.members sent ≡ to_members old.members sent
      same-home = to_members-same new.members old.members t.same sent

      abroad-is : new.flow.abroad ≡ old.flow.abroad ++ to_others new.members sent
      abroad-is = went.abroad ∙ ap (λ z. old.flow.abroad ++ z) (sym (to_others-same new.members old.members t.same sent))

      went-steps : AreDone (simulation_of (rules_of plain) x) (steps_told (words_taken (to_members old.members sent))) afterwards
      went-steps = subst (λ z. AreDone (simulation_of (rules_of plain) x) (steps_told (words_taken z)) afterwards) same-home goes.steps

      went-stands : StandsForSent (rules_of plain) V x (done_by (simulation_of (rules_of plain) x) (steps_told (words_taken (to_members old.members sent))) afterwards) new []
      went-stands =
          subst (λ z. StandsForSent (rules_of plain) V x (done_by (simulation_of (rules_of plain) x) (steps_told (words_taken z)) afterwards) new []) same-home
          (stands-kept (rules_of plain) O V law x (done_by (simulation_of (rules_of plain) x) (steps_told (words_taken (to_members new.members sent))) afterwards)
          (held new.members new.done new.rows (record between.flow {
            tray = between.flow.tray ++ to_members new.members sent;
            abroad = between.flow.abroad ++ to_others new.members sent;
            words = between.flow.words ++ words_taken (to_members new.members sent);
          })) new [] [] refl refl refl (λ y. refl) refl (went.tray ∙ ap (λ z. tray ++ z) (sym same-home))
          (λ q. ap (λ z. received_by message_order q (z ++ [])) (sym abroad-is))
          (subst (λ ls. All (λ z. is_ours new.members (message_order.receiver z.message) ≡ false) ls) (sym abroad-is) goes.stands.elsewhere) goes.stands)

    pub word-told : new.rows ≡ old.rows → ((x : Setting S) → Laws (simulation_of (rules_of plain) x) → (v : World Message S) → StandsForSent (rules_of plain) V x v old [] → IsTold x v) →
        DoesSent (rules_of plain) V old [] new []
    word-told rows tells = record {
      did = word ∷ words_taken (to_members old.members sent);
      keeps = went.keeps;
      rows = rows;
      block = went.words ∙ append_assoc old.flow.words (word ∷ []) (words_taken (to_members old.members sent));
      stands = λ x L v g.
          let f = simulation_of (rules_of plain) x in
          let ws = words_taken (to_members old.members sent) in
          let t = tells x L v g in (
            subst (λ zs. AreDone f zs v) (sym (told-append (word ∷ []) ws)) (are_done-append f (steps_told (word ∷ [])) (steps_told ws) v t.steps (went-steps x v t)),
            subst (λ z. StandsForSent (rules_of plain) V x z new [])
                (sym (ap (λ zs. done_by f zs v) (told-append (word ∷ []) ws) ∙ done-append f (steps_told (word ∷ [])) (steps_told ws) v)) (went-stands x v t),
            record { by = by-both (is_ours old.members) (word ∷ []) ws t.by (taken-by old.members sent); same = t.same },
          );
    }
