-- Done events are committed one after another.
use Rattle.std.proofs.Common.{◌≡◌, ℕ, ◌<◌, ◌≤◌, List, [], ◌∷◌, ◌++◌, All, pos, refl, sym, ap, ◌∙◌, subst, append_assoc, append-nil, arith}
use Rattle.std.proofs.lemmas.List.Elements.{All-head, All-tail, All-weaker}
use Rattle.vlink.specs.declared.message.Message.{Message}
use Rattle.vlink.specs.declared.note.Note.{Note}
use Rattle.vlink.specs.Order.{message_order}
use Rattle.virtual_time.specs.Law.{Simulation, Rules, IsOrder, World, times_in, effect, AreDone, done_by}
use Rattle.virtual_time.specs.declared.step.Step.TheVariants.{Commit}
use Rattle.reverse.specs.Plain.{Plain}
use Rattle.reverse.specs.Rules.{rules_of}
use Rattle.reverse.specs.Setting.{simulation_of}
use Rattle.reverse.specs.declared.sends.Sends.{Sends}
use Rattle.antimessages.specs.Counting.{signed_count}
use Rattle.group_queues.specs.declared.block.Word.TheVariants.{Committed}
use Rattle.group_queues.specs.Block.{steps_told}
use Rattle.group_queues.specs.DoneEvents.{DoneEvent}
use Rattle.group_hand.specs.Hands.{Held, CommitsTold, StandsForSent, IsAsBefore, is_ours}
use Rattle.group_queues.specs.Sealing.{CanCommit, rows_in, words_of}
use Rattle.group_hand.proofs.Telling.{done-append, are_done-append, of_members-none, of_members-both}
use Rattle.group_queues.proofs.Steps.{told-append}
use Rattle.group_hand.proofs.Sealing.{is-ours, sealed-steps, sealed}
use Rattle.group_hand.proofs.Still.{stands-still}

commit-gvt : {M S K N : Type 0} (f : Simulation M S K N) (p : ℕ) (v : World M S) → (effect f (Commit p) v).gvt ≡ v.gvt
unfolding effect
commit-gvt f p v = refl

module _ {S K : Type 0} (r : Rules Message S K Note) (V : S → Message → Type 0) where
  pub commits-both : (moment : ℕ) (h mid new : Held S K) → CommitsTold r V moment h mid → CommitsTold r V moment mid new → CommitsTold r V moment h new
  commits-both moment h mid new a b = record {
    did = a.did ++ b.did;
    block = b.block ∙ (ap (λ z. z ++ b.did) a.block ∙ append_assoc h.flow.words a.did b.did);
    keeps = b.keeps ∙ a.keeps;
    stands = λ x L v l g.
        let f = simulation_of r x in
        let one = a.stands x L v l g in
        let two = b.stands x L (done_by f (steps_told a.did) v) (subst (λ n. moment ≤ n) (sym one.2) l) one.1 in
        let same = ap (λ xs. done_by f xs v) (told-append a.did b.did) ∙ done-append f (steps_told a.did) (steps_told b.did) v in (
          subst (λ xs. AreDone f xs v) (sym (told-append a.did b.did)) (are_done-append f (steps_told a.did) (steps_told b.did) v one.0 two.0),
          subst (λ w. StandsForSent r V x w new []) (sym same) two.1,
          ap (λ w. w.gvt) same ∙ (two.2 ∙ one.2),
          of_members-both h.members mid.members new.members a.did b.did one.3 two.3,
        );
  }

module _ {S K : Type 0} (plain : Plain S Message Sends K) (V : S → Message → Type 0) (O : IsOrder message_order)
    (law : (s : S) (e : Message) → plain.before (plain.after s e) e (plain.saves s e) ≡ s) (moment : ℕ) where
  pub commits-nothing : (h new : Held S K) → IsAsBefore h new → CommitsTold (rules_of plain) V moment h new
  commits-nothing h new a = record {
    did = [];
    block = ap (λ z. z.flow.words) a ∙ sym (append-nil h.flow.words);
    keeps = ap (λ z. z.flow.keeps) a;
    stands = λ x L v l g. (tt, stands-still plain V O law h new a x v g, refl, of_members-none h.members new.members (ap (λ z. z.members) a));
  }

  pub commits-oldest : (h new : Held S K) (d : DoneEvent K) (rest : List (DoneEvent K)) → new.members ≡ h.members → h.done ≡ d ∷ rest → new.done ≡ rest → new.rows.all ≡ h.rows.all ++ d.rows →
      new.flow.queue ≡ h.flow.queue → new.flow.extra ≡ h.flow.extra → new.flow.tray ≡ h.flow.tray → new.flow.abroad ≡ h.flow.abroad →
      new.flow.words ≡ h.flow.words ++ Committed d.message.receiver ∷ [] → new.flow.keeps ≡ h.flow.keeps →
      times_in message_order d.message h.flow.queue ≡ 0 → signed_count message_order d.message h.flow.extra ≡ pos 0 → d.message.time < moment →
      CommitsTold (rules_of plain) V moment h new
  commits-oldest h new d rest members done left rows queue extra tray abroad words keeps none zero early = record {
    did = Committed d.message.receiver ∷ [];
    block = words;
    keeps = keeps;
    stands = λ x L v l g.
        let soon : d.message.time < v.gvt = omega arith in (
          sealed-steps (rules_of plain) O V law x v h new d rest members done left rows queue extra tray abroad none zero soon g,
          sealed (rules_of plain) O V law x v h new d rest members done left rows queue extra tray abroad none zero soon g,
          commit-gvt (simulation_of (rules_of plain) x) d.message.receiver v,
          record {
            by = (is-ours (rules_of plain) O V law x v h new d rest members done left rows queue extra tray abroad none zero soon g, tt);
            same = λ p. ap (λ ms. is_ours ms p) members;
          },
        );
  }

  -- the events at the front of the list, one after another
  pub commits-many : (ds : List (DoneEvent K)) (h new : Held S K) (rest : List (DoneEvent K)) → new.members ≡ h.members → h.done ≡ ds ++ rest → new.done ≡ rest → new.rows ≡ record h.rows { all = h.rows.all ++ rows_in ds } →
      new.flow ≡ record h.flow { words = h.flow.words ++ words_of ds; room = new.flow.room } → All (λ d. CanCommit moment h.flow d.message) ds →
      CommitsTold (rules_of plain) V moment h new
  commits-many [] h new rest members done left rows flow can = commits-nothing h new (λ j. record {
    members = members j;
    done = (left ∙ sym done) j;
    rows = (rows ∙ (λ i. record h.rows { all = append-nil h.rows.all i })) j;
    flow = (flow ∙ (λ i. record h.flow { words = append-nil h.flow.words i; room = new.flow.room })) j;
  })
  commits-many (d ∷ ds) h new rest members done left rows flow can =
      let one : CanCommit moment h.flow d.message = All-head (λ (d : DoneEvent K). CanCommit moment h.flow d.message) d ds can in
      let mid : Held S K = record {
        members = h.members;
        done = ds ++ rest;
        rows = record h.rows { all = h.rows.all ++ d.rows };
        flow = record h.flow { words = h.flow.words ++ Committed d.message.receiver ∷ [] };
      } in
      commits-both (rules_of plain) V moment h mid new
      (commits-oldest h mid d (ds ++ rest) refl done refl refl refl refl refl refl refl refl one.none one.zero one.early)
      (commits-many ds mid new rest members refl left (rows ∙ (λ j. record h.rows { all = sym (append_assoc h.rows.all d.rows (rows_in ds)) j }))
      (flow ∙ (λ j. record h.flow { words = sym (append_assoc h.flow.words (Committed d.message.receiver ∷ []) (words_of ds)) j; room = new.flow.room }))
      (All-weaker (λ (d : DoneEvent K). CanCommit moment h.flow d.message) (λ (d : DoneEvent K). CanCommit moment mid.flow d.message)
      (λ d c. record { early = c.early; zero = c.zero; none = c.none }) ds (All-tail (λ (d : DoneEvent K). CanCommit moment h.flow d.message) d ds can)))
