-- The letters for others left the group for the mail of the run.
use Rattle.std.proofs.Common.{◌≡◌, false, [], ◌++◌, All, sym, ap, ◌∙◌, subst, append-nil}
use Rattle.std.proofs.lemmas.List.Elements.{All-nil}
use Rattle.vlink.specs.declared.message.Message.{Message}
use Rattle.vlink.specs.declared.note.Note.{Note}
use Rattle.virtual_time.specs.Law.{Rules, IsOrder, World, in_hand, received_by, times_in}
use Rattle.reverse.specs.Setting.{Setting, simulation_of}
use Rattle.group_hand.specs.Hands.{Held, StandsForSent, is_ours}
use Rattle.group_hand.proofs.Going.{stands-kept}

pub cleared : {S K : Type 0} (r : Rules Message S K Note) (O : IsOrder r.order) (V : S → Message → Type 0) (law : (s : S) (e : Message) → r.undo (r.after s e) e (r.kept s e) ≡ s)
    (x : Setting S) (v : World Message S) (h new : Held S K) → new.members ≡ h.members → new.done ≡ h.done → new.rows ≡ h.rows →
    ((y : Message) → times_in r.order y new.flow.queue ≡ times_in r.order y h.flow.queue) → new.flow.extra ≡ h.flow.extra → new.flow.tray ≡ h.flow.tray → new.flow.abroad ≡ [] →
    StandsForSent r V x v h [] → StandsForSent r V x (in_hand (simulation_of r x) v.gvt v) new []
cleared r O V law x v h new members done rows queue extra tray abroad g =
    let t : StandsForSent r V x v new h.flow.abroad =
    stands-kept r O V law x v h new [] h.flow.abroad members done (ap (λ z. z.all) rows) queue extra tray
    (λ q. ap (received_by r.order q) (append-nil h.flow.abroad) ∙ ap (λ ls. received_by r.order q (ls ++ h.flow.abroad)) (sym abroad))
    (subst (λ ls. All (λ l. is_ours h.members (r.order.receiver l.message) ≡ false) ls) (sym abroad) (All-nil (λ l. is_ours h.members (r.order.receiver l.message) ≡ false))) g in
    record {
      count = t.count;
      members = t.members;
      mail = λ q. ap (λ ls. received_by r.order q (ls ++ [])) (sym abroad);
      elsewhere = t.elsewhere;
      tray_home = t.tray_home;
      tray_in_time = t.tray_in_time;
      home = t.home;
      in_time = t.in_time;
      beside = t.beside;
      ascending = t.ascending;
      settled = t.settled;
    }
