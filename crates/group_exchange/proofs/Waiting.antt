-- What the boxes tell of the letters that wait, and the exchange where only their room changed.
use Rattle.std.proofs.Common.{◌≡◌, ℕ, ◌≤◌, true, List, All, map, length, slice_get, sym, ap, ◌∙◌, subst}
use Rattle.vlink.specs.declared.message.Message.{Message}
use Rattle.vlink.specs.declared.note.Note.{Note}
use Rattle.vlink.specs.Order.{message_order}
use Rattle.virtual_time.specs.Law.{AreBy, Rules, behind, received_by, waiting_in}
use Rattle.virtual_time.specs.declared.step.Step.{Step}
use Rattle.reverse.specs.Setting.{Setting, simulation_of}
use Rattle.gvt.specs.Horizon.{Floors}
use Rattle.group_exchange.specs.declared.mark.Standing.{Standing}
use Rattle.group_exchange.specs.Views.{Boxes, box_of, is_of, world_after}
use Rattle.group_boxes.specs.Boxing.{box_at, waiting_for}
use Rattle.group_exchange.specs.Keeps.{IsRecorded}
use Rattle.group_exchange.proofs.Owners.{owner-is}
use Rattle.group_exchange.proofs.Posted.{behind-same}

module _ {S K : Type 0} {r : Rules Message S K Note} {number end : S → ℕ} {is_placed : S → Type 0} {x : Setting S} {owners : List ℕ} {groups : ℕ} {steps : List Step} {mail : Boxes} {floors : Floors}
    {gvt : ℕ} {standings : List Standing} (k : IsRecorded r number end is_placed x owners groups steps mail floors gvt standings) where
  -- the boxes have other room
  pub recorded-mail : (mail' : Boxes) → mail'.owners ≡ mail.owners → mail'.boxes ≡ mail.boxes → IsRecorded r number end is_placed x owners groups steps mail' floors gvt standings
  recorded-mail mail' o b = record {
    laid = k.laid;
    grouped = k.grouped;
    owners_is = o ∙ k.owners_is;
    boxes = ap length b ∙ k.boxes;
    home = λ g i. subst (λ bs. All (λ l. is_of owners g (r.order.receiver l.message) ≡ true) (box_of bs g)) (sym b) (k.home g i);
    in_time = λ g i. subst (λ bs. All (λ l. r.order.time l.message ≤ x.until) (box_of bs g)) (sym b) (k.in_time g i);
    mail_is = λ g p i. k.mail_is g p i ∙ ap (λ bs. received_by r.order p (box_of bs g)) (sym b);
    floor_count = k.floor_count;
    until = k.until;
    floors_is = k.floors_is;
    gvt_is = k.gvt_is;
    enabled = k.enabled;
    marked = k.marked;
  }

  -- as many letters wait for a process of a group as lie in the box
  waiting-told : r.order ≡ message_order → (g p : ℕ) → is_of owners g p ≡ true → waiting_for mail p ≡ waiting_in (simulation_of r x) (world_after (simulation_of r x) steps) p
  waiting-told o g p i =
      ap (λ z. length (received_by message_order p (box_at mail.boxes z))) (ap (λ os. slice_get os p) k.owners_is ∙ owner-is owners g p i) ∙
      (ap (λ z. length (received_by z p (box_of mail.boxes g))) (sym o) ∙ ap length (sym (k.mail_is g p i)))

  -- so the steps of a block are behind them
  pub behind-waiting : r.order ≡ message_order → (g : ℕ) (xs : List Step) → AreBy (is_of owners g) xs →
      map (behind (waiting_for mail)) xs ≡ map (behind (waiting_in (simulation_of r x) (world_after (simulation_of r x) steps))) xs
  behind-waiting o g xs by = behind-same (is_of owners g) (waiting_for mail) (waiting_in (simulation_of r x) (world_after (simulation_of r x) steps)) (λ p i. waiting-told o g p i) xs by
