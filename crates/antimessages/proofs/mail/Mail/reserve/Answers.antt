use Rattle.std.proofs.Common.{◌≤◌, length, map, sym, ap, ◌∙◌, subst, OnOk}
use Rattle.std.proofs.lemmas.List.{length-map}
use Rattle.antimessages.specs.Mailing.{letters_for, room_for, store_of, HasRoom}
use Rattle.antimessages.proofs.Boxes.{receivers-inside}
use Rattle.antimessages.proofs.mail.Mail.reserve.Goals as goal

pub reserve_all-requires : goal.reserve_all-requires
reserve_all-requires c =
    receivers-inside c.outbox.inside.letters.items c.deref.result.now c.args.outbox.now.letters c.self.inside.boxes.items c.args.self.now
    c.deref.ensures.value (ap (λ v. v.letters) c.outbox.view_is) c.self.view_is c.requires

pub returns-clause-same : goal.returns-clause-same
returns-clause-same c = λ p. c.reserve_all.ensures.same p ∙ ap (letters_for p) c.self.view_is

pub returns-clause-processes : goal.returns-clause-processes
returns-clause-processes c =
    length-map c.reserve_all.new.boxes.items store_of ∙ c.reserve_all.ensures.processes ∙ sym (length-map c.self.inside.boxes.items store_of) ∙ ap length c.self.view_is

pub returns-clause-room : goal.returns-clause-room
returns-clause-room c =
    subst (λ ls. OnOk c.reserve_all.result (HasRoom (map store_of c.reserve_all.new.boxes.items) ls)) (c.deref.ensures.value ∙ ap (λ v. v.letters) c.outbox.view_is)
    c.reserve_all.ensures.room

pub returns-clause-no_less : goal.returns-clause-no_less
returns-clause-no_less c = λ p.
    subst (λ m. room_for p m ≤ room_for p (map store_of c.reserve_all.new.boxes.items)) c.self.view_is (c.reserve_all.ensures.no_less p)

pub returns-clause-reserved : goal.returns-clause-reserved
returns-clause-reserved c = λ room.
    c.reserve_all.ensures.reserved (subst (λ m. HasRoom m c.deref.result.now) (sym c.self.view_is)
    (subst (HasRoom c.args.self.now) (sym (c.deref.ensures.value ∙ ap (λ v. v.letters) c.outbox.view_is)) room))
