use Rattle.std.proofs.Common.{map, remove, slice_set, sym, ap, ◌∙◌, arith}
use Rattle.antimessages.specs.Mailing.{store_of, letters_for}
use Rattle.antimessages.proofs.Boxes.{IsChanged, changed, old-letters, new-letters, other-letters}
use Rattle.antimessages.proofs.mail.Mail.take.Goals as goal

-- the process has another box
box : (c : goal.After-self-1) → IsChanged (map store_of c.self.inside.boxes.items) (map store_of (slice_set c.self.inside.boxes.items c.args.process c.take_at.new.items))
    c.args.process c.index_mut.result.now c.take_at.new.items
box c =
    rw c.from-2.ensures at
    (changed c.self.inside.boxes.items c.from-2.result c.index_mut.result.now c.take_at.new.items (omega (arith, c.self.inside.boxes.ok.0)) c.index_mut.ensures.value)

pub returns-clause-left : goal.returns-clause-left
returns-clause-left c =
    rw c.from-2.ensures (new-letters (box c) ∙ (c.take_at.ensures.items ∙
    ap (λ z. remove z c.args.place) (sym (old-letters (box c)) ∙ ap (letters_for c.args.process) c.self.view_is)))

pub returns-clause-others : goal.returns-clause-others
returns-clause-others c = λ q n. rw c.from-2.ensures (other-letters (box c) q n ∙ ap (letters_for q) c.self.view_is)
