use Rattle.std.proofs.Common.{◌≡◌, ◌+ℤ◌, ap, ◌∙◌, subst}
use Rattle.vlink.specs.Order.{message_order}
use Rattle.antimessages.specs.Letters.{weight}
use Rattle.antimessages.specs.Counting.{signed_count, change_by}
use Rattle.antimessages.specs.Occurrences.{letters_of}
use Rattle.antimessages.proofs.tally.Tally.add_further.Goals as goal

pub returns-clause-count : goal.returns-clause-count
returns-clause-count c =
    let m = c.args.letter.message in
    subst (λ old. signed_count message_order m (letters_of c.count_letter.new.signs.entries) ≡ signed_count message_order m old +ℤ weight c.args.letter.sign)
    c.self.view_is c.in_ok-count_letter.ensures.counted.0

pub returns-clause-others : goal.returns-clause-others
returns-clause-others c = λ m n. c.in_ok-count_letter.ensures.counted.1 m n ∙ ap (signed_count message_order m) c.self.view_is

pub returns-clause-change : goal.returns-clause-change
returns-clause-change c =
    c.change_at-change.ensures c.args.letter.message (letters_of c.self.inside.signs.entries) c.last_of-last.ensures.count ∙
    ap (change_by message_order c.args.letter) c.self.view_is
