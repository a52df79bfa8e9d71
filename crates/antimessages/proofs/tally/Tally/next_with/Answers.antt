use Rattle.std.proofs.Common.{sym, ap, ◌∙◌, option_copied}
use Rattle.vlink.specs.Order.{message_order}
use Rattle.virtual_time.specs.Law.{lesser}
use Rattle.antimessages.proofs.Following.{next-same, next-more}
use Rattle.antimessages.proofs.tally.Tally.next_with.Goals as goal

pub returns-in-Same : goal.returns-in-Same
returns-in-Same c = λ before counts change behind next.
    next ∙ next-same message_order c.occurrence_order_law.ensures.messages (option_copied c.args.newest) c.args.letter.now before c.args.self.now counts
    (sym change ∙ c.in-Same.is)

pub returns-in-BecamePresent : goal.returns-in-BecamePresent
returns-in-BecamePresent c = λ before counts change behind next.
    c.lesser.ensures ∙ (ap (lesser message_order c.args.letter.now.message) next ∙
    sym (next-more message_order c.occurrence_order_law.ensures.messages (option_copied c.args.newest) c.args.letter.now before c.args.self.now counts
    (sym change ∙ c.in-BecamePresent.is) (behind (λ e. let bad = sym c.in-BecamePresent.is ∙ e in cc))))
