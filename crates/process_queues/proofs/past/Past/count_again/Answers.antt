use Rattle.std.proofs.Common.{◌≤◌, ◌∷◌, ◌++◌, map, drop, sym, ap, ◌∙◌, subst, OnOk}
use Rattle.vlink.specs.declared.message.Message.{Message}
use Rattle.virtual_time.specs.Law.{IsIn, IsAscending, plus_of, pluses, minuses}
use Rattle.reverse.specs.Rules.{rules_of}
use Rattle.vlink.specs.Order.{message_order}
use Rattle.antimessages.specs.Counting.{HaveSameCounts}
use Rattle.process_queues.specs.Arriving.{done_since}
use Rattle.process_queues.specs.Past.{Past}
use Rattle.process_queues.proofs.Done.{before-within}
use Rattle.process_queues.proofs.past.Past.count_again.Goals as goal

pub done_before-requires : goal.done_before-requires
done_before-requires g c =
    subst (λ (p : Past g.row.R.Denot g.row.R-Record.Denot). IsAscending message_order (map (λ e. e.message) p.done)) (sym c.self.view_is) c.requires.ascending

pub tally_again-requires-clause-place : goal.tally_again-requires-clause-place
tally_again-requires-clause-place g c =
    before-within (rules_of g.R.Reversible.plain) c.args.letter.message c.self.inside.done.items c.done_before.result c.done_before.ensures

pub tally_again-requires-clause-not_owed : goal.tally_again-requires-clause-not_owed
tally_again-requires-clause-not_owed g c =
    subst (λ (p : Past g.row.R.Denot g.row.R-Record.Denot). (m : Message) → IsIn message_order m (map (λ e. e.message) p.done) →
    minuses message_order m c.args.tally.now ≤ pluses message_order m c.args.tally.now) (sym c.self.view_is) c.requires.not_owed

pub returns-clause-counts : goal.returns-clause-counts
returns-clause-counts g c =
    let l = c.args.letter in
    subst (λ es. OnOk c.tally_again.result (HaveSameCounts message_order c.tally_again.new.tally (l ∷ (map (λ e. plus_of e.message) es ++ c.args.tally.now))))
    (ap (λ n. drop n c.self.inside.done.items) c.done_before.ensures ∙ ap (λ (p : Past g.row.R.Denot g.row.R-Record.Denot). done_since l.message p.done) c.self.view_is)
    c.tally_again.ensures.counts
