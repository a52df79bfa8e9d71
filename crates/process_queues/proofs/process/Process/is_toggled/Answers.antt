use Rattle.std.proofs.Common.{◌≡◌, ◌≢◌, IsTrue, false, map, refl, sym, subst}
use Rattle.vlink.specs.Order.{message_order}
use Rattle.antimessages.specs.Counting.{change_by, is_after, newest_of}
use Rattle.antimessages.specs.declared.tally.Change.TheVariants.{Same}
use Rattle.process_queues.proofs.Counting.{of-messages}
use Rattle.process_queues.proofs.Rolls.{done-ascending}
use Rattle.process_queues.proofs.Changes.{is-change}
use Rattle.process_queues.proofs.process.Process.is_toggled.Given.{Over}
use Rattle.process_queues.proofs.process.Process.is_toggled.Goals as goal

pub has_done-requires : goal.has_done-requires
has_done-requires g c = done-ascending c.self.invariant.2.past

changes : (g : Over) (c : goal.After-is_change g) →
    (IsTrue c.is_change.result → change_by message_order c.args.letter.now c.args.self.now.queues.tally ≢ Same)
    × (c.is_change.result ≡ false → change_by message_order c.args.letter.now c.args.self.now.queues.tally ≡ Same)
changes g c =
    let R = of-messages g.R.Reversible.plain c.actor_rules_law.ensures.order c.actor_rules_law.ensures.undoes in
    let l = c.args.letter.now in
    let late = subst (λ q. is_after message_order (newest_of (map (λ e. e.message) q.queues.past.done)) l.message ≡ false) (sym c.self.view_is) c.requires in
    subst (λ q. (IsTrue c.is_change.result → change_by message_order l q.queues.tally ≢ Same) × (c.is_change.result ≡ false → change_by message_order l q.queues.tally ≡ Same))
    c.self.view_is (is-change R c.self.invariant.2 l c.self.inside.tally refl late c.has_done.result c.is_change.result c.has_done.ensures.done c.has_done.ensures.not_done c.is_change.ensures)

pub returns-clause-toggled : goal.returns-clause-toggled
returns-clause-toggled g c = (changes g c).0

pub returns-clause-same : goal.returns-clause-same
returns-clause-same g c = (changes g c).1
