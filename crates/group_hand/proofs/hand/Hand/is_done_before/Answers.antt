use Rattle.std.proofs.Common.{◌≡◌, slice_get, option_map, sym, ap, ◌∙◌}
use Rattle.reverse.specs.Rules.{rules_of}
use Rattle.group_queues.specs.DoneEvents.{messages_of}
use Rattle.group_hand.proofs.OldestDone.{first-early, first-late, from-first, none-of}
use Rattle.group_hand.proofs.hand.Hand.is_done_before.Given.{Over}
use Rattle.group_hand.proofs.hand.Hand.is_done_before.Goals.{After-oldest_time}
use Rattle.group_hand.proofs.hand.Hand.is_done_before.Goals as goal

-- the moment of the oldest
seen : (g : Over) (c : After-oldest_time g) → c.oldest_time.result ≡ option_map (λ m. m.time) (slice_get (messages_of c.args.self.now.done) 0)
seen g c = c.oldest_time.ensures ∙ ap (λ h. option_map (λ m. m.time) (slice_get (messages_of h.done) 0)) c.self.view_is

pub returns-clause-yes : goal.returns-clause-yes
returns-clause-yes g c = λ e.
    let y = c.is_early.ensures.yes e in
    first-early c.args.moment (messages_of c.args.self.now.done) y.0 (sym y.1 ∙ seen g (goal.at.returns-clause-yes g c).After-oldest_time) y.2

pub returns-clause-no : goal.returns-clause-no
returns-clause-no g c = λ e up.
    from-first c.actor_rules_law.ensures.order c.args.moment (messages_of c.args.self.now.done) up
    (first-late c.args.moment (messages_of c.args.self.now.done) c.oldest_time.result (seen g (goal.at.returns-clause-no g c).After-oldest_time) (c.is_early.ensures.no e))

pub returns-clause-members : goal.returns-clause-members
returns-clause-members g c = λ e x v s p t.
    none-of (rules_of g.R.Reversible.plain) c.actor_rules_law.ensures.order g.R.Reversible.is_value x v c.args.self.now c.args.moment
    (from-first c.actor_rules_law.ensures.order c.args.moment (messages_of c.args.self.now.done) s.ascending
    (first-late c.args.moment (messages_of c.args.self.now.done) c.oldest_time.result (seen g (goal.at.returns-clause-members g c).After-oldest_time) (c.is_early.ensures.no e))) s p t
