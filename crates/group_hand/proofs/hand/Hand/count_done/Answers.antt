use Rattle.reverse.specs.Rules.{rules_of}
use Rattle.group_hand.proofs.FrontWaits.{CountedBeside, counted-none, counted-both}
use Rattle.group_hand.proofs.hand.Hand.count_done.Given.{Over}
use Rattle.group_hand.proofs.hand.Hand.count_done.Goals.{After-count_first_done}
use Rattle.group_hand.proofs.hand.Hand.count_done.Goals as goal

-- after one message more
more : (g : Over) (c : After-count_first_done g) → CountedBeside (rules_of g.R.Reversible.plain) g.R.Reversible.is_value c.args.self.now c.count_first_done.new.self
more g c =
    counted-both (rules_of g.R.Reversible.plain) g.R.Reversible.is_value c.args.self.now c.messages.self c.count_first_done.new.self c.messages.invariant
    (record { stands = c.count_first_done.ensures.stands; others = c.count_first_done.ensures.others })

pub messages-init : goal.messages-init
messages-init g c = counted-none (rules_of g.R.Reversible.plain) g.R.Reversible.is_value c.args.self.now

pub messages-preserved : goal.messages-preserved
messages-preserved g c = more g (goal.at.messages-preserved g c).After-count_first_done

pub returns-in_err-count_first_done-clause-stands : goal.returns-in_err-count_first_done-clause-stands
returns-in_err-count_first_done-clause-stands g c = (more g (goal.at.returns-in_err-count_first_done-clause-stands g c).After-count_first_done).stands

pub returns-in_err-count_first_done-clause-others : goal.returns-in_err-count_first_done-clause-others
returns-in_err-count_first_done-clause-others g c = (more g (goal.at.returns-in_err-count_first_done-clause-others g c).After-count_first_done).others

pub returns-clause-stands : goal.returns-clause-stands
returns-clause-stands g c = (more g (goal.at.returns-clause-stands g c).After-count_first_done).stands

pub returns-clause-others : goal.returns-clause-others
returns-clause-others g c = (more g (goal.at.returns-clause-others g c).After-count_first_done).others
