use Rattle.reverse.specs.Rules.{rules_of}
use Rattle.group_hand.proofs.Opens.{opens}
use Rattle.group_hand.proofs.Still.{stands-still}
use Rattle.group_hand.proofs.laws.hand_law.Goals as goal

pub returns-clause-as_before : goal.returns-clause-as_before
returns-clause-as_before g c = λ old new a x v s. stands-still g.R.Reversible.plain g.R.Reversible.is_value c.actor_rules_law.ensures.order c.actor_rules_law.ensures.undoes old new a x v s

pub returns-clause-opens : goal.returns-clause-opens
returns-clause-opens g c = λ hand n x v o. opens (rules_of g.R.Reversible.plain) c.actor_rules_law.ensures.order g.R.Reversible.is_value x v hand n o
