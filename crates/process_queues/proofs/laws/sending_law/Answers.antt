use Rattle.std.specs.Prelude.{⊤}
use Rattle.virtual_time.proofs.Well.{act-sends}
use Rattle.virtual_time.proofs.Numbers.{sent-once}
use Rattle.reverse.specs.Rules.{rules_of}
use Rattle.process_queues.proofs.laws.sending_law.Goals as goal

pub returns-clause-sends : goal.returns-clause-sends
returns-clause-sends g c opening part queues h act keeps m =
    let actor = c.actor_rules_law.ensures in
    act-sends (rules_of g.R.Reversible.plain) actor.order (λ s. ⊤) (λ s e t. actor.undoes s e) opening act part h.well (λ runs. tt) keeps m

pub returns-clause-sent_once : goal.returns-clause-sent_once
returns-clause-sent_once g c opening events m =
    let actor = c.actor_rules_law.ensures in
    sent-once (rules_of g.R.Reversible.plain) actor.order (λ s. ⊤) (λ s e t. tt) (λ s t e. actor.numbered s e) (λ s t e. actor.counter_grows s e)
    opening tt events m
