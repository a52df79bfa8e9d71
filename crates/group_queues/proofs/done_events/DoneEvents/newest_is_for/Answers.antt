use Rattle.std.proofs.Common.{◌≡◌, ◌==◌, ◌∷◌, [], Some, ap, ◌∙◌}
use Rattle.antimessages.specs.Counting.{newest_of}
use Rattle.group_queues.specs.DoneEvents.{messages_of}
use Rattle.group_queues.proofs.Shares.{messages-append}
use Rattle.group_queues.proofs.NewestDone.{newest-last, same-newest, no-newest}
use Rattle.group_queues.proofs.done_events.DoneEvents.newest_is_for.Goals as goal

pub returns-in-Some-clause-last : goal.returns-in-Some-clause-last
returns-in-Some-clause-last g c = λ front d e.
    let newest : newest_of (messages_of c.args.self.now.events) ≡ Some d.message =
    ap (λ z. newest_of (messages_of z)) e ∙ (ap newest_of (messages-append front (d ∷ [])) ∙ newest-last (messages_of front) d.message) in
    ap (λ z. z.receiver == c.args.process) (same-newest c.newest_message.result c.in-Some.message d.message (c.newest_message.ensures ∙ newest) c.in-Some.is)

pub returns-in-None-clause-last : goal.returns-in-None-clause-last
returns-in-None-clause-last g c = λ front d e.
    let newest : newest_of (messages_of c.args.self.now.events) ≡ Some d.message =
    ap (λ z. newest_of (messages_of z)) e ∙ (ap newest_of (messages-append front (d ∷ [])) ∙ newest-last (messages_of front) d.message) in
    absurd (no-newest c.newest_message.result d.message (c.newest_message.ensures ∙ newest) c.in-None.is)

pub returns-in-Some-clause-newest : goal.returns-in-Some-clause-newest
returns-in-Some-clause-newest g c = λ m e. ap (λ z. z.receiver == c.args.process) (same-newest c.newest_message.result c.in-Some.message m (c.newest_message.ensures ∙ e) c.in-Some.is)

pub returns-in-None-clause-newest : goal.returns-in-None-clause-newest
returns-in-None-clause-newest g c = λ m e. absurd (no-newest c.newest_message.result m (c.newest_message.ensures ∙ e) c.in-None.is)
