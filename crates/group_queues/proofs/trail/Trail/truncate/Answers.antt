use Rattle.std.proofs.Common.{drop, take, ap, ◌∙◌}
use Rattle.std.proofs.lemmas.List.{drop-take}
use Rattle.group_queues.proofs.trail.Trail.truncate.Goals as goal

pub returns-clause-items : goal.returns-clause-items
returns-clause-items g c =
    ap (λ z. drop c.self.inside.left z) c.truncate.ensures.items ∙ (drop-take c.self.inside.left c.args.len c.self.inside.all.items ∙ ap (λ z. take c.args.len z.items) c.self.view_is)
