use Rattle.std.proofs.Common.{drop, sym, ap, ◌∙◌}
use Rattle.std.proofs.lemmas.List.{drop-drop}
use Rattle.group_queues.proofs.trail.Trail.forget.Goals as goal

pub returns-clause-items : goal.returns-clause-items
returns-clause-items g c = sym (drop-drop c.args.count c.self.inside.left c.self.inside.all.items) ∙ ap (λ z. drop c.args.count z.items) c.self.view_is
