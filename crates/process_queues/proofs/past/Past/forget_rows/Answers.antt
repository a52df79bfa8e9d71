use Rattle.std.proofs.Common.{drop, ap, ◌∙◌}
use Rattle.process_queues.specs.Past.{Past}
use Rattle.process_queues.proofs.past.Past.forget_rows.Goals as goal

pub returns : goal.returns
returns g c =
    ap (λ rows. record { state = c.self.inside.actor; done = c.self.inside.done.items; sends = c.self.inside.sends.items; rows = rows })
    c.forget_first_rows.ensures ∙
    ap (λ (p : Past g.row.R.Denot g.row.R-Record.Denot). record p { rows = drop c.args.count p.rows }) c.self.view_is
