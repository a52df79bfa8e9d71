use Rattle.std.proofs.Common.{drop, sym, ap, ◌∙◌}
use Rattle.group_queues.proofs.Leaving.{still-there}
use Rattle.group_queues.proofs.rows.Rows.as_slice.Goals as goal

pub returns : goal.returns
returns c = c.deref.ensures.value ∙ (sym (still-there (λ s. s.value) c.self.inside.left.items c.self.inside.there.items) ∙ ap (λ r. drop r.left r.all) c.self.view_is)
