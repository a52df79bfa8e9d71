use Rattle.std.proofs.Common.{◌≡◌, true, slice_get, sym, ap, ◌∙◌}
use Rattle.std.proofs.lemmas.List.Elements.{All-drop}
use Rattle.virtual_time.specs.Law.{rows_at}
use Rattle.group_hand.proofs.Going.{held-is}
use Rattle.group_exchange.specs.Views.{is_of}
use Rattle.group_exchange.proofs.RowsWhole.{rows-none, rows-there}
use Rattle.group_exchange.proofs.group.Group.sealed.Goals as goal

pub returns-clause-each : goal.returns-clause-each
returns-clause-each g c =
    let h = c.self.invariant.0 in
    let k = c.self.invariant.5 in
    rw (sym c.self.view_is) (λ none p o.
    let m = held-is (slice_get c.self.inside.hand.members p) (h.ours p ∙ o) in
    ap (rows_at p) (c.rows.ensures ∙ rows-there k none) ∙ (h.stands.members p m.0 m.1).rows)

pub returns-clause-others : goal.returns-clause-others
returns-clause-others g c =
    let k = c.self.invariant.5 in
    let rows = c.self.inside.hand.rows in
    rw (sym c.self.view_is) (λ p n.
    ap (rows_at p) c.rows.ensures ∙
    rows-none g.J.GroupRun.owners c.self.inside.number p _ (All-drop (λ row. is_of g.J.GroupRun.owners c.self.inside.number row.place ≡ true) rows.left rows.all k.home) n)
