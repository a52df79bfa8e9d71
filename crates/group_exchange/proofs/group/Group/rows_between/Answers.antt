use Rattle.std.proofs.Common.{sym, subst, ap, ◌∙◌}
use Rattle.std.specs.List.Sorted.{IsNonDecreasingBy}
use Rattle.std.proofs.lemmas.List.Sorted.{IsNonDecreasingBy-drop}
use Rattle.vlink.specs.Letters.{Row}
use Rattle.vlink.specs.Order.{message_order}
use Rattle.reverse.specs.Rules.{rules_of}
use Rattle.row_times.specs.Within.{rows_within}
use Rattle.group_exchange.proofs.Collected.{of-process}
use Rattle.group_exchange.proofs.RowsWhole.{ordered-times, rows-left, whole}
use Rattle.group_exchange.proofs.group.Group.rows_between.Goals as goal

pub rows_in_time-requires : goal.rows_in_time-requires
rows_in_time-requires g c =
    let h = c.self.invariant.0 in
    let k = c.self.invariant.5 in
    let rows = c.self.inside.hand.rows in
    let L = c.actor_law.ensures g.J.GroupRun.setting h.laid in
    subst (IsNonDecreasingBy (λ (row : Row). row.message.time)) (sym c.rows.ensures)
    (IsNonDecreasingBy-drop (λ (row : Row). row.message.time) rows.left rows.all (ordered-times message_order L.order rows.all k.ordered))

pub returns-clause-rows : goal.returns-clause-rows
returns-clause-rows g c =
    let h = c.self.invariant.0 in
    let k = c.self.invariant.5 in
    let r = rules_of g.R.Reversible.plain in
    let x = g.J.GroupRun.setting in
    let owners = g.J.GroupRun.owners in
    let number = c.self.inside.number in
    let not_later = rw (sym c.self.view_is) at c.requires in
    rw (sym c.self.view_is) (c.rows_in_time.ensures ∙ (ap (rows_within r c.args.from c.args.to) c.rows.ensures ∙
    rows-left r g.R.Reversible.is_value x (c.actor_law.ensures x h.laid) _ c.self.inside.hand h.stands owners number h.ours (λ p o. of-process h.grouped number p o)
    c.self.inside.standing.seen c.self.inside.gone h.safe k c.args.from c.args.to not_later))

pub returns-clause-whole : goal.returns-clause-whole
returns-clause-whole g c =
    let h = c.self.invariant.0 in
    let k = c.self.invariant.5 in
    let r = rules_of g.R.Reversible.plain in
    let x = g.J.GroupRun.setting in
    let owners = g.J.GroupRun.owners in
    let number = c.self.inside.number in
    let L = c.actor_law.ensures x h.laid in
    let not_later = rw (sym c.self.view_is) at c.requires in
    rw (sym c.self.view_is) (λ low none n ended.
    c.rows_in_time.ensures ∙ (ap (rows_within r c.args.from c.args.to) c.rows.ensures ∙
    (rows-left r g.R.Reversible.is_value x L _ c.self.inside.hand h.stands owners number h.ours (λ p o. of-process h.grouped number p o)
    c.self.inside.standing.seen c.self.inside.gone h.safe k c.args.from c.args.to not_later ∙
    whole r g.R.Reversible.is_value x L _ c.self.inside.hand h.stands owners number h.ours (λ p o. of-process h.grouped number p o)
    c.self.inside.standing.seen c.self.inside.gone h.safe k c.args.from c.args.to low none n ended)))
