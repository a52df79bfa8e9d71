use Rattle.std.proofs.Common.{◌<◌, ◌==◌, ◌||◌, length, take, arith, ap, sym, ◌∙◌}
use Rattle.std.specs.List.{list_any}
use Rattle.network_rows.specs.declared.rows.VlRow.{VlRow}
use Rattle.network.proofs.EachLemmas.{list_any-push, take-read}
use Rattle.network_faults.proofs.IdLemmas.{contains-put}
use Rattle.network_faults.proofs.streams.Ids.new.Goals as goal

pub loop-vl-preserved : goal.loop-vl-preserved
loop-vl-preserved c = λ n.
    let vls = c.args.vls.now in
    let i = c.loop-vl.vl-index in
    let vl = c.vl-item.result in
    let lt : i < length vls = omega arith in
    contains-put c.loop-vl.numbers c.insert.new.self c.from-id.result c.in_ok-insert.ensures.updates n
    ∙ ap (λ b. b || (c.from-id.result == n)) (c.loop-vl.invariant n)
    ∙ ap (λ m. list_any (λ (v : VlRow). v.link.id.0 == n) (take i vls) || (m == n)) c.from-id.ensures
    ∙ sym (list_any-push (λ (v : VlRow). v.link.id.0 == n) (take i vls) vl)
    ∙ ap (list_any (λ (v : VlRow). v.link.id.0 == n)) (sym (take-read vls i vl lt c.vl-item.is))
