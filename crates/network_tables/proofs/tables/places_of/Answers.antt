use Rattle.std.proofs.Common.{◌<◌, ◌==◌, ◌&&◌, cond, is_none, length, take, get_or, None, Some, arith, ap, sym, ◌∙◌}
use Rattle.network.specs.Words.{place_of_vl}
use Rattle.network.proofs.PlaceLemmas.{or_else, or_else-stored, place_by-push}
use Rattle.network.proofs.EachLemmas.{take-read, length-before}
use Rattle.network_tables.proofs.tables.places_of.Goals as goal

pub loop-i-preserved : goal.loop-i-preserved
loop-i-preserved c =
    let rows = c.args.vls.now in
    let i = c.loop-i.i in
    let vl = c.index-vls-i.result in
    let lt : i < length rows = omega arith in
    let before = take i rows in
    λ id.
    c.note_place.ensures.stored id
    ∙ ap (λ n. cond ((n == id) && is_none (get_or c.reach.new.places.items id None)) (Some i) (get_or c.reach.new.places.items id None)) (c.from-id.ensures ∙ ap (λ l. l.id.0) c.link-agreed.ensures)
    ∙ or_else-stored (get_or c.reach.new.places.items id None) (vl.link.id.0 == id) i
    ∙ ap (λ o. or_else o (cond (vl.link.id.0 == id) (Some i) None)) (c.in_ok-reach.ensures.same id ∙ c.loop-i.invariant id)
    ∙ ap (λ n. or_else (place_of_vl before id) (cond (vl.link.id.0 == id) (Some n) None)) (sym (length-before rows i lt))
    ∙ sym (ap (λ xs. place_of_vl xs id) (take-read rows i vl lt c.index-vls-i.is) ∙ place_by-push (λ other. other.link.id.0 == id) before vl)
