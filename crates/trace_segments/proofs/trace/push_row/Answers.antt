use Rattle.std.proofs.Common.{◌≡◌, ℕ, List, [], ◌∷◌, ap, sym, ◌∙◌, subst, OnOk, cond, true, decimal}
use Rattle.trace_segments.specs.Words.{is_known, is_in_network, line, place_name, note_fields, Adds}
use Rattle.trace_segments.proofs.trace.push_row.Goals as goal

pub returns : goal.returns
returns c =
    let plan = c.args.network.now in
    let row = c.args.row.now in
    let known : is_known plan row ≡ true = ap (λ vl. is_in_network plan vl.0 row.place) (sym c.vl_of.ensures) ∙ sym c.is_in_network.ensures ∙ c.if-not-is_in_network.false in
    let place = c.place_name-place.ensures ∙ ap (place_name plan) c.from.ensures in
    subst (λ (bytes : List ℕ). OnOk c.push_note.result (Adds c.args.out.now c.push_note.new.out bytes))
    (ap (λ time. line (decimal time ∷ c.place_name-place.result.now ∷ note_fields row.note)) c.ns.ensures.value
    ∙ ap (λ name. line (decimal row.message.time ∷ name ∷ note_fields row.note)) place
    ∙ sym (ap (λ b. cond b (line (decimal row.message.time ∷ place_name plan row.place ∷ note_fields row.note)) []) known))
    c.push_note.ensures
