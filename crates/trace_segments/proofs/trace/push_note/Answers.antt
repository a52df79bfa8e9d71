use Rattle.std.proofs.Common.{ℕ, List, [], ◌∷◌, ap, sym, ◌∙◌, subst, OnOk, decimal}
use Rattle.trace_segments.specs.Words.{line, note_fields, Adds}
use Rattle.trace_segments.proofs.trace.push_note.Goals as goal

pub returns-in-Delivered : goal.returns-in-Delivered
returns-in-Delivered c =
    subst (λ (fields : List (List ℕ)). OnOk c.push_fields.result (Adds c.args.out.now c.push_fields.new.out (line (decimal c.args.time ∷ c.args.place.now ∷ fields))))
    (sym (ap note_fields c.in-Delivered.is)) c.push_fields.ensures

pub returns-in-Dropped : goal.returns-in-Dropped
returns-in-Dropped c =
    let value = ap decimal (c.from-bytes.ensures ∙ c.bytes.ensures.value) in
    subst (λ (fields : List (List ℕ)). OnOk c.push_fields-in-Dropped.result (Adds c.args.out.now c.push_fields-in-Dropped.new.out (line (decimal c.args.time ∷ c.args.place.now ∷ fields))))
    (ap (λ v. decimal c.in-Dropped.vl.0 ∷ c.cause_name.result.now ∷ v ∷ []) value
    ∙ ap (λ name. decimal c.in-Dropped.vl.0 ∷ name ∷ decimal c.in-Dropped.size ∷ []) c.cause_name.ensures
    ∙ sym (ap note_fields c.in-Dropped.is)) c.push_fields-in-Dropped.ensures
