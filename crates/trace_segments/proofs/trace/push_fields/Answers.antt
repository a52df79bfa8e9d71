use Rattle.std.proofs.Common.{◌≡◌, ℕ, List, [], ◌∷◌, ◌∙◌, subst, OnOk, decimal}
use Rattle.trace_segments.specs.Words.{line, Adds}
use Rattle.trace_segments.proofs.trace.push_fields.Goals as goal

pub returns : goal.returns
returns c =
    let h1 : c.as_bytes.result.now ≡ decimal c.args.time = c.as_bytes.ensures.value ∙ c.format.ensures.text in
    let h2 = c.as_bytes-2.ensures.value in
    let h3 : c.as_bytes-3.result.now ≡ decimal c.args.vl.0 = c.as_bytes-3.ensures.value ∙ c.format-2.ensures.text in
    let h4 = c.as_bytes-4.ensures.value in
    let h5 : c.as_bytes-5.result.now ≡ decimal c.args.value = c.as_bytes-5.ensures.value ∙ c.format-3.ensures.text in
    let e : c.as_bytes.result.now ∷ c.as_bytes-2.result.now ∷ c.as_bytes-3.result.now ∷ c.as_bytes-4.result.now ∷ c.as_bytes-5.result.now ∷ []
    ≡ decimal c.args.time ∷ c.args.place.now ∷ decimal c.args.vl.0 ∷ c.args.what.now ∷ decimal c.args.value ∷ [] = cc in
    subst (λ (fields : List (List ℕ)). OnOk c.push.result (Adds c.args.out.now c.push.new.out (line fields))) e c.push.ensures
