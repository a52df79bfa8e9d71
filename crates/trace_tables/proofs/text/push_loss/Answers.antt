use Rattle.std.proofs.Common.{◌≡◌, ℕ, List, [], ◌∷◌, ap, ◌∙◌, subst, OnOk, codes, decimal}
use Rattle.trace_segments.specs.Words.{line, place_name, cause_name, Adds}
use Rattle.trace_tables.proofs.text.push_loss.Goals as goal

pub returns : goal.returns
returns c =
    let loss = c.args.loss.now in
    let h1 = c.as_bytes.ensures.value in
    let h2 : c.as_bytes-2.result.now ≡ decimal loss.vl.0 = c.as_bytes-2.ensures.value ∙ c.format.ensures.text in
    let h3 : c.as_bytes-3.result.now ≡ place_name c.args.network.now loss.place = c.as_bytes-3.ensures.value ∙ c.place_name.ensures ∙ ap (place_name c.args.network.now) c.from.ensures in
    let h4 : c.as_bytes-4.result.now ≡ cause_name loss.cause = c.as_bytes-4.ensures.value ∙ c.cause_name.ensures in
    let h5 : c.as_bytes-5.result.now ≡ decimal c.args.count = c.as_bytes-5.ensures.value ∙ c.format-2.ensures.text in
    let h6 = c.as_bytes-6.ensures.value in let h7 = c.as_bytes-7.ensures.value in let h8 = c.as_bytes-8.ensures.value in
    let e : c.as_bytes.result.now ∷ c.as_bytes-2.result.now ∷ c.as_bytes-3.result.now ∷ c.as_bytes-4.result.now ∷ c.as_bytes-5.result.now ∷ c.as_bytes-6.result.now ∷ c.as_bytes-7.result.now ∷ c.as_bytes-8.result.now ∷ []
    ≡ codes "dropped" ∷ decimal loss.vl.0 ∷ place_name c.args.network.now loss.place ∷ cause_name loss.cause ∷ decimal c.args.count ∷ [] ∷ [] ∷ [] ∷ [] = cc in
    subst (λ (fields : List (List ℕ)). OnOk c.push.result (Adds c.args.out.now c.push.new.out (line fields))) e c.push.ensures
