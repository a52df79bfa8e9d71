use Rattle.std.proofs.Common.{◌≡◌, ℕ, List, [], ◌∷◌, ap, ◌∙◌, subst, OnOk, codes, decimal}
use Rattle.trace_segments.specs.Words.{line, place_name, Adds}
use Rattle.trace_tables.proofs.text.push_latency.Goals as goal

pub returns : goal.returns
returns c =
    let h1 = c.as_bytes.ensures.value in
    let h2 : c.as_bytes-2.result.now ≡ decimal c.args.vl.0 = c.as_bytes-2.ensures.value ∙ c.format.ensures.text in
    let h3 : c.as_bytes-3.result.now ≡ place_name c.args.network.now c.args.place = c.as_bytes-3.ensures.value ∙ c.place_name.ensures in
    let h4 = c.as_bytes-4.ensures.value in
    let h5 : c.as_bytes-5.result.now ≡ decimal c.args.counts.now.count = c.as_bytes-5.ensures.value ∙ c.format-2.ensures.text ∙ ap decimal c.count.ensures in
    let h6 : c.as_bytes-6.result.now ≡ decimal c.args.counts.now.least = c.as_bytes-6.ensures.value ∙ c.format-3.ensures.text ∙ ap decimal c.least.ensures in
    let h7 : c.as_bytes-7.result.now ≡ decimal c.args.counts.now.greatest = c.as_bytes-7.ensures.value ∙ c.format-4.ensures.text ∙ ap decimal c.greatest.ensures in
    let h8 : c.as_bytes-8.result.now ≡ decimal c.args.counts.now.total = c.as_bytes-8.ensures.value ∙ c.format-5.ensures.text ∙ ap decimal c.sum.ensures in
    let e : c.as_bytes.result.now ∷ c.as_bytes-2.result.now ∷ c.as_bytes-3.result.now ∷ c.as_bytes-4.result.now ∷ c.as_bytes-5.result.now ∷ c.as_bytes-6.result.now ∷ c.as_bytes-7.result.now ∷ c.as_bytes-8.result.now ∷ []
    ≡ codes "latency" ∷ decimal c.args.vl.0 ∷ place_name c.args.network.now c.args.place ∷ [] ∷ decimal c.args.counts.now.count ∷ decimal c.args.counts.now.least ∷ decimal c.args.counts.now.greatest ∷ decimal c.args.counts.now.total ∷ [] = cc in
    subst (λ (fields : List (List ℕ)). OnOk c.push.result (Adds c.args.out.now c.push.new.out (line fields))) e c.push.ensures
