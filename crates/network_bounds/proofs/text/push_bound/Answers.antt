use Rattle.std.proofs.Common.{◌≡◌, ℕ, ◌+◌, ◌-◌, List, [], ◌∷◌, ap, ◌∙◌, subst, OnOk, codes, decimal}
use Rattle.trace_segments.specs.Words.{line, place_name, Adds}
use Rattle.network_bounds.specs.Numbers.{capped}
use Rattle.network_bounds.specs.Ages.{wait_of}
use Rattle.network_bounds.proofs.text.push_bound.Goals as goal

pub returns : goal.returns
returns c =
    let plan = c.args.network.now in
    let link = c.args.link.now in
    let wait = wait_of plan link in
    let bound = capped (c.args.span.most + wait) in
    let n = c.as_bytes-none.result.now in
    let h0 = c.as_bytes-none.ensures.value in
    let h1 = c.as_bytes.ensures.value in
    let sum : c.saturating_add-bound.result ≡ bound = c.saturating_add-bound.ensures ∙ ap (λ n. capped (c.args.span.most + n)) (c.from.ensures ∙ c.wait_ns-wait.ensures) in
    let h2 : c.as_bytes-2.result.now ≡ decimal link.id.0 = c.as_bytes-2.ensures.value ∙ c.format.ensures.text in
    let h3 : c.as_bytes-3.result.now ≡ place_name plan c.args.node = c.as_bytes-3.ensures.value ∙ c.place_name.ensures in
    let h4 : c.as_bytes-4.result.now ≡ decimal c.args.span.most = c.as_bytes-4.ensures.value ∙ c.format-2.ensures.text in
    let h5 : c.as_bytes-5.result.now ≡ decimal wait = c.as_bytes-5.ensures.value ∙ c.format-3.ensures.text ∙ ap decimal c.wait_ns-wait.ensures in
    let h6 : c.as_bytes-6.result.now ≡ decimal bound = c.as_bytes-6.ensures.value ∙ c.format-4.ensures.text ∙ ap decimal sum in
    let h7 : c.as_bytes-7.result.now ≡ decimal c.args.span.least = c.as_bytes-7.ensures.value ∙ c.format-5.ensures.text in
    let h8 : c.as_bytes-8.result.now ≡ decimal (bound - c.args.span.least) = c.as_bytes-8.ensures.value ∙ c.format-6.ensures.text ∙ ap decimal (c.saturating_sub.ensures ∙ ap (λ n. n - c.args.span.least) sum) in
    let e : c.as_bytes.result.now ∷ c.as_bytes-2.result.now ∷ c.as_bytes-3.result.now ∷ c.as_bytes-4.result.now ∷ c.as_bytes-5.result.now ∷ c.as_bytes-6.result.now ∷ c.as_bytes-7.result.now ∷ c.as_bytes-8.result.now ∷ n ∷ n ∷ n ∷ []
    ≡ codes "bound" ∷ decimal link.id.0 ∷ place_name plan c.args.node ∷ decimal c.args.span.most ∷ decimal wait ∷ decimal bound ∷ decimal c.args.span.least ∷ decimal (bound - c.args.span.least) ∷ [] ∷ [] ∷ [] ∷ [] = cc in
    subst (λ (fields : List (List ℕ)). OnOk c.push.result (Adds c.args.out.now c.push.new.out (line fields))) e c.push.ensures
