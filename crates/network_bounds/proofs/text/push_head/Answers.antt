use Rattle.std.proofs.Common.{◌≡◌, ℕ, List, [], ◌∷◌, subst, OnOk, codes}
use Rattle.trace_segments.specs.Words.{line, Adds}
use Rattle.network_bounds.proofs.text.push_head.Goals as goal

pub returns : goal.returns
returns c =
    let h1 = c.as_bytes.ensures.value in let h2 = c.as_bytes-2.ensures.value in let h3 = c.as_bytes-3.ensures.value in
    let h4 = c.as_bytes-4.ensures.value in let h5 = c.as_bytes-5.ensures.value in let h6 = c.as_bytes-6.ensures.value in
    let h7 = c.as_bytes-7.ensures.value in let h8 = c.as_bytes-8.ensures.value in let h9 = c.as_bytes-9.ensures.value in
    let h10 = c.as_bytes-10.ensures.value in let h11 = c.as_bytes-11.ensures.value in
    let e : c.as_bytes.result.now ∷ c.as_bytes-2.result.now ∷ c.as_bytes-3.result.now ∷ c.as_bytes-4.result.now ∷ c.as_bytes-5.result.now ∷ c.as_bytes-6.result.now
    ∷ c.as_bytes-7.result.now ∷ c.as_bytes-8.result.now ∷ c.as_bytes-9.result.now ∷ c.as_bytes-10.result.now ∷ c.as_bytes-11.result.now ∷ []
    ≡ codes "kind" ∷ codes "of" ∷ codes "where" ∷ codes "network_ns" ∷ codes "wait_ns" ∷ codes "bound_ns" ∷ codes "least_ns" ∷ codes "jitter_ns" ∷ codes "skew_ns" ∷ codes "sure" ∷ codes "sure_ns" ∷ [] = cc in
    subst (λ (fields : List (List ℕ)). OnOk c.push.result (Adds c.args.out.now c.push.new.out (line fields))) e c.push.ensures
