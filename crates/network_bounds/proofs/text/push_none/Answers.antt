use Rattle.std.proofs.Common.{◌≡◌, ℕ, List, [], ◌∷◌, ◌∙◌, subst, OnOk, codes}
use Rattle.trace_segments.specs.Words.{line, Adds}
use Rattle.network_bounds.specs.Said.{reason_name}
use Rattle.network_bounds.proofs.text.push_none.Goals as goal

pub returns : goal.returns
returns c =
    let h0 = c.as_bytes-none.ensures.value in let h1 = c.as_bytes.ensures.value in let h2 = c.as_bytes-2.ensures.value in let h3 = c.as_bytes-3.ensures.value in
    let h4 : c.as_bytes-4.result.now ≡ reason_name c.args.reason = c.as_bytes-4.ensures.value ∙ c.reason_name.ensures in
    let n = c.as_bytes-none.result.now in
    let e : c.as_bytes.result.now ∷ c.as_bytes-2.result.now ∷ c.as_bytes-3.result.now ∷ c.as_bytes-4.result.now ∷ n ∷ n ∷ n ∷ n ∷ n ∷ n ∷ n ∷ []
    ≡ codes "none" ∷ c.args.of.now ∷ c.args.place.now ∷ reason_name c.args.reason ∷ [] ∷ [] ∷ [] ∷ [] ∷ [] ∷ [] ∷ [] ∷ [] = cc in
    subst (λ (fields : List (List ℕ)). OnOk c.push.result (Adds c.args.out.now c.push.new.out (line fields))) e c.push.ensures
