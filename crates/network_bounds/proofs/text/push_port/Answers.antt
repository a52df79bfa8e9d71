use Rattle.std.proofs.Common.{◌≡◌, ℕ, slice_get, sym, List, [], ◌∷◌, ap, cond, nat_le, ◌∙◌, subst, OnOk, codes, decimal}
use Rattle.trace_segments.specs.Words.{line, Adds}
use Rattle.network.specs.Words.{line_name, lines_of}
use Rattle.network_bounds.specs.Said.{line_named}
use Rattle.network_bounds.proofs.TextLemmas.{read-or}
use Rattle.network_bounds.proofs.text.push_port.Goals as goal

pub returns : goal.returns
returns c =
    let plan = c.args.network.now in
    let n = c.as_bytes-none.result.now in
    let h0 = c.as_bytes-none.ensures.value in
    let h1 = c.as_bytes.ensures.value in
    let h2 : c.as_bytes-2.result.now ≡ line_named plan c.args.line = c.as_bytes-2.ensures.value ∙ sym (read-or (line_name plan.nodes) (slice_get (lines_of plan) c.args.line) c.line_name.result.now [] c.line_name.ensures) in
    let h3 : c.as_bytes-3.result.now ≡ decimal c.args.waiting = c.as_bytes-3.ensures.value ∙ c.format.ensures.text in
    let h4 : c.as_bytes-4.result.now ≡ cond (nat_le c.args.waiting c.args.bytes) (codes "yes") (codes "no") = c.as_bytes-4.ensures.value ∙ c.yes_or_no.ensures ∙ ap (λ n. cond (nat_le c.args.waiting n) (codes "yes") (codes "no")) c.from.ensures in
    let e : c.as_bytes.result.now ∷ c.as_bytes-2.result.now ∷ n ∷ c.as_bytes-3.result.now ∷ c.as_bytes-4.result.now ∷ n ∷ n ∷ n ∷ n ∷ n ∷ n ∷ []
    ≡ codes "port" ∷ line_named plan c.args.line ∷ [] ∷ decimal c.args.waiting ∷ cond (nat_le c.args.waiting c.args.bytes) (codes "yes") (codes "no") ∷ [] ∷ [] ∷ [] ∷ [] ∷ [] ∷ [] ∷ [] = cc in
    subst (λ (fields : List (List ℕ)). OnOk c.push.result (Adds c.args.out.now c.push.new.out (line fields))) e c.push.ensures
