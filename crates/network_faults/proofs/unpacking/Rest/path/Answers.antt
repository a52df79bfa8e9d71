use Rattle.std.proofs.Common.{◌≡◌, ◌∙◌, ℕ, ◌<◌, List, [], ◌∷◌, ◌++◌, length, take, drop, get_or, arith, ap, sym}
use Rattle.std.proofs.lemmas.List.{take_more, drop_more, take_all, drop_all}
use Rattle.network_faults.proofs.unpacking.Rest.path.Goals as goal

pub loop-i-preserved : goal.loop-i-preserved
loop-i-preserved c = λ path later h len.
    let i = c.loop-i._i in
    let lt : i < length path = omega (arith, len) in
    let before = c.loop-i.invariant path later h len in
    let left = before.1 ∙ ap (λ ns. ns ++ later) (drop_more path i 0 lt) in (
      c.in_ok-push.ensures.items ∙ ap (λ ns. ns ++ c.number.result ∷ []) before.0
          ∙ ap (λ n. take i path ++ n ∷ []) (c.number.ensures.value ∙ ap (λ (ns : List ℕ). get_or ns 0 0) left) ∙ sym (take_more path i 0 lt),
      c.number.ensures.rest ∙ ap (drop 1) left,
    )

pub returns : goal.returns
returns c = λ path later h.
    let len : length path ≡ c.number-len.result = sym (c.number-len.ensures.value ∙ ap (λ (ns : List ℕ). get_or ns 0 0) h) in
    let all = c.loop-i.invariant path later (c.number-len.ensures.rest ∙ ap (drop 1) h) len in
    let i = c.loop-i._i in
    (all.0 ∙ take_all i path (omega (arith, len)), all.1 ∙ ap (λ ns. ns ++ later) (drop_all i path (omega (arith, len))))
