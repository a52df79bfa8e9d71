use Rattle.std.proofs.Common.{◌≡◌, ◌∙◌, ℕ, ◌+◌, ◌<◌, List, [], ◌∷◌, ◌++◌, length, take, drop, get_or, map, flat_map, arith, ap, sym, append_assoc}
use Rattle.std.proofs.lemmas.List.{take_more, drop_more, take_all, drop_all, map-append}
use Rattle.network.specs.Words.{items_of}
use Rattle.network_faults.specs.Packed.{packed_path}
use Rattle.network_faults.proofs.unpacking.Rest.paths.Goals as goal

pub loop-i-preserved : goal.loop-i-preserved
loop-i-preserved c = λ paths later h len.
    let i = c.loop-i._i in
    let lt : i < length paths = omega (arith, len) in
    let before = c.loop-i.invariant paths later h len in
    let behind = flat_map packed_path (drop (i + 1) paths) in
    let left = before.1 ∙ ap (λ (ps : List (List ℕ)). flat_map packed_path ps ++ later) (drop_more paths i [] lt) ∙ append_assoc (packed_path (get_or paths i [])) behind later in
    let here = c.in_ok-path.ensures (get_or paths i []) (behind ++ later) left in (
      ap (map items_of) c.in_ok-push.ensures.items ∙ map-append items_of c.loop-i.paths.items _
          ∙ ap (λ (ps : List (List ℕ)). ps ++ c.in_ok-path.field-0.items ∷ []) before.0 ∙ ap (λ (p : List ℕ). take i paths ++ p ∷ []) here.0 ∙ sym (take_more paths i [] lt),
      here.1,
    )

pub returns : goal.returns
returns c = λ paths later h.
    let len : length paths ≡ c.number-len.result = sym (c.number-len.ensures.value ∙ ap (λ (ns : List ℕ). get_or ns 0 0) h) in
    let all = c.loop-i.invariant paths later (c.number-len.ensures.rest ∙ ap (drop 1) h) len in
    let i = c.loop-i._i in
    (all.0 ∙ take_all i paths (omega (arith, len)), all.1 ∙ ap (λ (ps : List (List ℕ)). flat_map packed_path ps ++ later) (drop_all i paths (omega (arith, len))))
