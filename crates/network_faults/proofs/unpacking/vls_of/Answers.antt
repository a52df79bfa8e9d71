use Rattle.std.proofs.Common.{◌∙◌, ◌+◌, ◌<◌, List, [], ◌∷◌, ◌++◌, length, take, drop, get_or, flat_map, arith, ap, sym}
use Rattle.std.proofs.lemmas.List.{take_more, drop_more, take_all, length-map, get_or-map}
use Rattle.network.specs.Words.{VlPlan}
use Rattle.network_faults.specs.Packed.{packed_vl}
use Rattle.network_faults.proofs.unpacking.vls_of.Goals as goal

pub loop-link-preserved : goal.loop-link-preserved
loop-link-preserved c = λ vls same packed.
    let i = c.loop-link.link-index in
    let vl = c.in_ok-vl.field-0 in
    let lt : i < length vls = omega (arith, ap length same, length-map vls (λ v. v.link)) in
    let before = c.loop-link.invariant vls same packed in
    let behind = flat_map packed_vl (drop (i + 1) vls) in
    let item = c.link-item.result in
    let link = sym (c.link-item.is ∙ ap (λ ls. get_or ls i item) same ∙ get_or-map (λ (v : VlPlan). v.link) vls i vl item lt) in
    let here = c.in_ok-vl.ensures (get_or vls i vl) behind link (before.1 ∙ ap (flat_map packed_vl) (drop_more vls i vl lt)) in (
      c.in_ok-push.ensures.items ∙ ap (λ (ms : List VlPlan). ms ++ vl ∷ []) before.0
          ∙ ap (λ (v : VlPlan). take i vls ++ v ∷ []) here.0 ∙ sym (take_more vls i vl lt),
      here.1,
    )

pub returns : goal.returns
returns c = λ vls same packed.
    (c.loop-link.invariant vls same packed).0 ∙ take_all c.loop-link.link-index vls (omega (arith, ap length same, length-map vls (λ v. v.link)))
