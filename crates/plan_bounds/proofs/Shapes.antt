-- Networks of one shape agree, and offer frames of the same least and greatest sizes.
use Rattle.std.proofs.Common.{◌≡◌, ℕ, List, [], ◌∷◌, map, Contains, unwrap_or, refl, ap, sym, ◌∙◌, subst, arith}
use Rattle.vlink.specs.declared.frame.VlId.{VlId}
use Rattle.network.specs.Words.{IsAccepted, Plan, VlPlan}
use Rattle.network_faults.proofs.MemberLemmas.{Has, has-from_contains}
use Rattle.plan_ports.proofs.Linked.{one-vl}
use Rattle.network_bounds.specs.declared.sizes.FrameSizes.{FrameSizes}
use Rattle.network_bounds.specs.Sizes.{sizes_in}
use Rattle.plan_bounds.specs.Contract.{KeepsItsSizes, agreed_of, agreed_of_vl}
use Rattle.plan_bounds.specs.Shapes.{shape_of, shape_of_vl}
use Rattle.plan_bounds.proofs.Kept.{has-map, map-has}

-- what is agreed of a shape is what is agreed of its network
agreed-shape : (plan : Plan) → agreed_of (shape_of plan) ≡ agreed_of plan
agreed-shape plan = λ i. record (agreed_of plan) { vls = each plan.vls i }
  where
    each : (vls : List VlPlan) → map agreed_of_vl (map (shape_of_vl plan) vls) ≡ map agreed_of_vl vls
    each [] = refl
    each (vl ∷ vls) = λ i. agreed_of_vl vl ∷ each vls i

pub agree : (shape plan : Plan) → shape_of plan ≡ shape_of shape → agreed_of plan ≡ agreed_of shape
agree shape plan same = sym (agreed-shape plan) ∙ ap agreed_of same ∙ agreed-shape shape

-- the virtual links of one number have one shape
one-shape : (shape plan : Plan) → IsAccepted plan → shape_of plan ≡ shape_of shape → (known vl : VlPlan) → Has shape.vls known → Has plan.vls vl → vl.link.id ≡ known.link.id → shape_of_vl plan vl ≡ shape_of_vl shape known
one-shape shape plan accepted same known vl there is_vl id =
    let among : Has (map (shape_of_vl plan) plan.vls) (shape_of_vl shape known) =
    subst (λ (s : Plan). Has s.vls (shape_of_vl shape known)) (sym same) (has-map (shape_of_vl shape) shape.vls known there) in
    let (other, is_other, made) = map-has (shape_of_vl plan) plan.vls (shape_of_vl shape known) among in
    let number : other.link.id.0 ≡ vl.link.id.0 = ap (λ (v : VlPlan). v.link.id.0) made ∙ ap (λ (v : VlId). v.0) (sym id) in
    ap (shape_of_vl plan) (sym (one-vl plan accepted vl other is_vl is_other number)) ∙ made

-- so their frames have the same sizes
pub same-sizes : (shape plan : Plan) → IsAccepted plan → shape_of plan ≡ shape_of shape → (vl : VlPlan) → Contains plan.vls vl → (known : VlPlan) → Contains shape.vls known → vl.link.id ≡ known.link.id → sizes_in plan vl.link ≡ sizes_in shape known.link
same-sizes shape plan accepted same vl is_vl known is_known id =
    let one = one-shape shape plan accepted same known vl (has-from_contains shape.vls known is_known) (has-from_contains plan.vls vl is_vl) id in
    let greatest : (sizes_in plan vl.link).greatest ≡ (sizes_in shape known.link).greatest = ap (λ (v : VlPlan). v.link.own.size) one in
    let least : (sizes_in plan vl.link).least ≡ (sizes_in shape known.link).least = ap (λ (v : VlPlan). unwrap_or v.link.own.last_size 0) one in
    λ i. record { least = least i; greatest = greatest i }

-- a network is of its own shape, and keeps its own sizes
pub own-sizes : (plan : Plan) → IsAccepted plan → (vl : VlPlan) → Contains plan.vls vl → (known : VlPlan) → Contains plan.vls known → vl.link.id ≡ known.link.id → sizes_in plan vl.link ≡ sizes_in plan known.link
own-sizes plan accepted vl is_vl known is_known id = same-sizes plan plan accepted refl vl is_vl known is_known id

pub keeps-own : (plan : Plan) → IsAccepted plan → (p : ℕ) → KeepsItsSizes plan plan p
keeps-own plan accepted p known is_known vl is_vl id from =
    let is = ap (λ (z : FrameSizes). z.greatest) (own-sizes plan accepted vl is_vl known is_known id) in
    omega (arith, is)
