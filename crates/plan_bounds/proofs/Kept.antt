-- The sizes that bounds count by contract are those of frames, whatever other end systems send; and those that a network states are those of its own frames.
use Rattle.std.proofs.Common.{◌≡◌, ℕ, ◌<◌, length, option_map, Bool, true, false, List, [], ◌∷◌, map, Contains, Option, Some, None, inl, inr, refl, ap, sym, ◌∙◌, subst, arith, slice_get, option_and_then}
use Rattle.std.specs.Prelude.{slice_index_or}
use Rattle.std.specs.Option.{option_map_or}
use Rattle.std.proofs.lemmas.Option.{get_or_from_slice_get, none-some}
use Rattle.vlink.specs.declared.frame.VlId.{VlId}
use Rattle.std.proofs.lemmas.Bool.{false≢true}
use Rattle.network.specs.Words.{IsAccepted, Plan, VlPlan, is_end_system, lines_of, place_of_vl}
use Rattle.network.proofs.BuildLemmas.{line-read}
use Rattle.network_faults.proofs.MemberLemmas.{Has, contains-from_has, has-from_contains}
use Rattle.nodes.specs.rules.Opening as opened
use Rattle.plan_ports.specs.Links.{LeavesBy}
use Rattle.plan_ports.proofs.Linked.{fit-smax, have-transits, one-vl, own-way}
use Rattle.frame_ages.specs.Sizes.{Sizes}
use Rattle.network_bounds.specs.declared.sizes.LinkSizes.{LinkSizes}
use Rattle.network_bounds.specs.declared.sizes.Senders.{Senders}
use Rattle.network_bounds.specs.declared.sizes.Senders.TheVariants.{AsStated, ByContract}
use Rattle.network_bounds.specs.Passing.{sizes_at}
use Rattle.network_bounds.specs.Sizes.{LEAST, all_sizes, known_sizes, link_sizes, one_size, sizes_in}
use Rattle.network_bounds.proofs.SizeLemmas.{at-map, least-sent, sizes_of_vl}
use Rattle.network_bounds.specs.declared.delays.PortBound.{PortBound}
use Rattle.network_bounds.specs.Ages.{age_to}
use Rattle.network_bounds.specs.Least.{least_to}
use Rattle.network_bounds.specs.Delays.{AreBounds}
use Rattle.plan_bounds.specs.Contract.{KeepsItsSizes, agreed_of, agreed_of_link, agreed_of_vl}
use Rattle.plan_bounds.proofs.Agreed.{from-agreed, soonest-to-same, to-agreed, to-same}
use Rattle.plan_bounds.proofs.Bounded.{counted}
use Rattle.plan_bounds.proofs.Counted.{AreSized, IsSized}
use Rattle.plan_bounds.proofs.NodeKinds.{node-kind}
use Rattle.plan_bounds.proofs.Passed.{rising, with-there}
use Rattle.plan_bounds.proofs.Over.{out-over}
use Rattle.plan_bounds.proofs.Sizes.{AreFrameSizes, as_sizes, fit-sizes, sizes-are, sizes_of}
use Rattle.plan_bounds.proofs.Sources.{leaves-source}

-- what is made of one of a list is among what is made of all, and comes from one of them
pub has-map : {X Y : Type 0} (f : X → Y) (xs : List X) (x : X) → Has xs x → Has (map f xs) (f x)
has-map f [] x there = absurd there
has-map f (y ∷ ys) x (inl same) = inl (ap f same)
has-map f (y ∷ ys) x (inr later) = inr (has-map f ys x later)

pub map-has : {X Y : Type 0} (f : X → Y) (xs : List X) (y : Y) → Has (map f xs) y → (x : X) × Has xs x × (f x ≡ y)
map-has f [] y there = absurd there
map-has f (x ∷ xs) y (inl same) = (x, inl refl, same)
map-has f (x ∷ xs) y (inr later) = let found = map-has f xs y later in (found.0, inr found.1, found.2)

-- the sizes of a virtual link, found by its number
pub known-there : (senders : Senders) (shape : Plan) → IsAccepted shape → (known : VlPlan) → Has shape.vls known → known_sizes senders shape known.link.id.0 ≡ link_sizes senders shape known.link
known-there senders shape accepted known there = go (place_of_vl shape.vls known.link.id.0) (with-there shape.vls known (rising shape accepted) there)
  where
    go : (o : Option ℕ) → option_and_then (slice_get shape.vls) o ≡ Some known
        → option_map_or (λ place. slice_index_or (all_sizes senders shape) place (record { sent = one_size LEAST; passed = one_size LEAST })) o (record { sent = one_size LEAST; passed = one_size LEAST }) ≡ link_sizes senders shape known.link
    go None e = absurd (none-some known e)
    go (Some k) e = get_or_from_slice_get (all_sizes senders shape) k (link_sizes senders shape known.link) (record { sent = one_size LEAST; passed = one_size LEAST })
        (at-map (sizes_of_vl senders shape) shape.vls k ∙ ap (option_map (sizes_of_vl senders shape)) e)

module _ (shape plan : Plan) (known_accepted : IsAccepted shape) (accepted : IsAccepted plan) (same : agreed_of plan ≡ agreed_of shape) where
  -- the virtual link of the other network with its number, which is agreed to be the same
  pub partner : (vl : VlPlan) → Contains plan.vls vl → (known : VlPlan) × Has shape.vls known × (agreed_of_vl known ≡ agreed_of_vl vl)
  partner vl is_vl = map-has agreed_of_vl shape.vls (agreed_of_vl vl) (subst (λ (s : Plan). Has s.vls (agreed_of_vl vl)) same (has-map agreed_of_vl plan.vls vl (has-from_contains plan.vls vl is_vl)))

  -- whose sizes are those that count
  record IsKnown (senders : Senders) (vl : VlPlan) : Type 0 where
    known : VlPlan
    is_known : Contains shape.vls known
    id : vl.link.id ≡ known.link.id
    smax : vl.link.smax ≡ known.link.smax
    sizes : known_sizes senders shape vl.link.id.0 ≡ link_sizes senders shape known.link

  known-of : (senders : Senders) (vl : VlPlan) → Contains plan.vls vl → IsKnown senders vl
  known-of senders vl is_vl =
      let (known, there, agreed) = partner vl is_vl in
      let id : vl.link.id ≡ known.link.id = ap (λ (v : VlPlan). v.link.id) (sym agreed) in
      record {
        known = known;
        is_known = contains-from_has shape.vls known there;
        id = id;
        smax = ap (λ (v : VlPlan). v.link.smax) (sym agreed);
        sizes = ap (λ (i : VlId). known_sizes senders shape i.0) id ∙ known-there senders shape known_accepted known there;
      }

  -- of which the least is that of the streams of the one
  least-known : (senders : Senders) (vl : VlPlan) (k : IsKnown senders vl) → (known_sizes senders shape vl.link.id.0).sent.least ≡ (sizes_in shape k.known.link).least
  least-known senders vl k = ap (λ (z : LinkSizes). z.sent.least) k.sizes ∙ least-sent senders shape k.known.link

  offered : (vl : VlPlan) → Contains plan.vls vl → sizes_of plan vl.link.id.0 ≡ as_sizes (sizes_in plan vl.link)
  offered vl there = sizes-are plan accepted vl there

  module _ (p : ℕ) (lt : p < length plan.nodes) where
    -- by contract
    pub kept : (is_end_system plan.nodes p ≡ true → KeepsItsSizes shape plan p) → AreSized plan (known_sizes ByContract shape) (counted plan accepted (known_sizes ByContract shape)) p
    kept keeps q vl leaves =
        subst (λ z. IsSized plan size p vl (sizes_at (is_end_system plan.nodes p) z)) (sym k.sizes) (elim (node-kind plan p lt) [
          | inl node ↦ subst (λ b. IsSized plan size p vl (sizes_at b (link_sizes ByContract shape k.known.link))) (sym node.end) (record {
            most = inl (let own = keeps node.end k.known k.is_known vl leaves.is_vl k.id (leaves-source plan accepted vl leaves.is_vl p q leaves node.end) in let is = greatest in omega (arith, own, is));
            small = (let smax = fit-smax shape known_accepted k.known k.is_known in let most = smax.1 in let sent = known_fit.1 in omega (arith, most, sent));
            some = (let low = known_fit.0 in omega (arith, low));
            shorter = λ e. absurd (false≢true (sym e ∙ node.end));
          })
          | inr node ↦ subst (λ b. IsSized plan size p vl (sizes_at b (link_sizes ByContract shape k.known.link))) (sym node.no_end) (record {
            most = inr (opened.transit_of plan p vl, have-transits plan accepted p q vl leaves node.state node.is, (let is = k.smax in omega (arith, is)));
            small = (fit-smax shape known_accepted k.known k.is_known).1;
            some = omega arith;
            shorter = λ e. (let low = known_fit.0 in let own = own_fit.0 in let first = least-known ByContract vl k in let second = least in omega (arith, low, own, first, second));
          })
        ])
      where
        size : ℕ → Sizes
        size = counted plan accepted (known_sizes ByContract shape)

        k : IsKnown ByContract vl
        k = known-of ByContract vl leaves.is_vl

        known_fit : AreFrameSizes (sizes_in shape k.known.link)
        known_fit = fit-sizes shape known_accepted k.known k.is_known

        own_fit : AreFrameSizes (sizes_in plan vl.link)
        own_fit = fit-sizes plan accepted vl leaves.is_vl

        greatest : (sizes_of plan vl.link.id.0).greatest ≡ (sizes_in plan vl.link).greatest
        greatest = ap (λ (z : Sizes). z.greatest) (offered vl leaves.is_vl)

        least : (sizes_of plan vl.link.id.0).least ≡ (sizes_in plan vl.link).least
        least = ap (λ (z : Sizes). z.least) (offered vl leaves.is_vl)

    -- as they are stated, where both offer frames of the same sizes
    pub stated : ((vl : VlPlan) → Contains plan.vls vl → (known : VlPlan) → Contains shape.vls known → vl.link.id ≡ known.link.id → sizes_in plan vl.link ≡ sizes_in shape known.link) →
        AreSized plan (known_sizes AsStated shape) (counted plan accepted (known_sizes AsStated shape)) p
    stated agree q vl leaves =
        subst (λ z. IsSized plan size p vl (sizes_at (is_end_system plan.nodes p) z)) (sym k.sizes) (both (is_end_system plan.nodes p))
      where
        size : ℕ → Sizes
        size = counted plan accepted (known_sizes AsStated shape)

        k : IsKnown AsStated vl
        k = known-of AsStated vl leaves.is_vl

        fit : AreFrameSizes (sizes_in shape k.known.link)
        fit = fit-sizes shape known_accepted k.known k.is_known

        own : sizes_of plan vl.link.id.0 ≡ as_sizes (sizes_in shape k.known.link)
        own = offered vl leaves.is_vl ∙ ap as_sizes (agree vl leaves.is_vl k.known k.is_known k.id)

        sized : IsSized plan size p vl (sizes_in shape k.known.link)
        sized = record {
          most = inl (let is = ap (λ (z : Sizes). z.greatest) own in omega (arith, is));
          small = fit.1;
          some = (let low = fit.0 in omega (arith, low));
          shorter = λ e. (let first = least-known AsStated vl k in let second = ap (λ (z : Sizes). z.least) own in omega (arith, first, second));
        }

        both : (b : Bool) → IsSized plan size p vl (sizes_at b (link_sizes AsStated shape k.known.link))
        both true = sized
        both false = sized

  -- a node that a virtual link leaves is there
  pub leaves-there : (p q : ℕ) (vl : VlPlan) → LeavesBy plan p q vl → p < length plan.nodes
  leaves-there p q vl leaves =
      let out = out-over plan vl p _ (own-way plan accepted p q vl leaves) in
      subst (λ n. n < length plan.nodes) out.from (line-read plan out.k out.line accepted out.read).0

  -- virtual links of one number are agreed to be the same
  pub one-agreed : (known vl : VlPlan) → Contains shape.vls known → Contains plan.vls vl → vl.link.id ≡ known.link.id → agreed_of_vl vl ≡ agreed_of_vl known
  one-agreed known vl is_known is_vl id =
      let (other, there, agreed) = partner vl is_vl in
      let number : other.link.id.0 ≡ known.link.id.0 = ap (λ (v : VlPlan). v.link.id.0) agreed ∙ ap (λ (i : VlId). i.0) id in
      sym agreed ∙ ap agreed_of_vl (one-vl shape known_accepted known other (has-from_contains shape.vls known is_known) there number)

  -- the bounds of the one, by these sizes, are bounds of the other
  pub theirs : (known : ℕ → LinkSizes) (bounds : List PortBound) → AreBounds known shape (lines_of shape) bounds → AreBounds known plan (lines_of plan) bounds
  theirs known bounds are = from-agreed known plan (lines_of plan) bounds (subst (λ (s : Plan). AreBounds known s (lines_of s) bounds) (sym same) (to-agreed known shape (lines_of shape) bounds are))

  -- and so is the age of a virtual link
  pub same-age : (known vl : VlPlan) → Contains shape.vls known → Contains plan.vls vl → vl.link.id ≡ known.link.id → (senders : Senders) (bounds : List PortBound) (least n : ℕ) → age_to plan bounds vl.link least n ≡ age_to shape bounds known.link least n
  same-age known vl is_known is_vl id senders bounds least n =
      sym (to-same (known_sizes senders shape) plan bounds vl.link least n)
      ∙ ap (λ (v : VlPlan). age_to (agreed_of plan) bounds v.link least n) (one-agreed known vl is_known is_vl id)
      ∙ ap (λ (s : Plan). age_to s bounds (agreed_of_link known.link) least n) same
      ∙ to-same (known_sizes senders shape) shape bounds known.link least n

  -- the least that counts of a virtual link is that of the streams of the one
  pub least-of : (senders : Senders) (known vl : VlPlan) → Contains shape.vls known → vl.link.id ≡ known.link.id → (known_sizes senders shape vl.link.id.0).sent.least ≡ (sizes_in shape known.link).least
  least-of senders known vl is_known id =
      ap (λ (z : LinkSizes). z.sent.least) (ap (λ (i : VlId). known_sizes senders shape i.0) id ∙ known-there senders shape known_accepted known (has-from_contains shape.vls known is_known)) ∙ least-sent senders shape known.link

  -- and so is the least time of a virtual link
  pub same-soonest : (known vl : VlPlan) → Contains shape.vls known → Contains plan.vls vl → vl.link.id ≡ known.link.id → (senders : Senders) (bounds : List PortBound) (least n : ℕ) → least_to plan vl.link least n ≡ least_to shape known.link least n
  same-soonest known vl is_known is_vl id senders bounds least n =
      sym (soonest-to-same (known_sizes senders shape) plan bounds vl.link least n)
      ∙ ap (λ (v : VlPlan). least_to (agreed_of plan) v.link least n) (one-agreed known vl is_known is_vl id)
      ∙ ap (λ (s : Plan). least_to s (agreed_of_link known.link) least n) same
      ∙ soonest-to-same (known_sizes senders shape) shape bounds known.link least n
