-- The sizes of all virtual links, one after another.
use Rattle.std.proofs.Common.{◌≡◌, ℕ, zero, suc, ◌+◌, List, [], ◌∷◌, ◌++◌, map, take, Option, Some, None, refl, sym, ap, ◌∙◌, slice_get, option_map}
use Rattle.std.proofs.lemmas.List.{map-append, take_more}
use Rattle.std.proofs.lemmas.Option.{get_or_from_slice_get, slice_get_within}
use Rattle.network.specs.Words.{Plan, VlPlan}
use Rattle.row_types.specs.declared.rows.VirtualLink.{VirtualLink}
use Rattle.network_bounds.specs.declared.sizes.LinkSizes.{LinkSizes}
use Rattle.network_bounds.specs.declared.sizes.Senders.{Senders}
use Rattle.network_bounds.specs.declared.sizes.Senders.TheVariants.{AsStated, ByContract}
use Rattle.network_bounds.specs.Sizes.{AreLeast, all_sizes, link_sizes, sizes_in}

abbrev pub sizes_of_vl : Senders → Plan → VlPlan → LinkSizes
sizes_of_vl senders plan vl = link_sizes senders plan vl.link

-- with those of one more
pub sizes-more : (senders : Senders) (plan : Plan) (i : ℕ) (link : VirtualLink) → option_map (λ vl. vl.link) (slice_get plan.vls i) ≡ Some link
    → map (sizes_of_vl senders plan) (take (i + 1) plan.vls) ≡ map (sizes_of_vl senders plan) (take i plan.vls) ++ link_sizes senders plan link ∷ []
sizes-more senders plan i link is = go (slice_get plan.vls i) refl is
  where
    go : (o : Option VlPlan) → slice_get plan.vls i ≡ o → option_map (λ vl. vl.link) o ≡ Some link
        → map (sizes_of_vl senders plan) (take (i + 1) plan.vls) ≡ map (sizes_of_vl senders plan) (take i plan.vls) ++ link_sizes senders plan link ∷ []
    go None at is = absurd (cc)
    go (Some vl) at is =
        let same : vl.link ≡ link = cc in
        let whole : take (i + 1) plan.vls ≡ take i plan.vls ++ vl ∷ [] =
        take_more plan.vls i vl (slice_get_within plan.vls i vl at) ∙ ap (λ (x : VlPlan). take i plan.vls ++ x ∷ []) (get_or_from_slice_get plan.vls i vl vl at) in
        ap (map (sizes_of_vl senders plan)) whole ∙ map-append (sizes_of_vl senders plan) (take i plan.vls) (vl ∷ [])
        ∙ ap (λ (l : VirtualLink). map (sizes_of_vl senders plan) (take i plan.vls) ++ link_sizes senders plan l ∷ []) same

-- the least that a virtual link sends is the least that its streams offer
pub least-sent : (senders : Senders) (plan : Plan) (link : VirtualLink) → (link_sizes senders plan link).sent.least ≡ (sizes_in plan link).least
least-sent AsStated plan link = refl
least-sent ByContract plan link = refl

pub all-least : (senders : Senders) (plan : Plan) → AreLeast plan (all_sizes senders plan)
all-least senders plan = each plan.vls
  where
    each : (vls : List VlPlan) → map (λ (s : LinkSizes). s.sent.least) (map (sizes_of_vl senders plan) vls) ≡ map (λ (vl : VlPlan). (sizes_in plan vl.link).least) vls
    each [] = refl
    each (vl ∷ vls) = λ i. least-sent senders plan vl.link i ∷ each vls i

-- what stands at a place of a list that is made of another
pub at-map : {X Y : Type 0} (f : X → Y) (xs : List X) (i : ℕ) → slice_get (map f xs) i ≡ option_map f (slice_get xs i)
at-map f [] i = refl
at-map f (x ∷ xs) zero = refl
at-map f (x ∷ xs) (suc i) = at-map f xs i

pub least-there : (plan : Plan) (known : List LinkSizes) (i : ℕ) (link : VirtualLink) (found : LinkSizes) → AreLeast plan known
    → option_map (λ vl. vl.link) (slice_get plan.vls i) ≡ Some link → slice_get known i ≡ Some found → found.sent.least ≡ (sizes_in plan link).least
least-there plan known i link found all is at =
    go (slice_get plan.vls i) is (sym (at-map (λ (vl : VlPlan). (sizes_in plan vl.link).least) plan.vls i) ∙ sym (ap (λ ks. slice_get ks i) all) ∙ at-map (λ (s : LinkSizes). s.sent.least) known i ∙ ap (option_map (λ (s : LinkSizes). s.sent.least)) at)
  where
    go : (o : Option VlPlan) → option_map (λ vl. vl.link) o ≡ Some link → option_map (λ (vl : VlPlan). (sizes_in plan vl.link).least) o ≡ Some found.sent.least → found.sent.least ≡ (sizes_in plan link).least
    go None is at = absurd (cc)
    go (Some vl) is at = let same : vl.link ≡ link = cc in let there : (sizes_in plan vl.link).least ≡ found.sent.least = cc in sym there ∙ ap (λ (l : VirtualLink). (sizes_in plan l).least) same
