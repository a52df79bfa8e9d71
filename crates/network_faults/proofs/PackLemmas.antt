-- What is appended when a virtual link is packed.
use Rattle.std.proofs.Common.{◌≡◌, ◌∙◌, ℕ, List, [], ◌∷◌, ◌++◌, map, flat_map, ap, sym}
use Rattle.std.proofs.lemmas.List.{map-append, flat_map_more}
use Rattle.row_types.specs.declared.rows.VirtualLink.{VirtualLink}
use Rattle.network.specs.Words.{VlPlan}
use Rattle.network_faults.specs.Packed.{packed_vl}

-- the parameters of one virtual link more
pub links-push : {R : Type 0} (plan : R → VlPlan) (rows : List R) (row : R) (old new : List VirtualLink) (link : VirtualLink)
    → old ≡ map (λ vl. vl.link) (map plan rows) → new ≡ old ++ link ∷ [] → link ≡ (plan row).link → new ≡ map (λ vl. vl.link) (map plan (rows ++ row ∷ []))
links-push plan rows row old new link before pushed same =
    pushed ∙ ap (λ ls. ls ++ link ∷ []) before ∙ ap (λ l. map (λ vl. vl.link) (map plan rows) ++ l ∷ []) same
    ∙ sym (map-append (λ vl. vl.link) (map plan rows) (plan row ∷ [])) ∙ sym (ap (map (λ vl. vl.link)) (map-append plan rows (row ∷ [])))

-- its paths
pub paths-push : {R : Type 0} (plan : R → VlPlan) (rows : List R) (row : R) (old new : List ℕ)
    → old ≡ flat_map packed_vl (map plan rows) → new ≡ old ++ packed_vl (plan row) → new ≡ flat_map packed_vl (map plan (rows ++ row ∷ []))
paths-push plan rows row old new before pushed =
    pushed ∙ ap (λ ns. ns ++ packed_vl (plan row)) before
    ∙ flat_map_more packed_vl [] (map plan rows) (plan row) ∙ sym (ap (flat_map packed_vl) (map-append plan rows (row ∷ [])))
