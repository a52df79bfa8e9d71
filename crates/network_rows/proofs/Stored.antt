-- Faults stored one after another, and the first of all.
use Rattle.std.proofs.Common.{◌≡◌, cond, List, [], ◌∷◌, ◌++◌, map, Option, Some, None, unwrap_or, refl, ap, ◌∙◌}
use Rattle.toml.specs.Data.{Members}
use Rattle.network_rows.specs.declared.fault.Place.{Place}
use Rattle.network_rows.specs.declared.fault.KeyFault.{KeyFault}
use Rattle.network_rows.specs.declared.fault.KeyFault.TheVariants as sort
use Rattle.network_rows.specs.declared.fault.DescFault.TheVariants.{Missing, WrongKind, OutOfLimit}
use Rattle.network_rows.specs.declared.first_places.FirstPlaces.{FirstPlaces}
use Rattle.network_rows.specs.Faults.{faults_in_document, faults_of_document, is_sort, places_of, first}
use Rattle.network_rows.specs.Firsts.{nowhere, stored, all_stored, told_fault}

-- ---- one list behind another

pub all_stored_append : (firsts : FirstPlaces) (fs gs : List (KeyFault × Place)) → all_stored firsts (fs ++ gs) ≡ all_stored (all_stored firsts fs) gs
all_stored_append firsts [] gs = refl
all_stored_append firsts (f ∷ fs) gs = all_stored_append (stored firsts f.0 f.1) fs gs

-- ---- the first of each sort

-- the place stored for a sort of fault
place_in : KeyFault → FirstPlaces → Option Place
place_in sort.Missing firsts = firsts.missing
place_in sort.WrongKind firsts = firsts.wrong_kind
place_in sort.OutOfLimit firsts = firsts.out_of_limit

-- the place stored before, or else the first of these
or_first : Option Place → List Place → Option Place
or_first None places = first places
or_first (Some place) places = Some place

earlier : (o : Option Place) (place : Place) (places : List Place) → or_first (Some (unwrap_or o place)) places ≡ or_first o (place ∷ places)
unfolding or_first
earlier None place places = refl
earlier (Some p) place places = refl

one_more : (fault other : KeyFault) (firsts : FirstPlaces) (place : Place) (places : List Place)
    → or_first (place_in fault (stored firsts other place)) places ≡ or_first (place_in fault firsts) (cond (is_sort fault other) (place ∷ places) places)
unfolding place_in
one_more sort.Missing sort.Missing firsts place places = earlier firsts.missing place places
one_more sort.Missing sort.WrongKind firsts place places = refl
one_more sort.Missing sort.OutOfLimit firsts place places = refl
one_more sort.WrongKind sort.Missing firsts place places = refl
one_more sort.WrongKind sort.WrongKind firsts place places = earlier firsts.wrong_kind place places
one_more sort.WrongKind sort.OutOfLimit firsts place places = refl
one_more sort.OutOfLimit sort.Missing firsts place places = refl
one_more sort.OutOfLimit sort.WrongKind firsts place places = refl
one_more sort.OutOfLimit sort.OutOfLimit firsts place places = earlier firsts.out_of_limit place places

nothing_more : (o : Option Place) → o ≡ or_first o []
unfolding or_first
nothing_more None = refl
nothing_more (Some p) = refl

place_stored : (fault : KeyFault) (firsts : FirstPlaces) (fs : List (KeyFault × Place)) → place_in fault (all_stored firsts fs) ≡ or_first (place_in fault firsts) (places_of fault fs)
place_stored fault firsts [] = nothing_more (place_in fault firsts)
place_stored fault firsts (f ∷ fs) = place_stored fault (stored firsts f.0 f.1) fs ∙ one_more fault f.0 firsts f.1 (places_of fault fs)

-- ---- the first of all

first_told : (xs ys zs : List Place) → told_fault (first xs) (first ys) (first zs) ≡ first (map Missing xs ++ (map WrongKind ys ++ map OutOfLimit zs))
first_told (x ∷ xs) ys zs = refl
first_told [] (y ∷ ys) zs = refl
first_told [] [] (z ∷ zs) = refl
first_told [] [] [] = refl

told_alike : (a a' b b' c c' : Option Place) → a ≡ a' → b ≡ b' → c ≡ c' → told_fault a b c ≡ told_fault a' b' c'
told_alike a a' b b' c c' e f g = rw (e, f, g) refl

first_places : (fs : List (KeyFault × Place)) (firsts : FirstPlaces) → firsts ≡ all_stored nowhere fs
    → told_fault firsts.missing firsts.wrong_kind firsts.out_of_limit ≡ told_fault (first (places_of sort.Missing fs)) (first (places_of sort.WrongKind fs)) (first (places_of sort.OutOfLimit fs))
unfolding place_in or_first
first_places fs firsts is =
    told_alike _ _ _ _ _ _
    (ap (λ (f : FirstPlaces). f.missing) is ∙ place_stored sort.Missing nowhere fs)
    (ap (λ (f : FirstPlaces). f.wrong_kind) is ∙ place_stored sort.WrongKind nowhere fs)
    (ap (λ (f : FirstPlaces). f.out_of_limit) is ∙ place_stored sort.OutOfLimit nowhere fs)

-- what is told once all faults of a document are stored
pub told_of_document : (document : Members) (firsts : FirstPlaces) → firsts ≡ all_stored nowhere (faults_in_document document)
    → told_fault firsts.missing firsts.wrong_kind firsts.out_of_limit ≡ first (faults_of_document document)
told_of_document document firsts is =
    first_places (faults_in_document document) firsts is
    ∙ first_told (places_of sort.Missing (faults_in_document document)) (places_of sort.WrongKind (faults_in_document document)) (places_of sort.OutOfLimit (faults_in_document document))
