-- What holds of the stream of each virtual link and of each row holds of all streams of a network; and their numbers rise.
use Rattle.std.proofs.Common.{◌≡◌, ℕ, suc, ◌+◌, ◌<◌, ◌≤◌, List, [], ◌∷◌, ◌++◌, length, map, Option, Some, None, refl, subst, arith, AllPairs, length-append, slice_get, slice_index_or, option_and_then, option_to_list, flat_map}
use Rattle.std.specs.List.{AllByRecursion}
use Rattle.network.specs.declared.plan.VlStream.{VlStream}
use Rattle.network.specs.Words.{Plan, VlPlan, each_after, place_of_vl, source_of, id_of, ids_of}
use Rattle.traffic.specs.declared.stream.OfferedStream.{OfferedStream}
use Rattle.traffic.specs.Offers.{FIRST_ROW, of_vl, own_of, own_streams, row_streams, stream_of, streams_of}

joined : {X : Type 0} (P : X → Type 0) (xs ys : List X) → AllByRecursion P xs → AllByRecursion P ys → AllByRecursion P (xs ++ ys)
joined P [] ys all later = later
joined P (x ∷ xs) ys all later = (all.0, joined P xs ys all.1 later)

-- ---- what holds of each

module _ (P : OfferedStream → Type 0) where
  all-own : (vls : List VlPlan) → ((i : ℕ) (vl : VlPlan) (source : ℕ) → slice_get vls i ≡ Some vl → source_of vl ≡ Some source → P (own_of vl.link source)) → AllByRecursion P (flat_map own_streams vls)
  all-own [] each = tt
  all-own (vl ∷ vls) each = go (source_of vl) refl (all-own vls (λ i. each (suc i)))
    where
      go : (o : Option ℕ) → source_of vl ≡ o → AllByRecursion P (flat_map own_streams vls) → AllByRecursion P (map (own_of vl.link) (option_to_list o) ++ flat_map own_streams vls)
      go None is later = later
      go (Some source) is later = (each 0 vl source refl is, later)

  -- the row offers frames to a virtual link that is there
  module _ (vls : List VlPlan) where
    all-rows : (earlier rows : List VlStream)
        → ((number j i : ℕ) (row : VlStream) (vl : VlPlan) (source : ℕ) → FIRST_ROW ≤ number → slice_get rows j ≡ Some row → place_of_vl vls row.vl.0 ≡ Some i → slice_get vls i ≡ Some vl → source_of vl ≡ Some source
        → P (stream_of number vl.link row.stream source)) → AllByRecursion P (each_after (row_streams vls) earlier rows)
    all-rows earlier [] each = tt
    all-rows earlier (row ∷ rows) each = joined P (row_streams vls earlier row) _ (at (place_of_vl vls row.vl.0) refl) (all-rows (earlier ++ row ∷ []) rows (λ number j. each number (suc j)))
      where
        number : ℕ
        number = FIRST_ROW + length earlier

        of : (i : ℕ) (vl : VlPlan) → place_of_vl vls row.vl.0 ≡ Some i → slice_get vls i ≡ Some vl → (o : Option ℕ) → source_of vl ≡ o → AllByRecursion P (map (stream_of number vl.link row.stream) (option_to_list o) ++ [])
        of i vl place at None is = tt
        of i vl place at (Some source) is = (each number 0 i row vl source (omega arith) refl place at is, tt)

        found : (i : ℕ) → place_of_vl vls row.vl.0 ≡ Some i → (o : Option VlPlan) → slice_get vls i ≡ o → AllByRecursion P (flat_map (of_vl number row.stream) (option_to_list o))
        found i place None read = tt
        found i place (Some vl) read = of i vl place read (source_of vl) refl

        at : (o : Option ℕ) → place_of_vl vls row.vl.0 ≡ o → AllByRecursion P (flat_map (of_vl number row.stream) (option_to_list (option_and_then (slice_get vls) o)))
        at None place = tt
        at (Some i) place = found i place (slice_get vls i) refl

  pub all-streams : (plan : Plan) → ((i : ℕ) (vl : VlPlan) (source : ℕ) → slice_get plan.vls i ≡ Some vl → source_of vl ≡ Some source → P (own_of vl.link source))
      → ((number j i : ℕ) (row : VlStream) (vl : VlPlan) (source : ℕ) → FIRST_ROW ≤ number → slice_get plan.streams j ≡ Some row → place_of_vl plan.vls row.vl.0 ≡ Some i → slice_get plan.vls i ≡ Some vl → source_of vl ≡ Some source
      → P (stream_of number vl.link row.stream source)) → AllByRecursion P (streams_of plan)
  all-streams plan own row = joined P (flat_map own_streams plan.vls) _ (all-own plan.vls own) (all-rows plan.vls [] plan.streams row)

-- ---- numbers

-- from n on, each above those before it
abbrev pub Rises : ℕ → List OfferedStream → Type 0
Rises n [] = Unit {0}
Rises n (s ∷ ss) = (n ≤ s.number) × Rises (s.number + 1) ss

rises-weaker : (m n : ℕ) (ss : List OfferedStream) → m ≤ n → Rises n ss → Rises m ss
rises-weaker m n [] le rises = tt
rises-weaker m n (s ∷ ss) le rises = ((let first = rises.0 in omega arith), rises.1)

pub rises-all : (n : ℕ) (ss : List OfferedStream) → Rises n ss → AllByRecursion (λ s. n ≤ s.number) ss
rises-all n [] rises = tt
rises-all n (s ∷ ss) rises = (rises.0, rises-all n ss (rises-weaker n (s.number + 1) ss (let first = rises.0 in omega arith) rises.1))

-- of rows
rows-rise : (vls : List VlPlan) (earlier rows : List VlStream) → Rises (FIRST_ROW + length earlier) (each_after (row_streams vls) earlier rows)
rows-rise vls earlier [] = tt
rows-rise vls earlier (row ∷ rows) = at (rows-rise vls (earlier ++ row ∷ []) rows) (option_and_then (slice_get vls) (place_of_vl vls row.vl.0))
  where
    number : ℕ
    number = FIRST_ROW + length earlier

    behind : List OfferedStream
    behind = each_after (row_streams vls) (earlier ++ row ∷ []) rows

    next : FIRST_ROW + length (earlier ++ row ∷ []) ≡ number + 1
    next = let count = length-append earlier (row ∷ []) in omega arith

    of : Rises (number + 1) behind → (vl : VlPlan) (o : Option ℕ) → Rises number ((map (stream_of number vl.link row.stream) (option_to_list o) ++ []) ++ behind)
    of later vl None = rises-weaker number (number + 1) behind (omega arith) later
    of later vl (Some source) = (omega arith, later)

    at : Rises (FIRST_ROW + length (earlier ++ row ∷ [])) behind → (o : Option VlPlan) → Rises number (flat_map (of_vl number row.stream) (option_to_list o) ++ behind)
    at rises None = rises-weaker number (number + 1) behind (omega arith) (subst (λ n. Rises n behind) next rises)
    at rises (Some vl) = of (subst (λ n. Rises n behind) next rises) vl (source_of vl)

-- of virtual links
abbrev pub IdsRise : ℕ → List VlPlan → Type 0
IdsRise n [] = Unit {0}
IdsRise n (vl ∷ vls) = (n ≤ id_of vl) × IdsRise (id_of vl + 1) vls

pub ids-rise-from : (n : ℕ) (vls : List VlPlan) → AllPairs (λ x y. x < y) (ids_of vls) → ((d : ℕ) → 0 < length (ids_of vls) → n ≤ slice_index_or (ids_of vls) 0 d) → IdsRise n vls
ids-rise-from n [] pairs first = tt
ids-rise-from n (vl ∷ vls) pairs first =
    (first 0 (omega arith), ids-rise-from (id_of vl + 1) vls (λ i j d lt within. pairs (suc i) (suc j) d (omega arith) (omega arith)) (λ d some. let less = pairs 0 1 d (omega arith) (omega arith) in omega arith))

-- and of all
own-rise : (n : ℕ) (vls : List VlPlan) (ss : List OfferedStream) → n ≤ FIRST_ROW → IdsRise n vls → AllByRecursion (λ vl. id_of vl < FIRST_ROW) vls → Rises FIRST_ROW ss → Rises n (flat_map own_streams vls ++ ss)
own-rise n [] ss le ids few rises = rises-weaker n FIRST_ROW ss le rises
own-rise n (vl ∷ vls) ss le ids few rises = go (own-rise (id_of vl + 1) vls ss (let less = few.0 in omega arith) ids.1 few.1 rises) (source_of vl)
  where
    behind : List OfferedStream
    behind = flat_map own_streams vls ++ ss

    go : Rises (id_of vl + 1) behind → (o : Option ℕ) → Rises n ((map (own_of vl.link) (option_to_list o) ++ flat_map own_streams vls) ++ ss)
    go later None = rises-weaker n (id_of vl + 1) behind (let first = ids.0 in omega arith) later
    go later (Some source) = (ids.0, later)

pub streams-rise : (plan : Plan) → IdsRise 0 plan.vls → AllByRecursion (λ vl. id_of vl < FIRST_ROW) plan.vls → Rises 0 (streams_of plan)
streams-rise plan ids few =
    let none : FIRST_ROW + 0 ≡ FIRST_ROW = omega arith in
    own-rise 0 plan.vls _ (omega arith) ids few (subst (λ n. Rises n (each_after (row_streams plan.vls) [] plan.streams)) none (rows-rise plan.vls [] plan.streams))
