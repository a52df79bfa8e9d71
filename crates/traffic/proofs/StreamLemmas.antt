-- The streams of a network, one place after another.
use Rattle.std.proofs.Common.{◌≡◌, ℕ, zero, suc, ◌+◌, ◌-◌, ◌<◌, ◌≤◌, List, [], ◌∷◌, ◌++◌, length, map, take, take_all, get_or, Option, Some, None, refl, ap, sym, ◌∙◌, arith, append-nil, append_assoc, slice_get, option_and_then, option_map, option_to_list, flat_map, le_refl}
use Rattle.std.proofs.lemmas.List.{take_more}
use Rattle.std.proofs.lemmas.Grind.{flat_map-append}
use Rattle.std.proofs.lemmas.Option.{slice_get_read, slice_get_within, get_or_from_slice_get}
use Rattle.row_types.specs.declared.rows.Stream.{Stream}
use Rattle.row_types.specs.declared.rows.VirtualLink.{VirtualLink}
use Rattle.network.specs.declared.plan.VlStream.{VlStream}
use Rattle.network.specs.Words.{Plan, VlPlan, each, place_of_vl, source_of}
use Rattle.network.proofs.EachLemmas.{each-more}
use Rattle.traffic.specs.declared.stream.OfferedStream.{OfferedStream}
use Rattle.traffic.specs.Offers.{FIRST_ROW, of_vl, own_of, own_streams, row_streams, stream_of, streams_of}
use Rattle.traffic.specs.Places.{place_count, streams_before}

-- ---- what a virtual link is whose parameters and source are known

own-known : (vl : VlPlan) (link : VirtualLink) (source : ℕ) → vl.link ≡ link → source_of vl ≡ Some source → own_streams vl ≡ own_of link source ∷ []
own-known vl link source link_is source_is =
    ap (λ (l : VirtualLink). map (own_of l) (option_to_list (source_of vl))) link_is ∙ ap (λ (o : Option ℕ). map (own_of link) (option_to_list o)) source_is

of_vl-known : (number : ℕ) (stream : Stream) (vl : VlPlan) (link : VirtualLink) (source : ℕ) → vl.link ≡ link → source_of vl ≡ Some source → of_vl number stream vl ≡ stream_of number link stream source ∷ []
of_vl-known number stream vl link source link_is source_is =
    ap (λ (l : VirtualLink). map (stream_of number l stream) (option_to_list (source_of vl))) link_is ∙ ap (λ (o : Option ℕ). map (stream_of number link stream) (option_to_list o)) source_is

-- ---- places

pub before-none : (plan : Plan) → streams_before plan 0 ≡ []
before-none plan =
    let none : 0 - length plan.vls ≡ 0 = omega arith in
    ap (λ m. flat_map own_streams (take 0 plan.vls) ++ each (row_streams plan.vls) (take m plan.streams)) none

-- behind the places of virtual links are those of rows
pub before-all : (plan : Plan) → streams_before plan (place_count plan) ≡ streams_of plan
before-all plan =
    let f = row_streams plan.vls in
    let vls : take (place_count plan) plan.vls ≡ plan.vls = take_all (place_count plan) plan.vls (omega arith) in
    let rows : place_count plan - length plan.vls ≡ length plan.streams = omega arith in
    let all : take (length plan.streams) plan.streams ≡ plan.streams = take_all (length plan.streams) plan.streams (le_refl (length plan.streams)) in
    ap (λ v. flat_map own_streams v ++ each f (take (place_count plan - length plan.vls) plan.streams)) vls
    ∙ ap (λ m. flat_map own_streams plan.vls ++ each f (take m plan.streams)) rows
    ∙ ap (λ r. flat_map own_streams plan.vls ++ each f r) all

-- with the own stream of the virtual link at the place i
pub own-more : (plan : Plan) (i : ℕ) (link : VirtualLink) (source : ℕ) → option_map (λ vl. vl.link) (slice_get plan.vls i) ≡ Some link → option_and_then source_of (slice_get plan.vls i) ≡ Some source
    → streams_before plan (i + 1) ≡ streams_before plan i ++ own_of link source ∷ []
own-more plan i link source = go (slice_get plan.vls i) refl
  where
    go : (o : Option VlPlan) → slice_get plan.vls i ≡ o → option_map (λ vl. vl.link) o ≡ Some link → option_and_then source_of o ≡ Some source
        → streams_before plan (i + 1) ≡ streams_before plan i ++ own_of link source ∷ []
    go None at link_is source_is = absurd (cc)
    go (Some vl) at link_is source_is =
        let same : vl.link ≡ link = cc in
        let lt = slice_get_within plan.vls i vl at in
        let none : i - length plan.vls ≡ 0 = omega (arith, lt) in
        let later : (i + 1) - length plan.vls ≡ 0 = omega (arith, lt) in
        let whole : take (i + 1) plan.vls ≡ take i plan.vls ++ vl ∷ [] =
        take_more plan.vls i vl lt ∙ ap (λ (x : VlPlan). take i plan.vls ++ x ∷ []) (get_or_from_slice_get plan.vls i vl vl at) in
        let own : flat_map own_streams (take (i + 1) plan.vls) ≡ flat_map own_streams (take i plan.vls) ++ own_of link source ∷ [] =
        ap (flat_map own_streams) whole ∙ flat_map-append own_streams (take i plan.vls) (vl ∷ [])
        ∙ ap (λ (ss : List OfferedStream). flat_map own_streams (take i plan.vls) ++ ss) (append-nil (own_streams vl) ∙ own-known vl link source same source_is) in
        let f = row_streams plan.vls in
        let before = flat_map own_streams (take i plan.vls) in
        ap (λ m. flat_map own_streams (take (i + 1) plan.vls) ++ each f (take m plan.streams)) later
        ∙ append-nil (flat_map own_streams (take (i + 1) plan.vls))
        ∙ own
        ∙ ap (λ (ss : List OfferedStream). ss ++ own_of link source ∷ []) (sym (ap (λ m. before ++ each f (take m plan.streams)) none ∙ append-nil before))

-- with the stream of the row at the place j, if its virtual link is there
row-more : (plan : Plan) (j i : ℕ) (row : VlStream) → i ≡ length plan.vls + j → slice_get plan.streams j ≡ Some row
    → streams_before plan (i + 1) ≡ streams_before plan i ++ row_streams plan.vls (take j plan.streams) row
row-more plan j i row place at =
    let f = row_streams plan.vls in
    let lt = slice_get_within plan.streams j row at in
    let vls : take i plan.vls ≡ plan.vls = take_all i plan.vls (omega (arith, place)) in
    let vls_later : take (i + 1) plan.vls ≡ plan.vls = take_all (i + 1) plan.vls (omega (arith, place)) in
    let here : i - length plan.vls ≡ j = omega (arith, place) in
    let later : (i + 1) - length plan.vls ≡ j + 1 = omega (arith, place) in
    let more : each f (take (j + 1) plan.streams) ≡ each f (take j plan.streams) ++ f (take j plan.streams) row =
    each-more f plan.streams j row lt ∙ ap (λ (r : VlStream). each f (take j plan.streams) ++ f (take j plan.streams) r) (get_or_from_slice_get plan.streams j row row at) in
    let own = flat_map own_streams plan.vls in
    let its = f (take j plan.streams) row in
    ap (λ v. flat_map own_streams v ++ each f (take ((i + 1) - length plan.vls) plan.streams)) vls_later
    ∙ ap (λ m. own ++ each f (take m plan.streams)) later
    ∙ ap (λ (ss : List OfferedStream). own ++ ss) more
    ∙ sym (append_assoc own (each f (take j plan.streams)) its)
    ∙ ap (λ (ss : List OfferedStream). ss ++ its) (sym (ap (λ v. flat_map own_streams v ++ each f (take (i - length plan.vls) plan.streams)) vls ∙ ap (λ m. own ++ each f (take m plan.streams)) here))

length-before : {X : Type 0} (xs : List X) (i : ℕ) → i ≤ length xs → length (take i xs) ≡ i
length-before xs zero h = refl
length-before [] (suc i) h = absurd (omega arith)
length-before (x ∷ xs) (suc i) h = ap suc (length-before xs i (omega arith))

pub row-none : (plan : Plan) (j i : ℕ) (row : VlStream) → i ≡ length plan.vls + j → slice_get plan.streams j ≡ Some row → place_of_vl plan.vls row.vl.0 ≡ None
    → streams_before plan (i + 1) ≡ streams_before plan i ++ []
row-none plan j i row place at absent =
    let no_one : row_streams plan.vls (take j plan.streams) row ≡ [] =
    ap (λ (o : Option ℕ). flat_map (of_vl (FIRST_ROW + length (take j plan.streams)) row.stream) (option_to_list (option_and_then (slice_get plan.vls) o))) absent in
    row-more plan j i row place at ∙ ap (λ ss. streams_before plan i ++ ss) no_one

pub row-some : (plan : Plan) (j i vl number : ℕ) (row : VlStream) (link : VirtualLink) (source : ℕ) → i ≡ length plan.vls + j → slice_get plan.streams j ≡ Some row → place_of_vl plan.vls row.vl.0 ≡ Some vl
    → option_map (λ vl. vl.link) (slice_get plan.vls vl) ≡ Some link → option_and_then source_of (slice_get plan.vls vl) ≡ Some source → number ≡ FIRST_ROW + j
    → streams_before plan (i + 1) ≡ streams_before plan i ++ stream_of number link row.stream source ∷ []
row-some plan j i vl number row link source place at placed = go (slice_get plan.vls vl) refl
  where
    go : (o : Option VlPlan) → slice_get plan.vls vl ≡ o → option_map (λ vl. vl.link) o ≡ Some link → option_and_then source_of o ≡ Some source → number ≡ FIRST_ROW + j
        → streams_before plan (i + 1) ≡ streams_before plan i ++ stream_of number link row.stream source ∷ []
    go None read link_is source_is is = absurd (cc)
    go (Some one) read link_is source_is is =
        let same : one.link ≡ link = cc in
        let lt = slice_get_within plan.streams j row at in
        let count : length (take j plan.streams) ≡ j = length-before plan.streams j (omega (arith, lt)) in
        let n = FIRST_ROW + length (take j plan.streams) in
        let number_is : n ≡ number = omega (arith, count, is) in
        let found : option_and_then (slice_get plan.vls) (place_of_vl plan.vls row.vl.0) ≡ Some one = ap (option_and_then (slice_get plan.vls)) placed ∙ read in
        let its : row_streams plan.vls (take j plan.streams) row ≡ stream_of number link row.stream source ∷ [] =
        ap (λ (o : Option VlPlan). flat_map (of_vl n row.stream) (option_to_list o)) found
        ∙ append-nil (of_vl n row.stream one)
        ∙ of_vl-known n row.stream one link source same source_is
        ∙ ap (λ (m : ℕ). stream_of m link row.stream source ∷ []) number_is in
        row-more plan j i row place at ∙ ap (λ ss. streams_before plan i ++ ss) its

-- the row that is read
pub read-row : (rows streams : List VlStream) (i : ℕ) (row : VlStream) → rows ≡ streams → i < length streams → row ≡ get_or rows i row → slice_get streams i ≡ Some row
read-row rows streams i row same lt read = ap (λ rs. slice_get rs i) (sym same) ∙ slice_get_read rows (length rows) i row refl (omega (arith, ap length same, lt)) read
