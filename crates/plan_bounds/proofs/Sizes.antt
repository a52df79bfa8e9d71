-- Which sizes the frames of each virtual link of a network have: those that its streams offer.
use Rattle.std.proofs.Common.{◌≡◌, ℕ, ◌+◌, ◌%◌, ◌≤◌, ◌==◌, Bool, true, false, cond, All, List, [], ◌∷◌, Option, Some, None, inl, inr, refl, ap, sym, ◌∙◌, subst, arith, Contains, nat_cmp, nat_le, nat_lt, option_map, unwrap_or, eqb-true, eq-eqb, leb-true, ltb-true}
use Rattle.std.specs.List.Sorted.{IsStrictlySortedBy}
use Rattle.std.specs.Option.{option_map_or}
use Rattle.std.proofs.lemmas.List.Elements.{All-contains}
use Rattle.std.proofs.lemmas.Map.Keys.{sorted_from_strictly_increasing}
use Rattle.std.proofs.lemmas.Option.{none-some, same_Some}
use Rattle.vlink.specs.declared.frame.VlId.{VlId}
use Rattle.row_types.specs.declared.rows.Stream.{Stream}
use Rattle.row_types.specs.declared.rows.VirtualLink.{VirtualLink}
use Rattle.network.specs.declared.plan.VlStream.{VlStream}
use Rattle.network.specs.Words.{IsAccepted, Plan, VlPlan, id_of, ids_of}
use Rattle.network.proofs.RisingLemmas.{ids-rise}
use Rattle.network.proofs.SourceLemmas.{HasSource, all-have}
use Rattle.network_faults.proofs.MemberLemmas.{Has, has-from_contains}
use Rattle.nodes.specs.rules.Finding.{Found, find}
use Rattle.traffic.specs.declared.stream.OfferedStream.{OfferedStream}
use Rattle.traffic.specs.Offers.{FIRST_ROW, offers_of, own_of, size_of as stream_size, stream_of}
use Rattle.plan_ports.proofs.Entries.{all-entry}
use Rattle.plan_ports.proofs.Linked.{is-small}
use Rattle.plan_ports.proofs.Offered.{IsStreamOf, all-offered}
use Rattle.plan_ports.proofs.PlainLinks.{IsSmall}
use Rattle.frame_ages.specs.Sizes.{IsSized, IsWithin, Sizes}
use Rattle.network_bounds.specs.declared.sizes.FrameSizes.{FrameSizes}
use Rattle.network_bounds.specs.Sizes.{one_size, sizes_in, sizes_of_stream, sizes_with, with_sizes}

abbrev pub as_sizes : FrameSizes → Sizes
as_sizes z = record { least = z.least; greatest = z.greatest }

-- no frame has more than 1518 bytes
abbrev pub any_size : Sizes
any_size = record { least = 0; greatest = 1518 }

abbrev pub sizes_of : Plan → ℕ → Sizes
sizes_of plan v = option_map_or (λ found. as_sizes (sizes_in plan found.entry.link)) (find id_of plan.vls v) any_size

-- ---- the sizes of a stream, and of several

abbrev IsIn : FrameSizes → ℕ → Type 0
IsIn z bytes = IsWithin (as_sizes z) bytes

in-one : (a b : FrameSizes) (bytes : ℕ) → IsIn a bytes → IsIn (with_sizes a b) bytes
in-one a b bytes h = let low = h.0 in let high = h.1 in (omega (arith, low), omega (arith, high))

in-other : (a b : FrameSizes) (bytes : ℕ) → IsIn b bytes → IsIn (with_sizes a b) bytes
in-other a b bytes h = let low = h.0 in let high = h.1 in (omega (arith, low), omega (arith, high))

-- the last frame of a burst
abbrev last_of : Stream → ℕ
last_of stream = unwrap_or stream.last_size stream.size

in-stream : (stream : Stream) (i : ℕ) → IsIn (sizes_of_stream stream) (stream_size stream i)
in-stream stream i = go (nat_le stream.frames 1) refl (nat_lt (i + 1) stream.frames) refl
  where
    itself : (bytes : ℕ) → IsIn (one_size bytes) bytes
    itself bytes = (omega arith, omega arith)

    go : (one : Bool) → nat_le stream.frames 1 ≡ one → (early : Bool) → nat_lt (i + 1) stream.frames ≡ early
        → IsIn (cond one (one_size (last_of stream)) (with_sizes (one_size stream.size) (one_size (last_of stream)))) (cond early stream.size (last_of stream))
    go true e true h = absurd (let le = leb-true stream.frames 1 e in let lt = ltb-true (i + 1) stream.frames h in omega (arith, le, lt))
    go true e false h = itself (last_of stream)
    go false e true h = in-one (one_size stream.size) (one_size (last_of stream)) stream.size (itself stream.size)
    go false e false h = in-other (one_size stream.size) (one_size (last_of stream)) (last_of stream) (itself (last_of stream))

abbrev with_row : ℕ → FrameSizes → VlStream → FrameSizes
with_row id found row = cond (row.vl.0 == id) (with_sizes found (sizes_of_stream row.stream)) found

kept : (id : ℕ) (found : FrameSizes) (rows : List VlStream) (bytes : ℕ) → IsIn found bytes → IsIn (sizes_with id found rows) bytes
kept id found [] bytes h = h
kept id found (row ∷ rows) bytes h = kept id (with_row id found row) rows bytes (go (row.vl.0 == id))
  where
    go : (b : Bool) → IsIn (cond b (with_sizes found (sizes_of_stream row.stream)) found) bytes
    go true = in-one found (sizes_of_stream row.stream) bytes h
    go false = h

joined : (id : ℕ) (found : FrameSizes) (rows : List VlStream) (row : VlStream) (bytes : ℕ) → Has rows row → row.vl.0 ≡ id → IsIn (sizes_of_stream row.stream) bytes → IsIn (sizes_with id found rows) bytes
joined id found [] row bytes there same h = absurd there
joined id found (first ∷ rows) row bytes (inr later) same h = joined id (with_row id found first) rows row bytes later same h
joined id found (first ∷ rows) row bytes (inl is) same h =
    kept id (with_row id found first) rows bytes
    (subst (λ (b : Bool). IsIn (cond b (with_sizes found (sizes_of_stream first.stream)) found) bytes) (sym (eq-eqb first.vl.0 id (ap (λ (r : VlStream). r.vl.0) is ∙ same)))
    (in-other found (sizes_of_stream first.stream) bytes (subst (λ (r : VlStream). IsIn (sizes_of_stream r.stream) bytes) (sym is) h)))

-- ---- all are sizes of frames

-- the least and the greatest are
abbrev pub AreFrameSizes : FrameSizes → Type 0
AreFrameSizes z = (64 ≤ z.least) × (z.greatest ≤ 1518)

fit-stream : (stream : Stream) → IsSmall stream → AreFrameSizes (sizes_of_stream stream)
fit-stream stream small = go (nat_le stream.frames 1)
  where
    go : (one : Bool) → AreFrameSizes (cond one (one_size (last_of stream)) (with_sizes (one_size stream.size) (one_size (last_of stream))))
    go true = small.1
    go false =
        let low = small.0.0 in
        let high = small.0.1 in
        let last_low = small.1.0 in
        let last_high = small.1.1 in
        (omega (arith, low, last_low), omega (arith, high, last_high))

fit-with : (id : ℕ) (found : FrameSizes) (rows : List VlStream) → AreFrameSizes found → ((row : VlStream) → Has rows row → row.vl.0 ≡ id → IsSmall row.stream) → AreFrameSizes (sizes_with id found rows)
fit-with id found [] fit each = fit
fit-with id found (row ∷ rows) fit each = fit-with id (with_row id found row) rows (go (row.vl.0 == id) refl) (λ r there same. each r (inr there) same)
  where
    go : (b : Bool) → (row.vl.0 == id) ≡ b → AreFrameSizes (cond b (with_sizes found (sizes_of_stream row.stream)) found)
    go true e =
        let other = fit-stream row.stream (each row (inl refl) (eqb-true row.vl.0 id e)) in
        let low = fit.0 in
        let high = fit.1 in
        let other_low = other.0 in
        let other_high = other.1 in
        (omega (arith, low, other_low), omega (arith, high, other_high))
    go false e = fit

-- ---- and the least is no greater than the greatest

ordered-stream : (stream : Stream) → (sizes_of_stream stream).least ≤ (sizes_of_stream stream).greatest
ordered-stream stream = go (nat_le stream.frames 1)
  where
    go : (one : Bool) → (cond one (one_size (last_of stream)) (with_sizes (one_size stream.size) (one_size (last_of stream)))).least
        ≤ (cond one (one_size (last_of stream)) (with_sizes (one_size stream.size) (one_size (last_of stream)))).greatest
    go true = omega arith
    go false = omega arith

ordered-with : (id : ℕ) (found : FrameSizes) (rows : List VlStream) → found.least ≤ found.greatest → (sizes_with id found rows).least ≤ (sizes_with id found rows).greatest
ordered-with id found [] h = h
ordered-with id found (row ∷ rows) h = ordered-with id (with_row id found row) rows (go (row.vl.0 == id))
  where
    go : (b : Bool) → (cond b (with_sizes found (sizes_of_stream row.stream)) found).least ≤ (cond b (with_sizes found (sizes_of_stream row.stream)) found).greatest
    go true = omega (arith, h)
    go false = h

pub ordered : (plan : Plan) (link : VirtualLink) → (sizes_in plan link).least ≤ (sizes_in plan link).greatest
ordered plan link = ordered-with link.id.0 (sizes_of_stream link.own) plan.streams (ordered-stream link.own)

-- ---- the virtual links of a network

module _ (plan : Plan) (accepted : IsAccepted plan) where
  rising : IsStrictlySortedBy nat_cmp (ids_of plan.vls)
  rising = sorted_from_strictly_increasing (ids_of plan.vls) (ids-rise plan accepted)

  sizes-has : (vl : VlPlan) → Has plan.vls vl → sizes_of plan vl.link.id.0 ≡ as_sizes (sizes_in plan vl.link)
  sizes-has vl there = go (find id_of plan.vls vl.link.id.0) (all-entry id_of plan.vls vl rising there)
    where
      go : (o : Option (Found VlPlan)) → option_map (λ found. found.entry) o ≡ Some vl → option_map_or (λ (found : Found VlPlan). as_sizes (sizes_in plan found.entry.link)) o any_size ≡ as_sizes (sizes_in plan vl.link)
      go None k = absurd (none-some _ k)
      go (Some found) k = ap (λ (v : VlPlan). as_sizes (sizes_in plan v.link)) (same_Some found.entry vl k)

  pub sizes-are : (vl : VlPlan) → Contains plan.vls vl → sizes_of plan vl.link.id.0 ≡ as_sizes (sizes_in plan vl.link)
  sizes-are vl there = sizes-has vl (has-from_contains plan.vls vl there)

  -- those of a virtual link are
  pub fit-sizes : (vl : VlPlan) → Contains plan.vls vl → AreFrameSizes (sizes_in plan vl.link)
  fit-sizes vl there =
      fit-with vl.link.id.0 (sizes_of_stream vl.link.own) plan.streams
      (fit-stream vl.link.own (is-small plan accepted (own_of vl.link has.node) (record { vl = vl; is_vl = has-from_contains plan.vls vl there; from = has.is; kind = inl refl })))
      (λ row is_row id. is-small plan accepted (stream_of FIRST_ROW vl.link row.stream has.node) (record {
        vl = vl;
        is_vl = has-from_contains plan.vls vl there;
        from = has.is;
        kind = inr (record { row = row; is_row = is_row; id = id; number = omega arith; is = refl });
      }))
    where
      has : HasSource plan.nodes vl
      has = All-contains (HasSource plan.nodes) plan.vls vl (all-have plan accepted) there

  -- each frame that is offered has one of them
  stream-sized : (s : OfferedStream) (i : ℕ) (of : IsStreamOf plan s) → IsWithin (sizes_of plan s.vl.0) (stream_size s.stream i)
  stream-sized s i of =
      subst (λ (v : VlId). IsWithin (sizes_of plan v.0) (stream_size s.stream i)) (sym id)
      (subst (λ (z : Sizes). IsWithin z (stream_size s.stream i)) (sym (sizes-has of.vl of.is_vl)) among)
    where
      id : s.vl ≡ of.vl.link.id
      id = elim of.kind [ inl own ↦ ap (λ (o : OfferedStream). o.vl) own | inr row ↦ ap (λ (o : OfferedStream). o.vl) row.is ]

      among : IsIn (sizes_in plan of.vl.link) (stream_size s.stream i)
      among = elim of.kind [
        | inl own ↦ subst (λ (o : OfferedStream). IsIn (sizes_in plan of.vl.link) (stream_size o.stream i)) (sym own)
            (kept of.vl.link.id.0 (sizes_of_stream of.vl.link.own) plan.streams (stream_size of.vl.link.own i) (in-stream of.vl.link.own i))
        | inr row ↦ subst (λ (o : OfferedStream). IsIn (sizes_in plan of.vl.link) (stream_size o.stream i)) (sym row.is)
            (joined of.vl.link.id.0 (sizes_of_stream of.vl.link.own) plan.streams row.row (stream_size row.row.stream i) row.is_row row.id (in-stream row.row.stream i))
      ]

  pub offers-sized : All (λ m. IsSized (sizes_of plan) m.body) (offers_of plan)
  offers-sized = all-offered plan (λ m. IsSized (sizes_of plan) m.body) (λ s n of. stream-sized s (n % s.stream.frames) of)
