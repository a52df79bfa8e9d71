-- Each first message of a network is an offer of one of its streams, at the node where the frames of its virtual link begin.
use Rattle.std.proofs.Common.{◌≡◌, ℕ, zero, suc, ◌+◌, ◌*◌, ◌≤◌, ◌⊎◌, ◌==◌, Bool, true, false, cond, List, [], ◌∷◌, ◌++◌, map, filter, flat_map, All, Option, Some, None, inl, inr, refl, ap, sym, ◌∙◌, arith, add-one, slice_get, option_map, eqb-true}
use Rattle.std.specs.List.{AllByRecursion, range_with_len}
use Rattle.std.proofs.lemmas.List.Elements.{All-from_recursion}
use Rattle.std.proofs.lemmas.Option.{none-some, same_Some}
use Rattle.vlink.specs.declared.message.Message.{Message}
use Rattle.network.specs.declared.plan.VlStream.{VlStream}
use Rattle.network.specs.Words.{Plan, VlPlan, place_by, source_of}
use Rattle.traffic.specs.declared.stream.OfferedStream.{OfferedStream}
use Rattle.traffic.specs.Offers.{FIRST_ROW, due_count, last_of, offer_of, offers_from, offers_of, own_of, stream_of, streams_of}
use Rattle.traffic.proofs.AllStreams.{all-streams}
use Rattle.network_faults.proofs.MemberLemmas.{Has}

module _ {Y : Type 0} (P : Y → Type 0) where
  joined : (xs ys : List Y) → AllByRecursion P xs → AllByRecursion P ys → AllByRecursion P (xs ++ ys)
  joined [] ys all later = later
  joined (x ∷ xs) ys all later = (all.0, joined xs ys all.1 later)

  kept : (test : Y → Bool) (ys : List Y) → AllByRecursion P ys → AllByRecursion P (filter test ys)
  kept test [] all = tt
  kept test (y ∷ ys) all = go (test y) (kept test ys all.1)
    where
      go : (b : Bool) → AllByRecursion P (filter test ys) → AllByRecursion P (cond b (y ∷ filter test ys) (filter test ys))
      go true later = (all.0, later)
      go false later = later

module _ {X Y : Type 0} (P : Y → Type 0) where
  mapped : (f : X → Y) (xs : List X) → ((x : X) → P (f x)) → AllByRecursion P (map f xs)
  mapped f [] each = tt
  mapped f (x ∷ xs) each = (each x, mapped f xs each)

  gathered : (Q : X → Type 0) (f : X → List Y) (xs : List X) → AllByRecursion Q xs → ((x : X) → Q x → AllByRecursion P (f x)) → AllByRecursion P (flat_map f xs)
  gathered Q f [] all each = tt
  gathered Q f (x ∷ xs) all each = joined P (f x) (flat_map f xs) (each x all.0) (gathered Q f xs all.1 each)

-- ---- the streams

-- the stream is that of a row of its own, for this virtual link
pub record IsOfRow (plan : Plan) (vl : VlPlan) (s : OfferedStream) : Type 0 where
  pub row : VlStream
  pub is_row : Has plan.streams row
  pub id : row.vl.0 ≡ vl.link.id.0
  pub number : FIRST_ROW ≤ s.number
  pub is : s ≡ stream_of s.number vl.link row.stream s.source

-- it is that of such a row, or of the row of its virtual link
pub record IsStreamOf (plan : Plan) (s : OfferedStream) : Type 0 where
  pub vl : VlPlan
  pub is_vl : Has plan.vls vl
  pub from : source_of vl ≡ Some s.source
  pub kind : (s ≡ own_of vl.link s.source) ⊎ IsOfRow plan vl s

has-read : {X : Type 0} (xs : List X) (i : ℕ) (x : X) → slice_get xs i ≡ Some x → Has xs x
has-read [] i x e = absurd (none-some x e)
has-read (y ∷ ys) zero x e = inl (same_Some y x e)
has-read (y ∷ ys) (suc i) x e = inr (has-read ys i x e)

-- the one at the first place where a test passes passes it
place-passes : {X : Type 0} (test : X → Bool) (xs : List X) (i : ℕ) (x : X) → place_by test xs ≡ Some i → slice_get xs i ≡ Some x → test x ≡ true
place-passes test [] i x place at = absurd (none-some x at)
place-passes test (y ∷ ys) i x place at = go (test y) refl (place_by test ys) refl (λ k. place-passes test ys k x) place
  where
    go : (b : Bool) → test y ≡ b → (o : Option ℕ) → place_by test ys ≡ o → ((k : ℕ) → place_by test ys ≡ Some k → slice_get ys k ≡ Some x → test x ≡ true)
        → cond b (Some 0) (option_map (λ n. n + 1) o) ≡ Some i → test x ≡ true
    go true e o is behind first = ap test (sym (same_Some y x (ap (slice_get (y ∷ ys)) (same_Some 0 i first) ∙ at))) ∙ e
    go false e None is behind later = absurd (none-some i later)
    go false e (Some k) is behind later = behind k is (ap (slice_get (y ∷ ys)) (sym (add-one k) ∙ same_Some (k + 1) i later) ∙ at)

streams-are : (plan : Plan) → AllByRecursion (IsStreamOf plan) (streams_of plan)
streams-are plan =
    all-streams (IsStreamOf plan) plan
    (λ i vl source at is. record { vl = vl; is_vl = has-read plan.vls i vl at; from = is; kind = inl refl })
    (λ number j i row vl source high read place at is. record {
      vl = vl;
      is_vl = has-read plan.vls i vl at;
      from = is;
      kind = inr (record {
        row = row;
        is_row = has-read plan.streams j row read;
        id = (let same = eqb-true vl.link.id.0 row.vl.0 (place-passes (λ (v : VlPlan). v.link.id.0 == row.vl.0) plan.vls i vl place at) in omega (arith, same));
        number = high;
        is = refl;
      });
    })

-- what holds of each offer of each stream holds of all first messages
pub all-offered : (plan : Plan) (P : Message → Type 0) → ((s : OfferedStream) (n : ℕ) → IsStreamOf plan s → P (offer_of plan.seed s n)) → All P (offers_of plan)
all-offered plan P each = All-from_recursion P (offers_of plan) (gathered P (IsStreamOf plan) (offers_from plan.seed plan.until) (streams_of plan) (streams-are plan) from)
  where
    from : (s : OfferedStream) → IsStreamOf plan s → AllByRecursion P (offers_from plan.seed plan.until s)
    from s of =
        let count = due_count (last_of plan.until s.stream) s.stream * s.stream.frames in
        kept P _ (map (offer_of plan.seed s) (range_with_len 0 count)) (mapped P (offer_of plan.seed s) (range_with_len 0 count) (λ n. each s n of))
