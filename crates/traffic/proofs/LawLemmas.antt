-- The offers of an accepted network are as the law of virtual time asks.
use Rattle.std.proofs.Common.{◌≡◌, ℕ, zero, suc, ◌+◌, ◌*◌, ◌<◌, ◌≤◌, inl, inr, true, List, [], ◌∷◌, map, Some, ap, ◌∙◌, sym, subst, arith, nat_le, slice_get, flat_map, leb-true}
use Rattle.std.specs.List.{range_with_len, AllByRecursion}
use Rattle.std.proofs.lemmas.Bool.{cases_Bool, cases_lt}
use Rattle.vlink.specs.declared.message.Message.{Message}
use Rattle.virtual_time.specs.Law.{Rules, IsOrder, IsNumbered, times_in, IsIn, Simulation}
use Rattle.virtual_time.proofs.Lists.{times-append, times-none, times-filter, times-filter_out, in-append, in-cons, in-filter}
use Rattle.virtual_time.proofs.Numbers.{numbered-once}
use Rattle.network.specs.declared.limits.TheConstants.{GREATEST_PROCESSES}
use Rattle.network.specs.Words.{Plan, VlPlan, process_count, IsAccepted, is_end_system, source_of}
use Rattle.network.proofs.BuildLemmas.{read-item}
use Rattle.network.proofs.SourceLemmas.{HasSource, all-have, end-system-below, end-system-is}
use Rattle.traffic.specs.declared.stream.OfferedStream.{OfferedStream}
use Rattle.traffic.specs.Offers.{sender_of, offer_of, due_count, last_of, offers_from, streams_of}
use Rattle.traffic.specs.Lawful.{IsOfNetwork, HasLawfulOffers}
use Rattle.traffic.proofs.AllStreams.{Rises, all-streams, rises-all}
use Rattle.traffic.proofs.IdLemmas.{numbers-rise}

-- the message is an offer of this stream
record IsOffered (plan : Plan) (s : OfferedStream) (m : Message) : Type 0 where
  k : ℕ
  is : m ≡ offer_of plan.seed s k
  in_time : m.time ≤ plan.until

module _ {S K N : Type 0} (r : Rules Message S K N) (O : IsOrder r.order) (number : (m : Message) → r.order.number m ≡ m.number) (plan : Plan) where
  -- ---- the offers of one stream

  range-numbered : (s : OfferedStream) (n k : ℕ) → IsNumbered r.order.number k (map (offer_of plan.seed s) (range_with_len k n))
  range-numbered s zero k = tt
  range-numbered s (suc n) k =
      let later : IsNumbered r.order.number (k + 1) (map (offer_of plan.seed s) (range_with_len (k + 1) n)) = range-numbered s n (k + 1) in
      let next : k + 1 ≡ suc k = omega arith in
      (number _, subst (λ (i : ℕ). IsNumbered r.order.number i (map (offer_of plan.seed s) (range_with_len (k + 1) n))) next later)

  in-range : (s : OfferedStream) (n k : ℕ) (m : Message) → IsIn r.order m (map (offer_of plan.seed s) (range_with_len k n)) → (i : ℕ) × (m ≡ offer_of plan.seed s i)
  in-range s zero k m there = absurd (omega arith)
  in-range s (suc n) k m there =
      elim (in-cons r.order O m _ _ there) [ inl here ↦ (k, here) | inr later ↦ in-range s n (k + 1) m later ]

  abbrev frame-count : OfferedStream → ℕ
  frame-count s = due_count (last_of plan.until s.stream) s.stream * s.stream.frames

  from-once : (s : OfferedStream) (m : Message) → times_in r.order m (offers_from plan.seed plan.until s) ≤ 1
  from-once s m =
      let last = last_of plan.until s.stream in
      let due = map (offer_of plan.seed s) (range_with_len 0 (frame-count s)) in
      let once : times_in r.order m due ≤ 1 = numbered-once r O 0 due (range-numbered s (frame-count s) 0) m in
      elim (cases_Bool (nat_le m.time last)) [
        | inl comes ↦ let e = times-filter r.order O (λ x. nat_le x.time last) m due comes in omega arith
        | inr late ↦ let e = times-filter_out r.order O (λ x. nat_le x.time last) m due late in omega arith
      ]

  in-from : (s : OfferedStream) (m : Message) → IsIn r.order m (offers_from plan.seed plan.until s) → IsOffered plan s m
  in-from s m there =
      let last = last_of plan.until s.stream in
      let due = map (offer_of plan.seed s) (range_with_len 0 (frame-count s)) in
      let (comes, drawn) = in-filter r.order O (λ x. nat_le x.time last) m due there in
      let (k, is) = in-range s (frame-count s) 0 m drawn in
      let before = leb-true m.time last comes in
      record { k = k; is = is; in_time = omega arith }

  -- ---- the offers of all

  in-all : (P : OfferedStream → Type 0) (ss : List OfferedStream) (m : Message) → AllByRecursion P ss → IsIn r.order m (flat_map (offers_from plan.seed plan.until) ss) → (s : OfferedStream) × P s × IsOffered plan s m
  in-all P [] m all there = absurd (omega arith)
  in-all P (s ∷ ss) m all there =
      elim (in-append r.order O m _ _ there) [ inl here ↦ (s, all.0, in-from s m here) | inr later ↦ in-all P ss m all.1 later ]

  -- no message is an offer of a stream and of a later one
  apart : (s : OfferedStream) (ss : List OfferedStream) (m : Message) → AllByRecursion (λ other. s.number + 1 ≤ other.number) ss → IsIn r.order m (flat_map (offers_from plan.seed plan.until) ss) → IsIn r.order m (offers_from plan.seed plan.until s) → ⊥
  apart s ss m above later here =
      let (other, less, offered) = in-all (λ other. s.number + 1 ≤ other.number) ss m above later in
      let own = in-from s m here in
      let same : sender_of other.number ≡ sender_of s.number = sym (ap (λ (x : Message). x.sender) offered.is) ∙ ap (λ (x : Message). x.sender) own.is in
      omega arith

  all-once : (n : ℕ) (ss : List OfferedStream) (m : Message) → Rises n ss → times_in r.order m (flat_map (offers_from plan.seed plan.until) ss) ≤ 1
  all-once n [] m rising = omega arith
  all-once n (s ∷ ss) m rising =
      let own = offers_from plan.seed plan.until s in
      let others = flat_map (offers_from plan.seed plan.until) ss in
      let sum = times-append r.order O m own others in
      let once : times_in r.order m own ≤ 1 = from-once s m in
      let rest : times_in r.order m others ≤ 1 = all-once (s.number + 1) ss m rising.1 in
      elim (cases_lt 0 (times_in r.order m others)) [
        | inl later ↦ let none = times-none r.order O m own (apart s ss m (rises-all (s.number + 1) ss rising.1) later) in omega arith
        | inr none ↦ omega arith
      ]

-- ---- the laws

module _ {S K N : Type 0} (plan : Plan) (f : Simulation Message S K N) (accepted : IsAccepted plan) (few : process_count plan ≤ GREATEST_PROCESSES) (of : IsOfNetwork plan f) where
  abbrev IsAtEnd : OfferedStream → Type 0
  IsAtEnd s = is_end_system plan.nodes s.source ≡ true

  at-end : (i source : ℕ) (vl : VlPlan) → slice_get plan.vls i ≡ Some vl → source_of vl ≡ Some source → is_end_system plan.nodes source ≡ true
  at-end i source vl at is = end-system-is plan.nodes (source_of vl) source (read-item (HasSource plan.nodes) plan.vls i vl (all-have plan accepted) at) is

  -- an offer is one of a stream that begins at an end system
  found : (m : Message) → IsIn f.rules.order m f.offers → (s : OfferedStream) × IsAtEnd s × IsOffered plan s m
  found m there =
      let all = all-streams IsAtEnd plan (λ i vl source at is. at-end i source vl at is) (λ number j i row vl source high read place at is. at-end i source vl at is) in
      in-all f.rules of.order of.number plan IsAtEnd (streams_of plan) m all (subst (IsIn f.rules.order m) of.offers there)

  once : (m : Message) → times_in f.rules.order m f.offers ≤ 1
  once m =
      let rising = numbers-rise plan accepted in
      subst (λ (ms : List Message). times_in f.rules.order m ms ≤ 1) (sym of.offers) (all-once f.rules of.order of.number plan 0 (streams_of plan) m rising)

  from : (m : Message) → IsIn f.rules.order m f.offers → f.processes ≤ f.rules.order.sender m
  from m there =
      let (s, end, offered) = found m there in
      let sender : m.sender ≡ sender_of s.number = ap (λ (x : Message). x.sender) offered.is in
      omega (arith, of.sender m, of.processes)

  to : (m : Message) → IsIn f.rules.order m f.offers → f.rules.order.receiver m < f.processes
  to m there =
      let (s, end, offered) = found m there in
      let receiver : m.receiver ≡ s.source = ap (λ (x : Message). x.receiver) offered.is in
      let below = end-system-below plan.nodes s.source end in
      omega (arith, of.receiver m, of.processes)

  in_time : (m : Message) → IsIn f.rules.order m f.offers → f.rules.order.time m ≤ f.until
  in_time m there =
      let (s, end, offered) = found m there in
      let within = offered.in_time in
      omega (arith, of.time m, of.until)

  pub lawful : HasLawfulOffers f
  lawful = record { offered_once = once; offered_from = from; offered_to = to; offered_in_time = in_time }
