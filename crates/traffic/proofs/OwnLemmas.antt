-- Bursts of one frame, by a period, are what the row of a virtual link alone says.
use Rattle.std.proofs.Common.{◌≡◌, ℕ, ◌+◌, ◌*◌, ◌/◌, ◌%◌, Bool, true, false, cond, Option, None, map, min, nat_lt, refl, ap, ◌∙◌, arith, unwrap_or}
use Rattle.std.proofs.lemmas.Nat.{div-mul-add}
use Rattle.std.specs.List.{range_with_len}
use Rattle.vlink.specs.declared.message.Body.TheVariants.{Offer}
use Rattle.row_types.specs.declared.rows.Stream.{Stream}
use Rattle.row_types.specs.declared.rows.VirtualLink.{VirtualLink}
use Rattle.traffic.specs.Offers.{come_until, drawn_at, drawn_before, due_count, due_of, last_of, late_by, late_of, offer_of, offers_from, offers_until, own_of, sender_of, size_of}
use Rattle.traffic.specs.Own.{HasNoKeys, plain_offer, plain_offers}
use Rattle.traffic.proofs.RangeLemmas.{map_same}

whole : (n : ℕ) → n / 1 ≡ n
whole n = let same : n * 1 + 0 ≡ n = omega arith in let at_one = div-mul-add n 1 0 (omega arith) in rw same at at_one

-- without another size for the last one, each frame has the same
pub plain-size : (stream : Stream) (i : ℕ) → stream.last_size ≡ None → size_of stream i ≡ stream.size
plain-size stream i none = ap (λ (o : Option ℕ). cond (nat_lt (i + 1) stream.frames) stream.size (unwrap_or o stream.size)) none ∙ go (nat_lt (i + 1) stream.frames)
  where
    go : (b : Bool) → cond b stream.size stream.size ≡ stream.size
    go true = refl
    go false = refl

module _ (link : VirtualLink) (plain : HasNoKeys link.own) where
  same_offer : (seed source n : ℕ) → offer_of seed (own_of link source) n ≡ plain_offer seed link source n
  same_offer seed source n =
      let s = own_of link source in
      let own = link.own in
      let burst : n / own.frames ≡ n = ap (λ f. n / f) plain.frames ∙ whole n in
      let time : due_of own (n / own.frames) + late_of seed s (n / own.frames) ≡ due_of own n + drawn_at seed s n =
      ap (λ k. due_of own k + late_by own.timing (drawn_before seed s k) (drawn_at seed s k)) burst ∙ ap (λ t. due_of own n + late_by t (drawn_before seed s n) (drawn_at seed s n)) plain.timing in
      let size = plain-size own (n % own.frames) plain.last_size in
      let sub : unwrap_or own.sub_vl ((n / own.frames) % link.sub) ≡ n % link.sub = ap (λ (o : Option ℕ). unwrap_or o ((n / own.frames) % link.sub)) plain.sub_vl ∙ ap (λ k. k % link.sub) burst in
      λ i. record { time = time i; receiver = source; sender = sender_of link.id.0; number = n; body = Offer link.id (size i) (sub i) }

  pub as_before : (seed until source : ℕ) → offers_from seed until (own_of link source) ≡ plain_offers seed until link source
  as_before seed until source =
      let s = own_of link source in
      let least : min until until ≡ until = omega arith in
      let last : last_of until link.own ≡ until = ap (λ (o : Option ℕ). min until (unwrap_or o until)) plain.end_ns ∙ least in
      let one : due_count until link.own * 1 ≡ due_count until link.own = omega arith in
      let count : due_count until link.own * link.own.frames ≡ due_count until link.own = ap (λ f. due_count until link.own * f) plain.frames ∙ one in
      ap (λ l. offers_until seed l s) last
      ∙ ap (λ n. come_until until (map (offer_of seed s) (range_with_len 0 n))) count
      ∙ ap (come_until until) (map_same (offer_of seed s) (plain_offer seed link source) (due_count until link.own) 0 (λ i lt. same_offer seed source (0 + i)))
