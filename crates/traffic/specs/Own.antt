-- What a virtual link offers whose row has none of the optional keys of a stream, said by its row alone: one frame of one size in each period.
use Rattle.std.specs.Prelude.{◌≡◌, ℕ, ◌+◌, ◌*◌, ◌%◌, List, map, None}
use Rattle.std.specs.List.{range_with_len}
use Rattle.vlink.specs.declared.message.Message.{Message}
use Rattle.vlink.specs.declared.message.Body.TheVariants.{Offer}
use Rattle.row_types.specs.declared.rows.Stream.{Stream}
use Rattle.row_types.specs.declared.rows.Timing.TheVariants.{Periodic}
use Rattle.row_types.specs.declared.rows.VirtualLink.{VirtualLink}
use Rattle.traffic.specs.Offers.{word_of, sender_of, due_count, come_until, offers_from, own_of}

-- the row has none of the keys
pub record HasNoKeys (stream : Stream) : Type 0 where
  pub frames : stream.frames ≡ 1
  pub last_size : stream.last_size ≡ None
  pub timing : stream.timing ≡ Periodic
  pub end_ns : stream.end_ns ≡ None
  pub sub_vl : stream.sub_vl ≡ None

-- the k-th offer, to the node where the frames begin
abbrev pub plain_offer : ℕ → VirtualLink → ℕ → ℕ → Message
plain_offer seed link source k = record {
  time = (link.own.offset_ns + k * link.own.period_ns) + word_of seed link.id.0 k % (link.own.jitter_ns + 1);
  receiver = source;
  sender = sender_of link.id.0;
  number = k;
  body = Offer link.id link.own.size (k % link.sub);
}

-- those that come until then, of those that are due until then
abbrev pub plain_offers : ℕ → ℕ → VirtualLink → ℕ → List Message
plain_offers seed until link source = come_until until (map (plain_offer seed link source) (range_with_len 0 (due_count until link.own)))

-- these are the offers of its own stream
abbrev pub OffersAsBefore : Type 0
OffersAsBefore =
    (seed until : ℕ) (link : VirtualLink) (source : ℕ) → HasNoKeys link.own → offers_from seed until (own_of link source) ≡ plain_offers seed until link source
