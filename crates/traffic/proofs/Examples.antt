-- Small cases that are computed from the definitions. The words for the state 42 and the stream 54 are those of PCG's reference code.
use Rattle.std.proofs.Common.{◌≡◌, [], ◌∷◌, map, Some, None, refl}
use Rattle.rand_pcg.specs.Lcg.{state_after}
use Rattle.vlink.specs.declared.message.Message.{Message}
use Rattle.row_types.specs.declared.rows.Stream.{Stream}
use Rattle.row_types.specs.declared.rows.Timing.TheVariants.{Periodic, Sporadic}
use Rattle.traffic.specs.declared.stream.OfferedStream.{OfferedStream}
use Rattle.traffic.specs.Offers.{generator_at, word_of, offers_from, size_of, sub_of}

first_word : word_of 42 54 0 ≡ 2707161783
unfolding word_of generator_at state_after
first_word = refl

second_word : word_of 42 54 1 ≡ 2068313097
unfolding word_of generator_at state_after
second_word = refl

-- offered from the start, each ms, up to 1000 ns late, two frames at once
abbrev bursts : Stream
bursts = record {
  size = 64;
  frames = 2;
  last_size = Some 100;
  offset_ns = 0;
  period_ns = 1000000;
  jitter_ns = 1000;
  timing = Sporadic;
  end_ns = None;
  sub_vl = None;
}

abbrev stream_54 : Stream → OfferedStream
stream_54 stream = record { number = 54; vl = record { 0 = 54 }; sub = 2; source = 0; stream = stream }

-- the words are 326 and 851 modulo 1001; so the second burst is 1177 ns late, and each burst draws one word
sporadic : map (λ (m : Message). m.time) (offers_from 42 1500000 (stream_54 bursts)) ≡ 326 ∷ 326 ∷ 1001177 ∷ 1001177 ∷ []
unfolding word_of generator_at state_after
sporadic = refl

periodic : map (λ (m : Message). m.time) (offers_from 42 1500000 (stream_54 (record bursts { timing = Periodic }))) ≡ 326 ∷ 326 ∷ 1000851 ∷ 1000851 ∷ []
unfolding word_of generator_at state_after
periodic = refl

-- an end between the moment at which a burst is due and that at which it comes leaves it out
ended : map (λ (m : Message). m.number) (offers_from 42 1500000 (stream_54 (record bursts { end_ns = Some 1001176 }))) ≡ 0 ∷ 1 ∷ []
unfolding word_of generator_at state_after
ended = refl

sizes : size_of bursts 0 ∷ size_of bursts 1 ∷ [] ≡ 64 ∷ 100 ∷ []
sizes = refl

turns : sub_of (stream_54 bursts) 0 ∷ sub_of (stream_54 bursts) 1 ∷ sub_of (stream_54 (record bursts { sub_vl = Some 1 })) 0 ∷ [] ≡ 0 ∷ 1 ∷ 1 ∷ []
turns = refl
