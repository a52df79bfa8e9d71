-- The offers of a network: the frames that applications offer to the sources of virtual links, in bursts, and when (profile).
use Rattle.std.specs.Prelude.{ℕ, zero, suc, ◌+◌, ◌-◌, ◌*◌, ◌/◌, ◌%◌, nat_lt, nat_le, min, if◌then◌else◌, List, length, ◌++◌, map, filter, flat_map, option_to_list, unwrap_or, slice_get}
use Rattle.std.specs.List.{range_with_len}
use Rattle.std.specs.Option.{option_and_then}
use Rattle.rand_pcg.specs.Lcg.{Lcg, started, increment_of, advance}
use Rattle.rand_pcg.specs.Pcg.{multiplier_64, pcg32}
use Rattle.vlink.specs.declared.message.Message.{Message}
use Rattle.vlink.specs.declared.message.Body.TheVariants.{Offer}
use Rattle.row_types.specs.declared.rows.Stream.{Stream}
use Rattle.row_types.specs.declared.rows.Timing.{Timing}
use Rattle.row_types.specs.declared.rows.Timing.TheVariants.{Periodic, Sporadic}
use Rattle.row_types.specs.declared.rows.VirtualLink.{VirtualLink}
use Rattle.network.specs.declared.limits.TheConstants.{GREATEST_PROCESSES}
use Rattle.network.specs.declared.plan.VlStream.{VlStream}
use Rattle.network.specs.Words.{Plan, VlPlan, each, place_of_vl, source_of}
use Rattle.traffic.specs.declared.stream.OfferedStream.{OfferedStream}

-- ---- the words of a stream

-- the generator of the stream with this number, k words on: it begins with the seed as its state and the number as its stream
unfoldable pub generator_at : ℕ → ℕ → ℕ → Lcg
generator_at seed number k = advance 64 multiplier_64 k (started 64 multiplier_64 seed (increment_of 64 number))

-- its k-th word, from 0
unfoldable pub word_of : ℕ → ℕ → ℕ → ℕ
word_of seed number k = (pcg32 (generator_at seed number k)).0

-- ---- when its bursts come

-- when burst k is due, in ns
abbrev pub due_of : Stream → ℕ → ℕ
due_of stream k = stream.offset_ns + k * stream.period_ns

-- the delay that a word draws, from none to the jitter
abbrev pub drawn_by : Stream → ℕ → ℕ
drawn_by stream word = word % (stream.jitter_ns + 1)

-- that of burst k, which the k-th word of the stream draws
abbrev pub drawn_at : ℕ → OfferedStream → ℕ → ℕ
drawn_at seed s k = drawn_by s.stream (word_of seed s.number k)

-- those of the first n bursts, added up
abbrev pub drawn_before : ℕ → OfferedStream → ℕ → ℕ
drawn_before seed s zero = 0
drawn_before seed s (suc n) = drawn_before seed s n + drawn_at seed s n

-- how much later than due a burst comes: by its own delay; if the stream is sporadic by all delays so far, since each burst waits for the one before
abbrev pub late_by : Timing → ℕ → ℕ → ℕ
late_by Periodic before drawn = drawn
late_by Sporadic before drawn = before + drawn

abbrev pub late_of : ℕ → OfferedStream → ℕ → ℕ
late_of seed s k = late_by s.stream.timing (drawn_before seed s k) (drawn_at seed s k)

-- when burst k comes
abbrev pub moment_of : ℕ → OfferedStream → ℕ → ℕ
moment_of seed s k = due_of s.stream k + late_of seed s k

-- the last moment of its offers: the end of the run or, if that is earlier, its own
abbrev pub last_of : ℕ → Stream → ℕ
last_of until stream = min until (unwrap_or stream.end_ns until)

-- how many bursts are due until then; they are the first ones
abbrev pub due_count : ℕ → Stream → ℕ
due_count last stream = if nat_lt last stream.offset_ns then 0 else ((last - stream.offset_ns) / stream.period_ns + 1)

-- ---- its frames, counted through all bursts: frame n is number n mod `frames` of burst n / `frames`

-- the last frame of a burst may have a size of its own
abbrev pub size_of : Stream → ℕ → ℕ
size_of stream i = if nat_lt (i + 1) stream.frames then stream.size else unwrap_or stream.last_size stream.size

-- a burst goes to one sub-virtual link: to that of the stream, or else the bursts take turns
abbrev pub sub_of : OfferedStream → ℕ → ℕ
sub_of s k = unwrap_or s.stream.sub_vl (k % s.sub)

-- the sender of the offers of the stream with this number; lesser senders are processes
abbrev pub sender_of : ℕ → ℕ
sender_of number = GREATEST_PROCESSES + number

-- frame n, whose burst comes so much later than due, to the node where its virtual link begins
abbrev pub offer_by : OfferedStream → ℕ → ℕ → Message
offer_by s n late = record {
  time = due_of s.stream (n / s.stream.frames) + late;
  receiver = s.source;
  sender = sender_of s.number;
  number = n;
  body = Offer s.vl (size_of s.stream (n % s.stream.frames)) (sub_of s (n / s.stream.frames));
}

abbrev pub offer_of : ℕ → OfferedStream → ℕ → Message
offer_of seed s n = offer_by s n (late_of seed s (n / s.stream.frames))

-- those of these messages that come until then
abbrev pub come_until : ℕ → List Message → List Message
come_until last ms = filter (λ m. nat_le m.time last) ms

-- its offers that come until then: of the bursts that are due until then
abbrev pub offers_until : ℕ → ℕ → OfferedStream → List Message
offers_until seed last s = come_until last (map (offer_of seed s) (range_with_len 0 (due_count last s.stream * s.stream.frames)))

abbrev pub offers_from : ℕ → ℕ → OfferedStream → List Message
offers_from seed until s = offers_until seed (last_of until s.stream) s

-- ---- the streams of a network

-- a stream of a virtual link whose frames begin at this node
abbrev pub stream_of : ℕ → VirtualLink → Stream → ℕ → OfferedStream
stream_of number link stream source = record { number = number; vl = link.id; sub = link.sub; source = source; stream = stream }

-- that of its own row has its number
abbrev pub own_of : VirtualLink → ℕ → OfferedStream
own_of link source = stream_of link.id.0 link link.own source

abbrev pub own_streams : VlPlan → List OfferedStream
own_streams vl = map (own_of vl.link) (option_to_list (source_of vl))

-- the rows of streams have numbers behind those of virtual links
abbrev pub FIRST_ROW : ℕ
FIRST_ROW = 65536

-- the stream of a row behind these, if there is a virtual link with its number
abbrev pub of_vl : ℕ → Stream → VlPlan → List OfferedStream
of_vl number stream vl = map (stream_of number vl.link stream) (option_to_list (source_of vl))

abbrev pub row_streams : List VlPlan → List VlStream → VlStream → List OfferedStream
row_streams vls earlier row =
    flat_map (of_vl (FIRST_ROW + length earlier) row.stream) (option_to_list (option_and_then (slice_get vls) (place_of_vl vls row.vl.0)))

-- the own streams, by number of their virtual links, and then those of rows
abbrev pub streams_of : Plan → List OfferedStream
streams_of plan = flat_map own_streams plan.vls ++ each (row_streams plan.vls) plan.streams

-- the offers of all, one stream after another
abbrev pub offers_of : Plan → List Message
offers_of plan = flat_map (offers_from plan.seed plan.until) (streams_of plan)
