-- How many offers there are: of one stream, burst by burst, and of all, one stream after another.
use Rattle.std.proofs.Common.{◌≡◌, ℕ, zero, suc, ◌+◌, ◌*◌, ◌<◌, ◌≤◌, Bool, true, false, cond, List, [], ◌∷◌, ◌++◌, length, map, inl, inr, refl, ap, ◌∙◌, sym, length-append, arith, nat_le, flat_map, mul-le-mul_left, le-leb, append-nil}
use Rattle.std.specs.List.{range_with_len}
use Rattle.std.proofs.lemmas.Bool.Decides.{nat_tests}
use Rattle.std.proofs.lemmas.Grind.{flat_map-append}
use Rattle.std.proofs.lemmas.List.{length-map}
use Rattle.rand_pcg.specs.Lcg.{started, increment_of, advance}
use Rattle.rand_pcg.specs.Pcg.{multiplier_64}
use Rattle.vlink.specs.declared.time.TheConstants.{LATEST_NS}
use Rattle.vlink.specs.declared.message.Message.{Message}
use Rattle.row_types.specs.declared.rows.Stream.{Stream}
use Rattle.network.specs.Words.{IsStreamInLimits}
use Rattle.traffic.specs.declared.stream.OfferedStream.{OfferedStream}
use Rattle.traffic.specs.Counting.{IsSumOf, come_count}
use Rattle.traffic.specs.Offers.{come_until, drawn_at, drawn_before, due_count, due_of, generator_at, late_by, late_of, moment_of, offer_by, offer_of, offers_until}
use Rattle.traffic.proofs.BurstLemmas.{burst_more, late_given}
use Rattle.traffic.proofs.DrawingLemmas.{due_count-due}

-- the generator that has jumped over k words
pub generator_at-jumped : (seed number k : ℕ) → advance 64 multiplier_64 k (started 64 multiplier_64 seed (increment_of 64 number)) ≡ generator_at seed number k
unfolding generator_at
generator_at-jumped seed number k = refl

-- ---- bursts

-- with one more it is one more, if that one comes
pub count_more : (seed last : ℕ) (s : OfferedStream) (k before drawn late : ℕ) → last ≤ LATEST_NS → IsSumOf s.stream.timing before (drawn_before seed s k) → drawn ≡ drawn_at seed s k → late ≡ late_by s.stream.timing before drawn
    → come_count seed last s (k + 1) ≡ come_count seed last s k + cond (nat_le (due_of s.stream k + late) last) 1 0
count_more seed last s k before drawn late within sum is given =
    let on : k + 1 ≡ suc k = omega arith in
    elim (late_given seed last s k before drawn late within sum is given) [
      | inl same ↦ ap (come_count seed last s) on ∙ ap (λ l. come_count seed last s k + cond (nat_le (due_of s.stream k + l) last) 1 0) (sym same)
      | inr beyond ↦ (
          let none : nat_le (due_of s.stream k + late) last ≡ false = grind (arith, nat_tests) in
          let neither : nat_le (due_of s.stream k + late_of seed s k) last ≡ false = grind (arith, nat_tests) in
          ap (come_count seed last s) on ∙ ap (λ b. come_count seed last s k + cond b 1 0) (neither ∙ sym none))
    ]

pub one-at-most : (b : Bool) → cond b 1 0 ≤ 1
one-at-most true = omega arith
one-at-most false = omega arith

-- all of the first n, if each comes
pub count_sure : (seed last : ℕ) (s : OfferedStream) (n : ℕ) → ((k : ℕ) → k < n → moment_of seed s k ≤ last) → come_count seed last s n ≡ n
count_sure seed last s zero sure = refl
count_sure seed last s (suc n) sure =
    let next : n + 1 ≡ suc n = omega arith in
    let before : come_count seed last s n ≡ n = count_sure seed last s n (λ k lt. sure k (omega arith)) in
    let comes : nat_le (moment_of seed s n) last ≡ true = le-leb _ _ (sure n (omega arith)) in
    ap (λ b. come_count seed last s n + cond b 1 0) comes ∙ ap (λ c. c + 1) before ∙ next

-- at most as many are due as the least period lets
pub due_count-few : (last : ℕ) (stream : Stream) → IsStreamInLimits stream → 1000 * due_count last stream ≤ last + 1000
due_count-few last stream limits = go (due_count last stream) refl
  where
    go : (n : ℕ) → due_count last stream ≡ n → 1000 * n ≤ last + 1000
    go zero is = omega arith
    go (suc k) is =
        let due : due_of stream k ≤ last = (due_count-due last stream k limits).0 (omega arith) in
        let on : k * 1000 ≤ k * stream.period_ns = mul-le-mul_left k limits.least_period in
        omega arith

-- ---- their frames

length-range : (n a : ℕ) → length (range_with_len a n) ≡ n
length-range zero a = refl
length-range (suc n) a = ap suc (length-range n (a + 1))

own-length : (b : Bool) (f : ℕ → Message) (a n : ℕ) → length (cond b (map f (range_with_len a n)) []) ≡ cond b 1 0 * n
own-length true f a n = let all : length (map f (range_with_len a n)) ≡ n = length-map (range_with_len a n) f ∙ length-range n a in omega arith
own-length false f a n = omega arith

length-bursts : (seed last : ℕ) (s : OfferedStream) (n : ℕ) → length (come_until last (map (offer_of seed s) (range_with_len 0 (n * s.stream.frames)))) ≡ come_count seed last s n * s.stream.frames
length-bursts seed last s zero = let none : zero * s.stream.frames ≡ 0 = omega arith in rw none refl
length-bursts seed last s (suc n) =
    let frames = s.stream.frames in
    let late = late_of seed s n in
    let comes = nat_le (due_of s.stream n + late) last in
    let own : List Message = cond comes (map (λ i. offer_by s i late) (range_with_len (n * frames) frames)) [] in
    let so_far : List Message = come_until last (map (offer_of seed s) (range_with_len 0 (n * frames))) in
    let whole : so_far ++ own ≡ come_until last (map (offer_of seed s) (range_with_len 0 ((n + 1) * frames))) = burst_more seed last s n late [] so_far (so_far ++ own) refl refl refl in
    let on : suc n * frames ≡ (n + 1) * frames = omega arith in
    let before : length so_far ≡ come_count seed last s n * frames = length-bursts seed last s n in
    let more : length own ≡ cond comes 1 0 * frames = own-length comes (λ i. offer_by s i late) (n * frames) frames in
    let count : length (so_far ++ own) ≡ length so_far + length own = length-append so_far own in
    let sum : come_count seed last s n * frames + cond comes 1 0 * frames ≡ (come_count seed last s n + cond comes 1 0) * frames = omega arith in
    ap (λ m. length (come_until last (map (offer_of seed s) (range_with_len 0 m)))) on ∙ ap length (sym whole) ∙ count ∙ ap (λ m. m + length own) before ∙ ap (λ m. come_count seed last s n * frames + m) more ∙ sum

pub length-offers : (seed last : ℕ) (s : OfferedStream) → length (offers_until seed last s) ≡ come_count seed last s (due_count last s.stream) * s.stream.frames
length-offers seed last s = length-bursts seed last s (due_count last s.stream)

-- ---- all streams

-- those of one stream more
pub offers_more : (f : OfferedStream → List Message) (before more : List OfferedStream) (s : OfferedStream) → more ≡ before ++ s ∷ [] → flat_map f more ≡ flat_map f before ++ f s
offers_more f before more s is = ap (flat_map f) is ∙ flat_map-append f before (s ∷ []) ∙ ap (λ (ms : List Message). flat_map f before ++ ms) (append-nil (f s))
