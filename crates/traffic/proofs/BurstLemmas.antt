-- The offers of a stream, one burst after another.
use Rattle.std.proofs.Common.{◌≡◌, ◌⊎◌, inl, inr, ℕ, suc, ◌+◌, ◌*◌, ◌<◌, ◌≤◌, true, false, cond, List, [], ◌∷◌, ◌++◌, map, min, refl, ap, sym, ◌∙◌, arith, nat_le, append_assoc, append-nil, mul-le-mul_left}
use Rattle.std.proofs.lemmas.Bool.{cases_lt}
use Rattle.std.proofs.lemmas.Bool.Decides.{nat_tests}
use Rattle.std.proofs.lemmas.Nat.{div-mul-add, mod-mul-add}
use Rattle.std.proofs.lemmas.List.{map-append}
use Rattle.std.proofs.lemmas.List.Elements.{filter-append}
use Rattle.std.proofs.lemmas.List.FromFn.{map-range_with_len_more}
use Rattle.std.specs.List.{range_with_len}
use Rattle.vlink.specs.declared.message.Message.{Message}
use Rattle.vlink.specs.declared.message.Body.TheVariants.{Offer}
use Rattle.vlink.specs.declared.time.TheConstants.{LATEST_NS}
use Rattle.row_types.specs.declared.rows.Timing.{Timing}
use Rattle.row_types.specs.declared.rows.Timing.TheVariants.{Periodic, Sporadic}
use Rattle.traffic.specs.declared.stream.OfferedStream.{OfferedStream}
use Rattle.traffic.specs.Counting.{IsSumOf}
use Rattle.traffic.specs.Limits.{IsOfferedInLimits}
use Rattle.traffic.specs.Offers.{come_until, drawn_at, drawn_before, due_of, late_by, late_of, offer_by, offer_of, sender_of, size_of, sub_of}
use Rattle.traffic.proofs.RangeLemmas.{range_joined, map_same, all_or_none}

-- ---- the lesser of two numbers

min-first : (a b : ℕ) → a ≤ b → min a b ≡ a
min-first a b h = omega arith

min-second : (a b : ℕ) → b ≤ a → min a b ≡ b
min-second a b h = omega arith

capped_sum : (a d cap : ℕ) → min (min a cap + d) cap ≡ min (a + d) cap
capped_sum a d cap = omega arith

-- ---- one burst

-- the frames of burst k come at its moment
time-of : (s : OfferedStream) (k late i : ℕ) → i < s.stream.frames → (offer_by s (k * s.stream.frames + i) late).time ≡ due_of s.stream k + late
time-of s k late i lt = ap (λ b. due_of s.stream b + late) (div-mul-add k s.stream.frames i lt)

-- one frame of it more
pub frame_more : (s : OfferedStream) (k i late time sender size sub : ℕ) (before so_far more : List Message) → i < s.stream.frames
    → time ≡ due_of s.stream k + late → sender ≡ sender_of s.number → size ≡ size_of s.stream i → sub ≡ sub_of s k
    → so_far ≡ before ++ map (λ n. offer_by s n late) (range_with_len (k * s.stream.frames) i)
    → more ≡ so_far ++ record { time = time; receiver = s.source; sender = sender; number = k * s.stream.frames + i; body = Offer s.vl size sub } ∷ []
    → more ≡ before ++ map (λ n. offer_by s n late) (range_with_len (k * s.stream.frames) (i + 1))
frame_more s k i late time sender size sub before so_far more lt time_is sender_is size_is sub_is had pushed =
    let f : ℕ → Message = λ n. offer_by s n late in
    let same : ◌≡◌ {A = Message} (record { time = time; receiver = s.source; sender = sender; number = k * s.stream.frames + i; body = Offer s.vl size sub }) (f (k * s.stream.frames + i)) =
    rw (div-mul-add k s.stream.frames i lt, mod-mul-add k s.stream.frames i lt, time_is, sender_is, size_is, sub_is) refl in
    let told : List Message = record { time = time; receiver = s.source; sender = sender; number = k * s.stream.frames + i; body = Offer s.vl size sub } ∷ [] in
    let earlier : List Message = map f (range_with_len (k * s.stream.frames) i) in
    pushed ∙ ap (λ l. l ++ told) had ∙ append_assoc before earlier told
    ∙ ap (λ l. before ++ l) (ap (λ m. earlier ++ m ∷ []) same ∙ sym (map-range_with_len_more f (k * s.stream.frames) i (k * s.stream.frames + i) refl))

-- with its delay they are the frames of the stream
frames-of : (seed : ℕ) (s : OfferedStream) (k late : ℕ) → late ≡ late_of seed s k
    → map (λ n. offer_by s n late) (range_with_len (k * s.stream.frames) s.stream.frames) ≡ map (offer_of seed s) (range_with_len (k * s.stream.frames) s.stream.frames)
frames-of seed s k late is =
    map_same (λ n. offer_by s n late) (offer_of seed s) s.stream.frames (k * s.stream.frames)
    (λ i lt. ap (λ l. offer_by s (k * s.stream.frames + i) l) (is ∙ ap (late_of seed s) (sym (div-mul-add k s.stream.frames i lt))))

-- those that come until then: all of them, or none
burst_until : (seed last : ℕ) (s : OfferedStream) (k late : ℕ) → late ≡ late_of seed s k
    → come_until last (map (offer_of seed s) (range_with_len (k * s.stream.frames) s.stream.frames))
    ≡ cond (nat_le (due_of s.stream k + late) last) (map (λ n. offer_by s n late) (range_with_len (k * s.stream.frames) s.stream.frames)) []
burst_until seed last s k late is =
    let all = all_or_none last (due_of s.stream k + late) (λ n. offer_by s n late) s.stream.frames (k * s.stream.frames) (λ i lt. time-of s k late i lt) in
    ap (come_until last) (sym (frames-of seed s k late is)) ∙ all

-- the offers as far as burst k, with this one behind them
pub burst_more : (seed last : ℕ) (s : OfferedStream) (k late : ℕ) (before so_far more : List Message) → late ≡ late_of seed s k
    → so_far ≡ before ++ come_until last (map (offer_of seed s) (range_with_len 0 (k * s.stream.frames)))
    → more ≡ so_far ++ cond (nat_le (due_of s.stream k + late) last) (map (λ n. offer_by s n late) (range_with_len (k * s.stream.frames) s.stream.frames)) []
    → more ≡ before ++ come_until last (map (offer_of seed s) (range_with_len 0 ((k + 1) * s.stream.frames)))
burst_more seed last s k late before so_far more is had pushed =
    let f = offer_of seed s in
    let on : k * s.stream.frames + s.stream.frames ≡ (k + 1) * s.stream.frames = omega arith in
    let from : 0 + k * s.stream.frames ≡ k * s.stream.frames = omega arith in
    let joined : range_with_len 0 ((k + 1) * s.stream.frames) ≡ range_with_len 0 (k * s.stream.frames) ++ range_with_len (k * s.stream.frames) s.stream.frames =
    range_joined (k * s.stream.frames) 0 s.stream.frames ((k + 1) * s.stream.frames) on ∙ ap (λ a. range_with_len 0 (k * s.stream.frames) ++ range_with_len a s.stream.frames) from in
    let whole : come_until last (map f (range_with_len 0 ((k + 1) * s.stream.frames)))
    ≡ come_until last (map f (range_with_len 0 (k * s.stream.frames))) ++ come_until last (map f (range_with_len (k * s.stream.frames) s.stream.frames)) =
    ap (λ ns. come_until last (map f ns)) joined
    ∙ ap (come_until last) (map-append f (range_with_len 0 (k * s.stream.frames)) (range_with_len (k * s.stream.frames) s.stream.frames))
    ∙ filter-append (λ (m : Message). nat_le m.time last) (map f (range_with_len 0 (k * s.stream.frames))) (map f (range_with_len (k * s.stream.frames) s.stream.frames)) in
    let earlier : List Message = come_until last (map f (range_with_len 0 (k * s.stream.frames))) in
    let own : List Message = cond (nat_le (due_of s.stream k + late) last) (map (λ n. offer_by s n late) (range_with_len (k * s.stream.frames) s.stream.frames)) [] in
    pushed ∙ ap (λ l. l ++ own) had ∙ append_assoc before earlier own ∙ ap (λ l. before ++ l) (ap (λ l. earlier ++ l) (sym (burst_until seed last s k late is)) ∙ sym whole)

-- ---- delays that are added up no further than any run goes

-- the delay that is reckoned is that of the burst; or both are beyond the end
pub late_given : (seed last : ℕ) (s : OfferedStream) (k before drawn late : ℕ) → last ≤ LATEST_NS → IsSumOf s.stream.timing before (drawn_before seed s k) → drawn ≡ drawn_at seed s k → late ≡ late_by s.stream.timing before drawn
    → (late ≡ late_of seed s k) ⊎ ((last < due_of s.stream k + late) × (last < due_of s.stream k + late_of seed s k))
late_given seed last s k before drawn late within sum is given = go s.stream.timing sum given refl
  where
    go : (t : Timing) → IsSumOf t before (drawn_before seed s k) → late ≡ late_by t before drawn → t ≡ s.stream.timing → (late ≡ late_of seed s k) ⊎ ((last < due_of s.stream k + late) × (last < due_of s.stream k + late_of seed s k))
    go Periodic sum given same = inl (given ∙ is ∙ ap (λ t. late_by t (drawn_before seed s k) (drawn_at seed s k)) same)
    go Sporadic sum given same =
        let true_late : drawn_before seed s k + drawn_at seed s k ≡ late_of seed s k = ap (λ t. late_by t (drawn_before seed s k) (drawn_at seed s k)) same in
        elim (cases_lt LATEST_NS (drawn_before seed s k)) [
          | inl beyond ↦ inr (let least : before ≡ LATEST_NS + 1 = sum ∙ min-second (drawn_before seed s k) (LATEST_NS + 1) (omega arith) in (omega arith, omega arith))
          | inr few ↦ inl (let exact : before ≡ drawn_before seed s k = sum ∙ min-first (drawn_before seed s k) (LATEST_NS + 1) (omega arith) in omega arith)
        ]

-- so burst k has been appended, if it comes until then
pub burst_given : (seed last : ℕ) (s : OfferedStream) (k before drawn late : ℕ) (old so_far more : List Message) → last ≤ LATEST_NS
    → IsSumOf s.stream.timing before (drawn_before seed s k) → drawn ≡ drawn_at seed s k → late ≡ late_by s.stream.timing before drawn
    → so_far ≡ old ++ come_until last (map (offer_of seed s) (range_with_len 0 (k * s.stream.frames)))
    → more ≡ so_far ++ cond (nat_le (due_of s.stream k + late) last) (map (λ n. offer_by s n late) (range_with_len (k * s.stream.frames) s.stream.frames)) []
    → more ≡ old ++ come_until last (map (offer_of seed s) (range_with_len 0 ((k + 1) * s.stream.frames)))
burst_given seed last s k before drawn late old so_far more within sum is given had pushed = elim (late_given seed last s k before drawn late within sum is given) [
  | inl same ↦ burst_more seed last s k late old so_far more same had pushed
  | inr beyond ↦ (
      let none : nat_le (due_of s.stream k + late) last ≡ false = grind (arith, nat_tests) in
      let neither : nat_le (due_of s.stream k + late_of seed s k) last ≡ false = grind (arith, nat_tests) in
      let kept : more ≡ so_far ++ [] = rw none at pushed in
      burst_more seed last s k (late_of seed s k) old so_far more refl had (rw neither kept))
]

-- at first there is none
pub sum-none : (t : Timing) → IsSumOf t 0 0
sum-none Periodic = tt
sum-none Sporadic = refl

-- the delays so far, and one more
pub sum_more : (seed : ℕ) (s : OfferedStream) (k before drawn more : ℕ) → IsSumOf s.stream.timing before (drawn_before seed s k) → drawn ≡ drawn_at seed s k → more ≡ min (before + drawn) (LATEST_NS + 1)
    → IsSumOf s.stream.timing more (drawn_before seed s (k + 1))
sum_more seed s k before drawn more sum is capped = go s.stream.timing sum
  where
    go : (t : Timing) → IsSumOf t before (drawn_before seed s k) → IsSumOf t more (drawn_before seed s (k + 1))
    go Periodic sum = tt
    go Sporadic sum =
        let on : k + 1 ≡ suc k = omega arith in
        capped ∙ ap (λ n. min n (LATEST_NS + 1)) (ap (λ b. b + drawn) sum)
        ∙ capped_sum (drawn_before seed s k) drawn (LATEST_NS + 1) ∙ ap (λ d. min (drawn_before seed s k + d) (LATEST_NS + 1)) is
        ∙ ap (λ n. min (drawn_before seed s n) (LATEST_NS + 1)) (sym on)

-- the numbers of frames that are due are few
pub few-frames : (s : OfferedStream) → IsOfferedInLimits s → (k : ℕ) → due_of s.stream k ≤ LATEST_NS → k * s.stream.frames ≤ LATEST_NS
few-frames s limits k due =
    let most = limits.stream.greatest_frames in
    let least = limits.stream.least_period in
    let fewer : k * s.stream.frames ≤ k * s.stream.period_ns = mul-le-mul_left k (omega arith) in
    omega arith

-- a burst that comes until then has been appended, and one that does not has not
pub burst_came : (last : ℕ) (s : OfferedStream) (k late : ℕ) (so_far more : List Message) → due_of s.stream k + late ≤ last
    → more ≡ so_far ++ map (λ n. offer_by s n late) (range_with_len (k * s.stream.frames) s.stream.frames)
    → more ≡ so_far ++ cond (nat_le (due_of s.stream k + late) last) (map (λ n. offer_by s n late) (range_with_len (k * s.stream.frames) s.stream.frames)) []
burst_came last s k late so_far more comes pushed = let yes : nat_le (due_of s.stream k + late) last ≡ true = grind (arith, nat_tests) in rw yes pushed

pub burst_late : (last : ℕ) (s : OfferedStream) (k late : ℕ) (so_far more : List Message) → last < due_of s.stream k + late → more ≡ so_far
    → more ≡ so_far ++ cond (nat_le (due_of s.stream k + late) last) (map (λ n. offer_by s n late) (range_with_len (k * s.stream.frames) s.stream.frames)) []
burst_late last s k late so_far more beyond same = let no : nat_le (due_of s.stream k + late) last ≡ false = grind (arith, nat_tests) in rw no (same ∙ sym (append-nil so_far))
