-- The words of a stream, one after another, and how many bursts are due.
use Rattle.std.proofs.Common.{◌≡◌, ℕ, zero, suc, ◌+◌, ◌-◌, ◌<◌, ◌≤◌, inl, inr, refl, ap, ◌∙◌, add-one, arith, ◌↔◌, le-div_iff_mul-le}
use Rattle.std.proofs.lemmas.Bool.{cases_lt}
use Rattle.std.proofs.lemmas.Bool.Decides.{nat_tests}
use Rattle.rand_pcg.specs.Lcg.{Lcg, started, increment_of, next, next_state, state_after}
use Rattle.rand_pcg.specs.Pcg.{multiplier_64, pcg32}
use Rattle.row_types.specs.declared.rows.Stream.{Stream}
use Rattle.network.specs.Words.{IsStreamInLimits}
use Rattle.traffic.specs.Offers.{generator_at, word_of, due_of, due_count}

-- a step after n steps is step n + 1
state_after-next : (w m p n s : ℕ) → next_state w m p (state_after w m p n s) ≡ state_after w m p (suc n) s
unfolding state_after
state_after-next w m p zero s = refl
state_after-next w m p (suc n) s = state_after-next w m p n (next_state w m p s)

-- the generator as it is made
pub generator_at-first : (seed number : ℕ) → generator_at seed number 0 ≡ started 64 multiplier_64 seed (increment_of 64 number)
unfolding generator_at state_after
generator_at-first seed number = refl

-- the generator behind its k-th word
generator_at-next : (seed number k : ℕ) → next 64 multiplier_64 (generator_at seed number k) ≡ generator_at seed number (k + 1)
unfolding generator_at
generator_at-next seed number k =
    let start = started 64 multiplier_64 seed (increment_of 64 number) in
    rw add-one (ap (λ (s : ℕ). record start { state = s }) (state_after-next 64 multiplier_64 start.increment k start.state))

-- the k-th word, and the generator that is left
pub drawn_at : (seed number k word : ℕ) (g h : Lcg) → g ≡ generator_at seed number k → ◌≡◌ {A = ℕ × Lcg} (word, h) (pcg32 g) → (word ≡ word_of seed number k) × (h ≡ generator_at seed number (k + 1))
unfolding word_of
drawn_at seed number k word g h at step =
    let here : (word, h) ≡ pcg32 (generator_at seed number k) = rw at at step in
    (ap (λ (p : ℕ × Lcg). p.0) here, ap (λ (p : ℕ × Lcg). p.1) here ∙ generator_at-next seed number k)

-- the numbers of the bursts that are due until then are those below their count
pub due_count-due : (last : ℕ) (stream : Stream) (k : ℕ) → IsStreamInLimits stream → (k < due_count last stream) ↔ (due_of stream k ≤ last)
due_count-due last stream k limits =
    let some : 0 < stream.period_ns = (let least = limits.least_period in omega arith) in
    let whole = le-div_iff_mul-le {k = stream.period_ns} {x = k} {y = last - stream.offset_ns} some in
    elim (cases_lt last stream.offset_ns) [
      | inl before ↦ (grind (arith, nat_tests), λ due. absurd (omega arith))
      | inr on ↦ (grind (arith, nat_tests), grind (arith, nat_tests))
    ]
