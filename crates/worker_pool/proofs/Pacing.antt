-- The pace at which a run went.
use Rattle.std.proofs.Common.{◌≡◌, ◌∙◌, ℕ, Result, Ok, Err, IfOk, IsOkAnd, ap, min}
use Rattle.worker_pool.specs.declared.pace.Pace.{Pace}
use Rattle.worker_pool.specs.declared.speed.Speed.{Speed}
use Rattle.worker_pool.specs.Paces.{pace_in, pace_of, speed_of}

paced : ℕ → ℕ → ℕ → ℕ → Pace
paced workers groups turn window_ns = record { workers = workers; groups = groups; turn = turn; window_ns = window_ns }

-- threads that go by what was asked for, with so many groups
pub as-asked : (speed : Speed) (names groups workers turn window_ns : ℕ) (pace : Pace) → speed ≡ speed_of workers turn window_ns → names ≡ groups →
    workers ≡ min groups pace.workers → turn ≡ pace.turn → window_ns ≡ pace.window_ns → pace_of speed names ≡ pace_in groups pace
unfolding paced
as-asked speed names groups workers turn window_ns pace goes named few turns windows =
    ap (λ (s : Speed). pace_of s names) goes ∙ (ap (λ n. paced workers n turn window_ns) named ∙ (ap (λ n. paced n groups turn window_ns) few
    ∙ (ap (λ n. paced (min groups pace.workers) groups n window_ns) turns ∙ ap (λ n. paced (min groups pace.workers) groups pace.turn n) windows)))

-- what came of a run was handed on, with its pace
pub handed-on : {A B F G : Type 0} (f : A → Pace) (g : B → Pace) (pace : Pace) (one : Result A F) (other : Result B G) →
    IfOk other (λ b. IsOkAnd one (λ a. g b ≡ f a)) → IfOk one (λ a. f a ≡ pace) → IfOk other (λ b. g b ≡ pace)
handed-on f g pace one (Err e) same is = tt
handed-on f g pace (Ok a) (Ok b) same is = same ∙ is
handed-on f g pace (Err e) (Ok b) same is = absurd same
