-- The ages of a frame as it comes out of a line, from those before the line.
use Rattle.std.proofs.Common.{◌≡◌, ℕ, zero, suc, ◌+◌, ◌-◌, ◌≤◌, Bool, true, false, List, Some, Ok, Err, Result, ap, sym, ◌∙◌, slice_get, if◌then◌else◌, arith}
use Rattle.std.specs.Option.{option_map_or}
use Rattle.network.specs.declared.wiring.LinePlan.{LinePlan}
use Rattle.network.specs.Words.{Plan, is_end_system, lines_of}
use Rattle.row_types.specs.declared.rows.VirtualLink.{VirtualLink}
use Rattle.network_bounds.specs.declared.ages.Span.{Span}
use Rattle.network_bounds.specs.declared.reason.Reason.{Reason}
use Rattle.network_bounds.specs.declared.reason.Reason.TheVariants.{Way}
use Rattle.network_bounds.specs.declared.delays.PortBound.{PortBound}
use Rattle.network_bounds.specs.Ages.{age_after, age_over, latency_of, plus, sent_over}
use Rattle.network_bounds.specs.Least.{least_after, least_at, sent_at_once, with_least}
use Rattle.network_bounds.specs.Mixing.{line_into}
use Rattle.network_bounds.specs.Numbers.{capped}
use Rattle.network_bounds.specs.Passing.{input_of}

-- both ages, as they are made of those before
both : (result : Result Span Reason) (a b : Result ℕ Reason) (l m : ℕ) → result ≡ with_least b m → a ≡ b → l ≡ m → result ≡ with_least a l
both result a b l m is most least = is ∙ ap (λ r. with_least r m) (sym most) ∙ ap (with_least a) (sym least)

-- where there are both, they are these
pub both-are : (a : Result ℕ Reason) (l : ℕ) (span : Span) → Ok span ≡ with_least a l → (a ≡ Ok span.most) × (l ≡ span.least)
both-are (Ok most) l span is = let same : span ≡ record { most = most; least = l } = cc in (ap (λ (s : Span). Ok s.most) (sym same), ap (λ (s : Span). s.least) (sym same))
both-are (Err why) l span is = absurd (let z : ⊥ = cc in z)

-- and where there are none, the first gives the reason
pub neither : (a : Result ℕ Reason) (l : ℕ) (why : Reason) → Err why ≡ with_least a l → a ≡ Err why
neither (Ok most) l why is = absurd (let z : ⊥ = cc in z)
neither (Err reason) l why is = let same : why ≡ reason = cc in ap Err (sym same)

module _ (plan : Plan) (bounds : List PortBound) (link : VirtualLink) (bytes : ℕ) where
  -- over one line more
  over_line : (lines k : ℕ) (line : LinePlan) (bound : PortBound) → 1 ≤ lines → slice_get (lines_of plan) k ≡ Some line → slice_get bounds k ≡ Some bound
      → age_after plan bounds link bytes lines k ≡ age_over plan link bytes (age_after plan bounds link bytes (lines - 1)) line bound
  over_line zero k line bound some at by = absurd (omega (arith, some))
  over_line (suc n) k line bound some at by =
      let less : n ≡ suc n - 1 = omega arith in
      ap (λ o. option_map_or (λ line. option_map_or (age_over plan link bytes (age_after plan bounds link bytes n) line) (slice_get bounds k) (Err Way)) o (Err Way)) at
      ∙ ap (λ o. option_map_or (age_over plan link bytes (age_after plan bounds link bytes n) line) o (Err Way)) by
      ∙ ap (λ m. age_over plan link bytes (age_after plan bounds link bytes m) line bound) less

  least_over : (lines k : ℕ) (line : LinePlan) → 1 ≤ lines → slice_get (lines_of plan) k ≡ Some line
      → least_after plan link bytes lines k ≡ sent_at_once line bytes (least_at plan link line.from (least_after plan link bytes (lines - 1)))
  least_over zero k line some at = absurd (omega (arith, some))
  least_over (suc n) k line some at =
      let less : n ≡ suc n - 1 = omega arith in
      ap (λ o. option_map_or (λ line. sent_at_once line bytes (least_at plan link line.from (least_after plan link bytes n))) o 0) at
      ∙ ap (λ m. sent_at_once line bytes (least_at plan link line.from (least_after plan link bytes m))) less

  -- from its end system
  pub from_end : (lines k : ℕ) (line : LinePlan) (bound : PortBound) (result : Result Span Reason) → 1 ≤ lines → slice_get (lines_of plan) k ≡ Some line → slice_get bounds k ≡ Some bound
      → is_end_system plan.nodes line.from ≡ true → result ≡ with_least (sent_over true line bound link bytes (Ok 0)) (sent_at_once line bytes 0)
      → result ≡ with_least (age_after plan bounds link bytes lines k) (least_after plan link bytes lines k)
  from_end lines k line bound result some at by end is =
      both result (age_after plan bounds link bytes lines k) _ (least_after plan link bytes lines k) _ is
      (over_line lines k line bound some at by
      ∙ ap (λ (b : Bool). sent_over b line bound link bytes (if b then (Ok 0) else (option_map_or (λ j. plus (age_after plan bounds link bytes (lines - 1) j) (latency_of plan line.from)) (line_into plan line.from (input_of plan line.from link.id.0)) (Err Way)))) end)
      (least_over lines k line some at
      ∙ ap (λ (b : Bool). sent_at_once line bytes (if b then 0 else (option_map_or (λ j. capped (least_after plan link bytes (lines - 1) j + latency_of plan line.from)) (line_into plan line.from (input_of plan line.from link.id.0)) 0))) end)

  -- through a switch, to which it came by this line
  pub from_switch : (lines k before : ℕ) (line : LinePlan) (bound : PortBound) (result : Result Span Reason) → 1 ≤ lines → slice_get (lines_of plan) k ≡ Some line → slice_get bounds k ≡ Some bound
      → is_end_system plan.nodes line.from ≡ false → line_into plan line.from (input_of plan line.from link.id.0) ≡ Some before
      → result ≡ with_least (sent_over false line bound link bytes (plus (age_after plan bounds link bytes (lines - 1) before) (latency_of plan line.from)))
      (sent_at_once line bytes (capped (least_after plan link bytes (lines - 1) before + latency_of plan line.from)))
      → result ≡ with_least (age_after plan bounds link bytes lines k) (least_after plan link bytes lines k)
  from_switch lines k before line bound result some at by switch into is =
      both result (age_after plan bounds link bytes lines k) _ (least_after plan link bytes lines k) _ is
      (over_line lines k line bound some at by
      ∙ ap (λ (b : Bool). sent_over b line bound link bytes (if b then (Ok 0) else (option_map_or (λ j. plus (age_after plan bounds link bytes (lines - 1) j) (latency_of plan line.from)) (line_into plan line.from (input_of plan line.from link.id.0)) (Err Way)))) switch
      ∙ ap (λ o. sent_over false line bound link bytes (option_map_or (λ j. plus (age_after plan bounds link bytes (lines - 1) j) (latency_of plan line.from)) o (Err Way))) into)
      (least_over lines k line some at
      ∙ ap (λ (b : Bool). sent_at_once line bytes (if b then 0 else (option_map_or (λ j. capped (least_after plan link bytes (lines - 1) j + latency_of plan line.from)) (line_into plan line.from (input_of plan line.from link.id.0)) 0))) switch
      ∙ ap (λ o. sent_at_once line bytes (option_map_or (λ j. capped (least_after plan link bytes (lines - 1) j + latency_of plan line.from)) o 0)) into)
