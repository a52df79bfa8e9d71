-- Sums and products that stop at the greatest number.
use Rattle.std.proofs.Common.{Bool, ◌≡◌, ◌≤◌, ◌<◌, ◌⊎◌, inl, inr, ℕ, zero, suc, ◌+◌, ◌-◌, ◌*◌, ◌^◌, sym, ap, ◌∙◌, arith}
use Rattle.std.proofs.lemmas.Nat.{mul-le}
use Rattle.std.proofs.lemmas.Bool.{cases_lt}
use Rattle.port_bounds.specs.Mixtures.{flows_burst, flows_rate, groups_burst, groups_rate, mixed}
use Rattle.network_bounds.specs.declared.mixing.Choice.{Choice}
use Rattle.network_bounds.specs.declared.mixing.Mixture.{Mixture}
use Rattle.network_bounds.specs.Mixing.{PortPlan, flows_at, gaps_in, groups_below, line_burst_at, line_rate_at, mixed_below, share_at, weight_of, with_share}
use Rattle.network_bounds.specs.Numbers.{WHOLE, capped}

-- what was stopped before a sum makes no difference to what is stopped after it
pub cap-add : (a b : ℕ) → capped (capped a + capped b) ≡ capped (a + b)
cap-add a b = omega arith

-- nor before a product
pub cap-mul : (w b : ℕ) → capped (w * capped b) ≡ capped (w * b)
cap-mul zero b = omega arith
cap-mul (suc w) b = go (cases_lt (2 ^ 128 - 1) b)
  where
    go : ((2 ^ 128 - 1) < b) ⊎ (b ≤ (2 ^ 128 - 1)) → capped (suc w * capped b) ≡ capped (suc w * b)
    go (inl above) =
        let one = mul-le 1 (2 ^ 128 - 1) (suc w) (capped b) (omega arith) (omega (arith, above)) in
        let other = mul-le 1 (2 ^ 128 - 1) (suc w) b (omega arith) (omega (arith, above)) in
        omega (arith, one, other)
    go (inr below) = let e : capped b ≡ b = omega (arith, below) in ap (λ n. capped (suc w * n)) e

pub cap-mixed : (w line flows : ℕ) → capped (mixed WHOLE w (capped line) (capped flows)) ≡ capped (mixed WHOLE w line flows)
cap-mixed w line flows =
    sym (cap-add (w * capped line) ((WHOLE - w) * capped flows))
    ∙ ap (λ a. capped (a + capped ((WHOLE - w) * capped flows))) (cap-mul w line)
    ∙ ap (λ b. capped (capped (w * line) + b)) (cap-mul (WHOLE - w) flows)
    ∙ cap-add (w * line) ((WHOLE - w) * flows)

-- a sum more: of a mixture, and of the others
pub mixed-more : (w line flows rest : ℕ) → capped (capped (mixed WHOLE w (capped line) (capped flows)) + capped rest) ≡ capped (mixed WHOLE w line flows + rest)
mixed-more w line flows rest =
    ap (λ a. capped (a + capped rest)) (cap-mixed w line flows) ∙ cap-add (mixed WHOLE w line flows) rest

abbrev mixture_with : ℕ → ℕ → ℕ → Mixture
mixture_with a b m = record { burst = a; rate = b; greatest = m }

made : (a b c d m : ℕ) → a ≡ b → c ≡ d → mixture_with a c m ≡ mixture_with b d m
made a b c d m one two = cc

-- a line more
pub share-more : (port : PortPlan) (choice : Choice) (high : Bool) (j : ℕ) →
    with_share (mixed_below port choice high j) (weight_of choice j (share_at port (gaps_in choice) j high)) (share_at port (gaps_in choice) j high) ≡ mixed_below port choice high (suc j)
share-more port choice high j =
    let weight = weight_of choice j (share_at port (gaps_in choice) j high) in
    made _ _ _ _ _
    (mixed-more weight (line_burst_at port (gaps_in choice) j high) (flows_burst (flows_at port (gaps_in choice) j high)) (groups_burst WHOLE (groups_below port choice high j)))
    (mixed-more weight (line_rate_at port (gaps_in choice) j high) (flows_rate (flows_at port (gaps_in choice) j high)) (groups_rate WHOLE (groups_below port choice high j)))
