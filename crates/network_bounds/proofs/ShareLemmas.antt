-- What comes to a port by a line, one virtual link after another.
use Rattle.std.proofs.Common.{◌≡◌, ℕ, ◌+◌, Bool, true, false, if◌then◌else◌, max, List, [], ◌∷◌, sym, ap, ◌∙◌, arith}
use Rattle.port_bounds.specs.Mixtures.{flows_burst, flows_rate}
use Rattle.network_bounds.specs.declared.passing.Passing.{Passing}
use Rattle.network_bounds.specs.declared.share.Share.{Share}
use Rattle.network_bounds.specs.Numbers.{capped}
use Rattle.network_bounds.specs.Curves.{cost_of, flow_of}
use Rattle.network_bounds.specs.Passing.{comes}
use Rattle.network_bounds.specs.Mixing.{PortPlan, flows_at, flows_by, flows_share, greatest_at, greatest_by, with_link}

-- a share, and what comes besides, are together all that comes
pub record AreTogether (port : PortPlan) (by_gap : Bool) (j : ℕ) (high : Bool) (share : Share) (rest : List Passing) : Type 0 where
  pub no_bound : share.is_bounding ≡ false
  pub no_burst : share.line_burst ≡ 0
  pub no_rate : share.line_rate ≡ 0
  pub held_burst : share.burst ≡ capped share.burst
  pub held_rate : share.rate ≡ capped share.rate
  pub burst : capped (share.burst + flows_burst (flows_by (comes port.is_end j high) (flow_of port.is_end by_gap port.byte_ns) rest)) ≡ capped (flows_burst (flows_at port by_gap j high))
  pub rate : capped (share.rate + flows_rate (flows_by (comes port.is_end j high) (flow_of port.is_end by_gap port.byte_ns) rest)) ≡ capped (flows_rate (flows_at port by_gap j high))
  pub greatest : max share.greatest (greatest_by (comes port.is_end j high) (cost_of port.byte_ns) rest) ≡ greatest_at port j high

cap-three : (a b f : ℕ) → capped (capped (a + b) + f) ≡ capped (a + (b + f))
cap-three a b f = omega arith

cap-twice : (a : ℕ) → capped a ≡ capped (capped a)
cap-twice a = omega arith

max-three : (a b f : ℕ) → max (max a b) f ≡ max a (max b f)
max-three a b f = omega arith

-- one that comes
pub with-one : (port : PortPlan) (by_gap : Bool) (j : ℕ) (high : Bool) (share : Share) (p : Passing) (rest : List Passing) → comes port.is_end j high p ≡ true →
    AreTogether port by_gap j high share (p ∷ rest) → AreTogether port by_gap j high (with_link share port.is_end by_gap port.byte_ns p) rest
with-one port by_gap j high share p rest is all =
    let test = comes port.is_end j high in
    let flow = flow_of port.is_end by_gap port.byte_ns in
    let cost = cost_of port.byte_ns in
    let flows : flows_by test flow (p ∷ rest) ≡ flow p ∷ flows_by test flow rest =
    ap (λ (b : Bool). if b then flow p ∷ flows_by test flow rest else flows_by test flow rest) is in
    let costs : greatest_by test cost (p ∷ rest) ≡ max (cost p) (greatest_by test cost rest) =
    ap (λ (b : Bool). if b then max (cost p) (greatest_by test cost rest) else greatest_by test cost rest) is in
    record {
      no_bound = all.no_bound;
      no_burst = all.no_burst;
      no_rate = all.no_rate;
      held_burst = cap-twice (share.burst + (flow p).burst);
      held_rate = cap-twice (share.rate + (flow p).rate);
      burst = cap-three share.burst (flow p).burst (flows_burst (flows_by test flow rest)) ∙ ap (λ fs. capped (share.burst + flows_burst fs)) (sym flows) ∙ all.burst;
      rate = cap-three share.rate (flow p).rate (flows_rate (flows_by test flow rest)) ∙ ap (λ fs. capped (share.rate + flows_rate fs)) (sym flows) ∙ all.rate;
      greatest = max-three share.greatest (cost p) (greatest_by test cost rest) ∙ ap (λ n. max share.greatest n) (sym costs) ∙ all.greatest;
    }

-- one that does not
pub without-one : (port : PortPlan) (by_gap : Bool) (j : ℕ) (high : Bool) (share : Share) (p : Passing) (rest : List Passing) → comes port.is_end j high p ≡ false →
    AreTogether port by_gap j high share (p ∷ rest) → AreTogether port by_gap j high share rest
without-one port by_gap j high share p rest is all =
    let test = comes port.is_end j high in
    let flow = flow_of port.is_end by_gap port.byte_ns in
    let cost = cost_of port.byte_ns in
    let flows : flows_by test flow (p ∷ rest) ≡ flows_by test flow rest =
    ap (λ (b : Bool). if b then flow p ∷ flows_by test flow rest else flows_by test flow rest) is in
    let costs : greatest_by test cost (p ∷ rest) ≡ greatest_by test cost rest =
    ap (λ (b : Bool). if b then max (cost p) (greatest_by test cost rest) else greatest_by test cost rest) is in
    record {
      no_bound = all.no_bound;
      no_burst = all.no_burst;
      no_rate = all.no_rate;
      held_burst = all.held_burst;
      held_rate = all.held_rate;
      burst = ap (λ fs. capped (share.burst + flows_burst fs)) (sym flows) ∙ all.burst;
      rate = ap (λ fs. capped (share.rate + flows_rate fs)) (sym flows) ∙ all.rate;
      greatest = ap (λ n. max share.greatest n) (sym costs) ∙ all.greatest;
    }

abbrev share_with : Bool → ℕ → ℕ → ℕ → ℕ → ℕ → Share
share_with i a b c d e = record { is_bounding = i; line_burst = a; line_rate = b; burst = c; rate = d; greatest = e }

made : (i j : Bool) (a b c d e f g h m n : ℕ) → i ≡ j → a ≡ b → c ≡ d → e ≡ f → g ≡ h → m ≡ n → share_with i a c e g m ≡ share_with j b d f h n
made i j a b c d e f g h m n zero one two three four five = cc

-- once none is left
pub all-there : (port : PortPlan) (by_gap : Bool) (j : ℕ) (high : Bool) (share : Share) → AreTogether port by_gap j high share [] → share ≡ flows_share port by_gap j high
all-there port by_gap j high share all =
    let burst : share.burst ≡ capped (flows_burst (flows_at port by_gap j high)) = omega (arith, all.held_burst, all.burst) in
    let rate : share.rate ≡ capped (flows_rate (flows_at port by_gap j high)) = omega (arith, all.held_rate, all.rate) in
    let greatest : share.greatest ≡ greatest_at port j high = omega (arith, all.greatest) in
    made _ _ _ _ _ _ _ _ _ _ _ _ all.no_bound all.no_burst all.no_rate burst rate greatest
