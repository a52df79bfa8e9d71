-- In the run a node keeps its number, and the end of the run.
use Rattle.std.proofs.Common.{◌≡◌, ℕ, ◌<◌, List, [], ◌∷◌, refl, ap, ◌∙◌}
use Rattle.vlink.specs.declared.message.Message.{Message}
use Rattle.reverse.specs.Rules.{rules_of}
use Rattle.reverse.specs.Setting.{Setting, simulation_of}
use Rattle.virtual_time.specs.Law.{IsReached, reached}
use Rattle.nodes.specs.rules.Node.{NodeState, after}
use Rattle.nodes.specs.undoing.Node.{node}
use Rattle.port_turns.specs.Nodes.{IsOfNodes}

number-stays : (s : NodeState) (ms : List Message) → (reached (rules_of node) s ms).sender.number ≡ s.sender.number
number-stays s [] = refl
number-stays s (m ∷ ms) = number-stays (after s m) ms

until-stays : (s : NodeState) (ms : List Message) → (reached (rules_of node) s ms).sender.until ≡ s.sender.until
until-stays s [] = refl
until-stays s (m ∷ ms) = until-stays (after s m) ms

module _ (x : Setting NodeState) (N : IsOfNodes x) (r : ℕ) (inside : r < x.processes) (s : NodeState) (h : IsReached (simulation_of (rules_of node) x) r s) where
  pub number-is : s.sender.number ≡ r
  number-is = ap (λ (z : NodeState). z.sender.number) h.1 ∙ (number-stays (x.opening r) h.0 ∙ N.number r inside)

  pub until-is : s.sender.until ≡ x.until
  until-is = ap (λ (z : NodeState). z.sender.until) h.1 ∙ (until-stays (x.opening r) h.0 ∙ N.until r inside)
