-- For proofs alone: a node as an actor: undoing an event gives back the node, and what it sends is its own, in time and numbered on.
use Rattle.std.proofs.Common.{◌≡◌, ◌+◌, ◌-◌, ◌≤◌, length, All, refl, arith}
use Rattle.vlink.specs.declared.message.Message.{Message}
use Rattle.virtual_time.specs.Law.{IsNumbered}
use Rattle.reverse.specs.Plain.{IsReversible}
use Rattle.nodes.specs.rules.Node.{NodeState, handled, after, sends}
use Rattle.nodes.specs.undoing.Node.{node}
use Rattle.nodes.specs.laws.Sent.{sent-own, sent-timely, sent-numbered}
use Rattle.nodes.specs.laws.Undoing.{handled-undone}

pub node-undoes : IsReversible node
node-undoes s m =
    let sender : s.sender.counter + length (sends s m) - length (sends s m) ≡ s.sender.counter = omega arith in
    let equipment = handled-undone s.sender.number m s.equipment in
    λ i. record { sender = record s.sender { counter = sender i }; equipment = equipment i }

pub number-stays : (s : NodeState) (m : Message) → (after s m).sender.number ≡ s.sender.number
number-stays s m = refl

pub end-stays : (s : NodeState) (m : Message) → (after s m).sender.until ≡ s.sender.until
end-stays s m = refl

pub sends-own : (s : NodeState) (m : Message) → All (λ x. x.sender ≡ s.sender.number) (sends s m)
sends-own s m = sent-own s.sender (handled s.sender.number m s.equipment).reply.wishes

pub sends-timely : (s : NodeState) (m : Message) → All (λ x. x.time ≤ s.sender.until) (sends s m)
sends-timely s m = sent-timely s.sender (handled s.sender.number m s.equipment).reply.wishes

pub sends-numbered : (s : NodeState) (m : Message) → IsNumbered (λ (x : Message). x.number) s.sender.counter (sends s m)
sends-numbered s m = sent-numbered s.sender (handled s.sender.number m s.equipment).reply.wishes

pub counter-grows : (s : NodeState) (m : Message) → (after s m).sender.counter ≡ s.sender.counter + length (sends s m)
counter-grows s m = refl
