-- What a process sends of a kind to one process comes in that order, where no other process sends such messages and its moments do not fall.
use Rattle.std.proofs.Common.{◌≡◌, ℕ, ◌<◌, Bool, false, List, [], ◌∷◌, filter, map, All, sym, ap, ◌∙◌, subst}
use Rattle.std.proofs.lemmas.List.{map-append}
use Rattle.std.proofs.lemmas.List.Elements.{All-append, All-nil}
use Rattle.vlink.specs.declared.message.Message.{Message}
use Rattle.vlink.specs.declared.frame.VlId.{VlId}
use Rattle.vlink.specs.declared.message.Body.{Body}
use Rattle.vlink.specs.declared.message.Body.TheVariants.{Offer}
use Rattle.vlink.specs.declared.note.Note.{Note}
use Rattle.reverse.specs.Rules.{rules_of}
use Rattle.reverse.specs.Setting.{Setting, simulation_of}
use Rattle.virtual_time.specs.Law as law
use Rattle.virtual_time.specs.Law.{IsNumbered, IsReached, Laws, Simulation, events}
use Rattle.virtual_time.proofs.Numbers.{numbered-append}
use Rattle.timers.specs.Channel.{IsChannel}
use Rattle.timers.proofs.ChannelLemmas.{are_received}
use Rattle.port_bounds.specs.Sublists.{IsSublist}
use Rattle.port_bounds.proofs.SublistLemmas.{sub-front}
use Rattle.nodes.specs.declared.node.NodeRecord.{NodeRecord}
use Rattle.nodes.specs.laws.Node.{sends-numbered, sends-own}
use Rattle.nodes.specs.rules.Node.{NodeState, after, handled, sends}
use Rattle.nodes.specs.undoing.Node.{node}
use Rattle.port_turns.specs.Nodes.{IsOfNodes}
use Rattle.port_turns.proofs.SentKinds.{AreFrom, as_wish, is_to, mine, moments-times, moments_of, offers-none, receiver-is, sent-none, wished}
use Rattle.port_turns.proofs.Rising.{kind-rises, rises-ascend}
use Rattle.port_turns.proofs.Senders.{number-is}

sent-numbered : (s : NodeState) (ms : List Message) → IsNumbered (λ (m : Message). m.number) s.sender.counter (law.sent (rules_of node) s ms)
sent-numbered s [] = tt
sent-numbered s (m ∷ ms) = numbered-append (λ (x : Message). x.number) s.sender.counter (sends s m) (law.sent (rules_of node) (after s m) ms) (sends-numbered s m) (sent-numbered (after s m) ms)

all-own : (s : NodeState) (ms : List Message) → All (λ m. m.sender ≡ s.sender.number) (law.sent (rules_of node) s ms)
all-own s [] = All-nil (λ (m : Message). m.sender ≡ s.sender.number)
all-own s (m ∷ ms) = All-append (λ (m : Message). m.sender ≡ s.sender.number) (sends s m) (law.sent (rules_of node) (after s m) ms) (sends-own s m) (all-own (after s m) ms)

module _ (x : Setting NodeState) (L : Laws (simulation_of (rules_of node) x)) (N : IsOfNodes x) (p to : ℕ) (inside : p < x.processes) (kind : Body → Bool) where
  abbrev f : Simulation Message NodeState NodeRecord Note
  f = simulation_of (rules_of node) x

  -- no other process sends such messages, and none is offered
  pub record IsAlone : Type 0 where
    pub others : (r : ℕ) → r < x.processes → (r ≡ p → ⊥) → (s : NodeState) → IsReached f r s → (m : Message) → filter (mine kind to) (handled r m s.equipment).reply.wishes ≡ []
    pub not_offered : (vl : VlId) (size sub : ℕ) → kind (Offer vl size sub) ≡ false

  -- the messages of the kind are a channel, where their moments do not fall
  pub channel : IsAlone → (t : ℕ) → ((n : ℕ) → AreFrom t (moments_of (wished kind to (x.opening p) (events f n p)))) → IsChannel f p to (is_to kind to)
  channel A t from = record {
    to = receiver-is kind to;
    by_none = λ r i d s h m. sent-none kind to s.sender _ (subst (λ k. filter (mine kind to) (handled k m s.equipment).reply.wishes ≡ []) (sym (number-is x N r i s h)) (A.others r i d s h m));
    not_offered = offers-none kind to A.not_offered x.offers N.offered;
    rises = λ n. rises-ascend p to L.order t (x.opening p).sender.counter _ (kind-rises p to kind t (x.opening p).sender.counter _ (sent-numbered (x.opening p) (events f n p)) (own n)
        (subst (AreFrom t) (moments-times (filter (is_to kind to) (law.sent (rules_of node) (x.opening p) (events f n p)))) (from n)));
  }
    where
      own : (n : ℕ) → All (λ m. m.sender ≡ p) (law.sent (rules_of node) (x.opening p) (events f n p))
      own n = subst (λ k. All (λ m. m.sender ≡ k) (law.sent (rules_of node) (x.opening p) (events f n p))) (N.number p inside) (all-own (x.opening p) (events f n p))

  -- so what is received is some of what was sent
  pub come : IsAlone → (t : ℕ) → ((n : ℕ) → AreFrom t (moments_of (wished kind to (x.opening p) (events f n p)))) →
      (n : ℕ) → IsSublist (map as_wish (filter (is_to kind to) (events f n to))) (wished kind to (x.opening p) (events f n p))
  come A t from n =
      let got = are_received f L p to (is_to kind to) (channel A t from) n in
      subst (IsSublist (map as_wish (filter (is_to kind to) (events f n to)))) (sym (ap (map as_wish) got.1 ∙ map-append as_wish (filter (is_to kind to) (events f n to)) got.0))
      (sub-front (map as_wish (filter (is_to kind to) (events f n to))) (map as_wish got.0))
