-- Networks lay their processes and offers out as the laws of a simulation ask.
use Rattle.std.proofs.Common.{◌≡◌, ◌∙◌, ℕ, ◌<◌, List, refl, sym, subst}
use Rattle.vlink.specs.declared.message.Message.{Message}
use Rattle.virtual_time.specs.Law.{IsOrder, IsReached}
use Rattle.virtual_time.proofs.Reading.{reached-keeps}
use Rattle.reverse.proofs.Members.{in-all}
use Rattle.reverse.specs.Setting.{AreInStates, IsLaidOut, Opens}
use Rattle.network.specs.Words.{Plan, IsAccepted, process_count}
use Rattle.traffic.specs.Offers.{offers_of}
use Rattle.traffic.specs.Lawful.{IsOfNetwork, HasLawfulOffers}
use Rattle.nodes.specs.Words.{NodeState, IsPlaced, IsWired, sends-near, wiring-stays, opening, simulation_of}
use Rattle.nodes.proofs.OpeningLaws.{opening-placed, opening-wired}
use Rattle.network_actors.specs.Networks.{setting_of}

-- the processes of the network open its simulation, from its offers on
pub opened : (plan : Plan) (made seen : List NodeState) (offered sent : List Message) → seen ≡ made → sent ≡ offered →
    AreInStates (process_count plan) (opening plan) made → offered ≡ offers_of plan → Opens (setting_of plan) seen sent
opened plan made seen offered sent d e nodes offers =
    record {
      actors_open = subst (AreInStates (process_count plan) (opening plan)) (sym d) nodes;
      offered = e ∙ offers;
    }

module _ (plan : Plan) (O : IsOrder (simulation_of plan).rules.order) where
  -- the simulation has the messages, processes, end and offers of the network
  pub of-network : IsOfNetwork plan (simulation_of plan)
  of-network =
      record {
        order = O;
        time = λ m. refl;
        receiver = λ m. refl;
        sender = λ m. refl;
        number = λ m. refl;
        processes = refl;
        until = refl;
        offers = refl;
      }

  module _ (accepted : IsAccepted plan) where
    -- each process sends to processes, in each state that it can be in
    reached-wired : (p : ℕ) → p < process_count plan → (s : NodeState) → IsReached (simulation_of plan) p s → IsWired (process_count plan) s
    reached-wired p i s h =
        subst (IsWired (process_count plan)) (sym h.1)
        (reached-keeps (simulation_of plan).rules O (IsWired (process_count plan)) (wiring-stays (process_count plan)) (opening plan p) h.0 (opening-wired plan accepted p i))

    pub laid-out : HasLawfulOffers (simulation_of plan) →
        IsLaidOut (simulation_of plan).rules (λ s. s.sender.number) (λ s. s.sender.until) IsPlaced (setting_of plan)
    laid-out offers =
        record {
          number_is = λ p i. refl;
          end_is = λ p i. refl;
          placed = opening-placed plan accepted;
          receivers = λ p i s h e m j.
              in-all (simulation_of plan).rules.order O (λ x. x.receiver < process_count plan) m ((simulation_of plan).rules.sends s e)
              (sends-near (process_count plan) s e (reached-wired p i s h)) j;
          offered_once = offers.offered_once;
          offered_from = offers.offered_from;
          offered_to = offers.offered_to;
          offered_in_time = offers.offered_in_time;
        }
