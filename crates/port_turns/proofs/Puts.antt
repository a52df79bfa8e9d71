-- Why frames of a virtual link that are put to a port of a switch are paced and metered: they are some of those that its account passed, later by the delay.
use Rattle.std.proofs.Common.{◌≡◌, ℕ, ◌+◌, ◌<◌, Bool, true, false, cond, List, [], ◌∷◌, filter, map, Some, refl, sym, ap, ◌∙◌, subst, arith}
use Rattle.vlink.specs.declared.message.Message.{Message}
use Rattle.policer.specs.declared.account.Arrival.{Arrival}
use Rattle.policer.specs.declared.account.Measure.TheVariants.{Bytes}
use Rattle.policer.specs.Account.{Policing, account, passes}
use Rattle.reverse.specs.Rules.{rules_of}
use Rattle.reverse.specs.Setting.{Setting, simulation_of}
use Rattle.virtual_time.specs.Law.{Laws, events}
use Rattle.port_bounds.specs.Pacing.{IsPaced}
use Rattle.port_bounds.specs.Sublists.{Every}
use Rattle.port_bounds.proofs.SublistLemmas.{sub-trans}
use Rattle.port_bounds.proofs.ArrivalLemmas.{fewer-paced}
use Rattle.element_bounds.specs.Passages.{IsCounting, IsMetered, passages_of, passed_of}
use Rattle.element_bounds.proofs.MeterLemmas.{fewer-metered, passages-metered}
use Rattle.element_bounds.proofs.PassageLemmas.{passages-paced}
use Rattle.nodes.specs.declared.transit.Transit.{Transit}
use Rattle.nodes.specs.rules.Node.{NodeState}
use Rattle.nodes.specs.undoing.Node.{node}
use Rattle.port_turns.specs.Nodes.{IsOfNodes}
use Rattle.port_turns.specs.SwitchPuts.{is_put, transit_of}
use Rattle.port_turns.proofs.Channels.{come}
use Rattle.port_turns.proofs.Judging.{as_put, delay_of}
use Rattle.port_turns.proofs.SentKinds.{as_wish, is_to, sub-map}
use Rattle.port_turns.proofs.Later.{later, later-metered, later-moments, later-paced}
use Rattle.port_turns.proofs.Rising.{events-between}
use Rattle.port_turns.specs.PortRuns.{BringsAtLeast}
use Rattle.port_turns.proofs.Putting.{HavePassed, puts-elsewhere, puts-from, puts-passed}

-- the moments of the frames that pass
passages-are : (a : Policing) (frames : List Arrival) → map (λ (x : Arrival). x.at) (passed_of a frames) ≡ passages_of a frames
passages-are a [] = refl
passages-are a (frame ∷ frames) = go (passes a frame) (passages-are (account.after a frame) frames)
  where
    go : (b : Bool) → map (λ (x : Arrival). x.at) (passed_of (account.after a frame) frames) ≡ passages_of (account.after a frame) frames →
        map (λ (x : Arrival). x.at) (cond b (frame ∷ passed_of (account.after a frame) frames) (passed_of (account.after a frame) frames))
        ≡ cond b (frame.at ∷ passages_of (account.after a frame) frames) (passages_of (account.after a frame) frames)
    go true h = ap (λ z. frame.at ∷ z) h
    go false h = h

module _ (x : Setting NodeState) (L : Laws (simulation_of (rules_of node) x)) (N : IsOfNodes x) (p q v : ℕ) (inside : p < x.processes) (transit : Transit) (goes : transit_of (x.opening p).equipment v ≡ Some transit) (n : ℕ) where
  -- the frames that the messages put
  abbrev pub put_frames : List Arrival
  put_frames = map as_put (map as_wish (filter (is_to (is_put q v) p) (events (simulation_of (rules_of node) x) n p)))

  some-passed : (least : ℕ) → Every (BringsAtLeast v least) (events (simulation_of (rules_of node) x) n p) → HavePassed q v p least 0 x.until (delay_of (x.opening p).equipment) transit.account put_frames
  some-passed least sizes =
      let passed = puts-passed q v p least (x.opening p) transit (events (simulation_of (rules_of node) x) n p) 0 x.until sizes goes (events-between x p L n) in
      record {
        arrivals = passed.arrivals;
        sizes = passed.sizes;
        between = passed.between;
        sub = sub-trans _ _ _ (sub-map as_put _ _ (come x L N p p inside (is_put q v)
            (record { others = λ r i d s h m. puts-elsewhere q v r p d m s.equipment; not_offered = λ vl size sub. refl })
            (0 + delay_of (x.opening p).equipment)
            (λ n. puts-from q v p (x.opening p) transit (events (simulation_of (rules_of node) x) n p) x.until goes (events-between x p L n)) n)) passed.sub;
      }

  pub puts-paced : (least : ℕ) → IsCounting transit.account least → Every (BringsAtLeast v least) (events (simulation_of (rules_of node) x) n p) →
      IsPaced transit.account.bag transit.account.jitter (map (λ (f : Arrival). f.at) put_frames)
  puts-paced least counting sizes =
      let passed = some-passed least sizes in
      let delay = delay_of (x.opening p).equipment in
      let moments = later-moments delay (passed_of transit.account passed.arrivals) ∙ ap (later delay) (passages-are transit.account passed.arrivals) in
      fewer-paced transit.account.bag transit.account.jitter _ _ (sub-map (λ (f : Arrival). f.at) _ _ passed.sub)
      (subst (IsPaced transit.account.bag transit.account.jitter) (sym moments)
      (later-paced transit.account.bag transit.account.jitter delay (passages_of transit.account passed.arrivals)
      (passages-paced transit.account least passed.arrivals 0 x.until counting passed.sizes passed.between)))

  pub puts-metered : transit.account.measure ≡ Bytes → IsMetered transit.account.smax transit.account.bag transit.account.jitter put_frames
  puts-metered bytes =
      let passed = some-passed 0 (any (events (simulation_of (rules_of node) x) n p)) in
      fewer-metered transit.account.smax transit.account.bag transit.account.jitter _ _ passed.sub
      (later-metered transit.account.smax transit.account.bag transit.account.jitter (delay_of (x.opening p).equipment) (passed_of transit.account passed.arrivals)
      (passages-metered transit.account passed.arrivals 0 x.until bytes passed.between))
    where
      any : (ms : List Message) → Every (BringsAtLeast v 0) ms
      any [] = tt
      any (m ∷ ms) = (λ bytes brought. omega arith, any ms)
