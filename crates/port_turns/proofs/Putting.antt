-- What a node sends as puts: what passed the account, later by the delay.
use Rattle.std.proofs.Common.{◌≡◌, ℕ, ◌+◌, ◌≤◌, ◌==◌, Bool, true, false, cond, List, [], ◌∷◌, ◌++◌, filter, map, Some, refl, sym, ap, subst, arith}
use Rattle.std.proofs.lemmas.Bool.{false≢true}
use Rattle.vlink.specs.declared.message.Message.{Message}
use Rattle.policer.specs.declared.account.Arrival.{Arrival}
use Rattle.policer.specs.Account.{Policing, account, passes}
use Rattle.policer.specs.Bound.{IsBetween}
use Rattle.reverse.specs.Sending.{Wish}
use Rattle.port_bounds.specs.Sublists.{Every, IsSublist}
use Rattle.port_bounds.specs.Pacing.{AreBetween}
use Rattle.port_bounds.proofs.PacingLemmas.{ends}
use Rattle.port_bounds.proofs.SublistLemmas.{sub-trans}
use Rattle.element_bounds.specs.Passages.{AreAtLeast, passed_of}
use Rattle.nodes.specs.declared.equipment.Equipment.{Equipment}
use Rattle.nodes.specs.declared.equipment.Equipment.TheVariants.{Switch}
use Rattle.nodes.specs.declared.transit.Transit.{Transit}
use Rattle.nodes.specs.rules.Node.{NodeState, handled, after}
use Rattle.nodes.specs.laws.SwitchSending.{switch-cases}
use Rattle.port_turns.specs.SwitchPuts.{is_put, transit_of}
use Rattle.port_turns.specs.PortRuns.{BringsAtLeast}
use Rattle.port_turns.proofs.Judging.{Judged, as_put, delay_of, node-judges, puts_in}
use Rattle.port_turns.proofs.Judging.Judged.{Quiet, Judges}
use Rattle.port_turns.proofs.Elsewhere.{all-elsewhere}
use Rattle.port_turns.proofs.SentKinds.{AreFrom, from-sooner, from-sub, made-sub, mine, mine-kind, moments_of, sub-filter, sub-map, times_of, wished}
use Rattle.port_turns.proofs.Later.{later_frames}

-- the moments of frames that pass do not fall, also later by a delay
passed-from : (delay : ℕ) (a : Policing) (arrivals : List Arrival) (t u : ℕ) → IsBetween t u arrivals → AreFrom (t + delay) (map (λ (x : Arrival). x.at) (later_frames delay (passed_of a arrivals)))
passed-from delay a [] t u h = tt
passed-from delay a (x ∷ xs) t u h = go (passes a x) (passed-from delay (account.after a x) xs x.at u h.2)
  where
    from : t + delay ≤ x.at + delay
    from = let f = h.0 in omega (arith, f)

    go : (b : Bool) → AreFrom (x.at + delay) (map (λ (x : Arrival). x.at) (later_frames delay (passed_of (account.after a x) xs))) →
        AreFrom (t + delay) (map (λ (x : Arrival). x.at) (later_frames delay (cond b (x ∷ passed_of (account.after a x) xs) (passed_of (account.after a x) xs))))
    go true rest = (from, rest)
    go false rest = from-sooner (t + delay) (x.at + delay) (map (λ (x : Arrival). x.at) (later_frames delay (passed_of (account.after a x) xs))) from rest

-- the moments of puts are those of the wishes
moments-put : (ws : List Wish) → map (λ (x : Arrival). x.at) (map as_put ws) ≡ moments_of ws
moments-put [] = refl
moments-put (w ∷ ws) = ap (λ z. w.time ∷ z) (moments-put ws)

module _ (q v : ℕ) where
  -- another process puts none to this one
  pub puts-elsewhere : (r p : ℕ) → (r ≡ p → ⊥) → (m : Message) (e : Equipment) → filter (mine (is_put q v) p) (handled r m e).reply.wishes ≡ []
  puts-elsewhere r p d m e =
      all-elsewhere (is_put q v) (record { no_release = λ vl. refl; no_free = λ k. refl; no_carry = λ frame. refl }) p r m e (λ k frame own. d) (λ l is frame brought to. absurd (false≢true brought))

  -- the delay stays
  pub delay-stays : (n : ℕ) (m : Message) (e : Equipment) → delay_of (handled n m e).equipment ≡ delay_of e
  delay-stays n m (Switch s) = switch-cases (λ o. o.state.latency ≡ s.latency) n m.time s (record { quiet = λ r h. refl; at_ports = λ k e. refl; takes = λ k frame found h. refl }) m.body
  delay-stays n m _ = refl

  module _ (p : ℕ) where
    -- what the process has put to the port, as its events wish for it
    abbrev pub put_by : NodeState → List Message → List Arrival
    put_by s ms = map as_put (wished (is_put q v) p s ms)

    -- frames of at least so many bytes came to the account from t to u, and these are some of those that passed, later by the delay
    pub record HavePassed (least t u delay : ℕ) (a : Policing) (puts : List Arrival) : Type 0 where
      pub arrivals : List Arrival
      pub sizes : AreAtLeast least arrivals
      pub between : IsBetween t u arrivals
      pub sub : IsSublist puts (later_frames delay (passed_of a arrivals))

    between-sooner : (t from u : ℕ) (arrivals : List Arrival) → t ≤ from → IsBetween from u arrivals → IsBetween t u arrivals
    between-sooner t from u [] l h = tt
    between-sooner t from u (x ∷ xs) l h = (omega (arith, h.0), h.1, h.2)

    -- of the puts those to the process
    for-process : (ws : List Wish) → IsSublist (map as_put (filter (mine (is_put q v) p) ws)) (puts_in q v ws)
    for-process ws = sub-map as_put _ _
        (subst (λ z. IsSublist z (filter (λ w. is_put q v w.body) ws)) (sym (mine-kind (is_put q v) p ws)) (sub-filter (λ (w : Wish). w.receiver == p) (filter (λ w. is_put q v w.body) ws)))

    pub puts-passed : (least : ℕ) (s : NodeState) (transit : Transit) (ms : List Message) (t u : ℕ) → Every (BringsAtLeast v least) ms → transit_of s.equipment v ≡ Some transit → AreBetween t u (times_of ms) →
        HavePassed least t u (delay_of s.equipment) transit.account (put_by s ms)
    puts-passed least s transit [] t u c h b = record { arrivals = []; sizes = tt; between = tt; sub = tt }
    puts-passed least s transit (m ∷ ms) t u c h b =
        go (node-judges s.sender.number q v m s.equipment transit h) (λ now e. subst (λ d. HavePassed least m.time u d now.account (put_by (after s m) ms)) (delay-stays s.sender.number m s.equipment) (puts-passed least (after s m) now ms m.time u c.1 e b.1))
      where
        joined : (first rest : List Arrival) → IsSublist (puts_in q v (handled s.sender.number m s.equipment).reply.wishes) first → IsSublist (put_by (after s m) ms) rest → IsSublist (put_by s (m ∷ ms)) (first ++ rest)
        joined first rest k l = made-sub (is_put q v) p as_put s m ms first rest (sub-trans _ _ _ (for-process (handled s.sender.number m s.equipment).reply.wishes) k) l

        passing : (arrival : Arrival) (b : Bool) (xs : List Arrival) → arrival.at ≡ m.time →
            cond b (record { at = m.time + delay_of s.equipment; size = arrival.size } ∷ []) [] ++ later_frames (delay_of s.equipment) xs ≡ later_frames (delay_of s.equipment) (cond b (arrival ∷ xs) xs)
        passing arrival true xs e = ap (λ z. record { at = z + delay_of s.equipment; size = arrival.size } ∷ later_frames (delay_of s.equipment) xs) (sym e)
        passing arrival false xs e = refl

        go : Judged m.time (delay_of s.equipment) v m.body transit (transit_of (after s m).equipment v) (puts_in q v (handled s.sender.number m s.equipment).reply.wishes) →
            ((now : Transit) → transit_of (after s m).equipment v ≡ Some now → HavePassed least m.time u (delay_of s.equipment) now.account (put_by (after s m) ms)) →
            HavePassed least t u (delay_of s.equipment) transit.account (put_by s (m ∷ ms))
        go (Quiet now none) more =
            let r = more transit now in
            record {
              arrivals = r.arrivals;
              sizes = r.sizes;
              between = between-sooner t m.time u r.arrivals b.0 r.between;
              sub = joined [] (later_frames (delay_of s.equipment) (passed_of transit.account r.arrivals)) (subst (λ z. IsSublist z []) (sym none) tt) r.sub;
            }
        go (Judges arrival at brought now some) more =
            let r = more (record transit { account = account.after transit.account arrival }) now in
            let last = ends m.time u (times_of ms) b.1 in
            record {
              arrivals = arrival ∷ r.arrivals;
              sizes = (c.0 arrival.size brought, r.sizes);
              between = (omega (arith, b.0), omega arith, subst (λ z. IsBetween z u r.arrivals) (sym at) r.between);
              sub = subst (IsSublist (put_by s (m ∷ ms))) (passing arrival (passes transit.account arrival) (passed_of (account.after transit.account arrival) r.arrivals) at)
                  (joined (cond (passes transit.account arrival) (record { at = m.time + delay_of s.equipment; size = arrival.size } ∷ []) []) (later_frames (delay_of s.equipment) (passed_of (account.after transit.account arrival) r.arrivals)) some r.sub);
            }

    -- so the moments of the puts do not fall
    pub puts-from : (s : NodeState) (transit : Transit) (ms : List Message) (u : ℕ) → transit_of s.equipment v ≡ Some transit → AreBetween 0 u (times_of ms) → AreFrom (0 + delay_of s.equipment) (moments_of (wished (is_put q v) p s ms))
    puts-from s transit ms u h b =
        let r = puts-passed 0 s transit ms 0 u (each ms) h b in
        subst (AreFrom (0 + delay_of s.equipment)) (moments-put (wished (is_put q v) p s ms))
        (from-sub _ (map (λ (x : Arrival). x.at) (put_by s ms)) (map (λ (x : Arrival). x.at) (later_frames (delay_of s.equipment) (passed_of transit.account r.arrivals))) (sub-map (λ (x : Arrival). x.at) _ _ r.sub)
        (passed-from (delay_of s.equipment) transit.account r.arrivals 0 u r.between))
      where
        each : (ms : List Message) → Every (BringsAtLeast v 0) ms
        each [] = tt
        each (m ∷ ms) = (λ bytes brought. omega arith, each ms)
