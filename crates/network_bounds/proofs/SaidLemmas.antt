-- The text of the bounds is the first line and what its lines say, one after another.
use Rattle.std.proofs.Common.{◌≡◌, ℕ, ◌+◌, Bool, true, false, cond, nat_lt, List, [], ◌∷◌, ◌++◌, length, flat_map, Option, Some, None, append_assoc, append-nil, refl, sym, ap, ◌∙◌, slice_get}
use Rattle.std.specs.Option.{option_map_or}
use Rattle.network.specs.declared.wiring.LinePlan.{LinePlan}
use Rattle.network.specs.Words.{Plan, VlPlan, destinations_of, lines_of}
use Rattle.row_types.specs.declared.rows.VirtualLink.{VirtualLink}
use Rattle.network_bounds.specs.declared.delays.PortBound.{PortBound}
use Rattle.network_bounds.specs.Said.{Said, said_line}
use Rattle.network_bounds.specs.Least.{span_of}
use Rattle.network_bounds.specs.Text.{bounds_head, bounds_text, destination_said, destination_saids, destination_text, link_saids, link_text, port_bytes_of, port_said, port_saids, port_text, ports_from, ports_said_from, saids_of}

flat-append : {X Y : Type 0} (f : X → List Y) (xs ys : List X) → flat_map f (xs ++ ys) ≡ flat_map f xs ++ flat_map f ys
flat-append f [] ys = refl
flat-append f (x ∷ xs) ys = ap (λ zs. f x ++ zs) (flat-append f xs ys) ∙ sym (append_assoc (f x) (flat_map f xs) (flat_map f ys))

-- the texts of what each gives
flat-each : {X Y Z : Type 0} (text : X → List Z) (says : X → List Y) (line : Y → List Z) → ((x : X) → text x ≡ flat_map line (says x)) → (xs : List X) → flat_map text xs ≡ flat_map line (flat_map says xs)
flat-each text says line each [] = refl
flat-each text says line each (x ∷ xs) =
    ap (λ zs. zs ++ flat_map text xs) (each x) ∙ ap (λ zs. flat_map line (says x) ++ zs) (flat-each text says line each xs) ∙ sym (flat-append line (says x) (flat_map says xs))

module _ (plan : Plan) where
  one : (said : Said) → said_line plan said ≡ flat_map (said_line plan) (said ∷ [])
  one said = sym (append-nil (said_line plan said))

  at-destination : (bounds : List PortBound) (link : VirtualLink) (n : ℕ) → destination_text plan bounds link n ≡ flat_map (said_line plan) (destination_saids plan bounds link n)
  at-destination bounds link n = go (nat_lt n (length plan.nodes))
    where
      go : (b : Bool) → cond b (said_line plan (destination_said plan link n (span_of plan bounds link n))) [] ≡ flat_map (said_line plan) (cond b (destination_said plan link n (span_of plan bounds link n) ∷ []) [])
      go true = one (destination_said plan link n (span_of plan bounds link n))
      go false = refl

  of-link : (bounds : List PortBound) (vl : VlPlan) → link_text plan bounds vl ≡ flat_map (said_line plan) (link_saids plan bounds vl)
  of-link bounds vl = flat-each (destination_text plan bounds vl.link) (destination_saids plan bounds vl.link) (said_line plan) (at-destination bounds vl.link) (destinations_of vl)

  of-port : (k : ℕ) (bound : PortBound) → port_text plan k bound ≡ flat_map (said_line plan) (port_saids plan k bound)
  of-port k bound = go (slice_get (lines_of plan) k)
    where
      go : (o : Option LinePlan) → option_map_or (λ ahead. said_line plan (port_said k (port_bytes_of plan ahead.from) bound.waiting)) o [] ≡ flat_map (said_line plan) (option_map_or (λ ahead. port_said k (port_bytes_of plan ahead.from) bound.waiting ∷ []) o [])
      go None = refl
      go (Some ahead) = one (port_said k (port_bytes_of plan ahead.from) bound.waiting)

  of-ports : (k : ℕ) (bounds : List PortBound) → ports_from plan k bounds ≡ flat_map (said_line plan) (ports_said_from plan k bounds)
  of-ports k [] = refl
  of-ports k (bound ∷ bounds) =
      ap (λ zs. zs ++ ports_from plan (k + 1) bounds) (of-port k bound) ∙ ap (λ zs. flat_map (said_line plan) (port_saids plan k bound) ++ zs) (of-ports (k + 1) bounds)
      ∙ sym (flat-append (said_line plan) (port_saids plan k bound) (ports_said_from plan (k + 1) bounds))

  pub said : (bounds : List PortBound) → bounds_text plan bounds ≡ bounds_head ++ flat_map (said_line plan) (saids_of plan bounds)
  said bounds = ap (λ zs. bounds_head ++ zs)
      (ap (λ zs. zs ++ ports_from plan 0 bounds) (flat-each (link_text plan bounds) (link_saids plan bounds) (said_line plan) (of-link bounds) plan.vls)
      ∙ ap (λ zs. flat_map (said_line plan) (flat_map (link_saids plan bounds) plan.vls) ++ zs) (of-ports 0 bounds)
      ∙ sym (flat-append (said_line plan) (flat_map (link_saids plan bounds) plan.vls) (ports_said_from plan 0 bounds)))
