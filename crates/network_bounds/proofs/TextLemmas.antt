-- The lines of virtual links, and of ports, one after another.
use Rattle.std.proofs.Common.{◌≡◌, ◌<◌, ◌≤◌, ℕ, zero, suc, ◌+◌, List, [], ◌∷◌, ◌++◌, length, take, drop, get_or, Option, Some, None, refl, sym, ap, ◌∙◌, slice_get, option_map, flat_map, append_assoc, subst, append-nil, Vec, Global, Result, Bool, cond, lt-ltb, arith}
use Rattle.std.proofs.lemmas.List.{drop_all, drop_more}
use Rattle.csv.specs.declared.writer.Writer.{Writer}
use Rattle.trace_segments.specs.Words.{Adds, Holds}
use Rattle.network.specs.Words.{Plan, VlPlan, destinations_of}
use Rattle.row_types.specs.declared.rows.VirtualLink.{VirtualLink}
use Rattle.trace_segments.proofs.WritingLemmas.{adds-more, adds-same, flat_map-more, take-read}
use Rattle.network_bounds.specs.declared.delays.PortBound.{PortBound}
use Rattle.std.specs.Option.{option_map_or}
use Rattle.std.proofs.lemmas.Option.{slice_get_past}
use Rattle.network.specs.declared.wiring.LinePlan.{LinePlan}
use Rattle.network.specs.Words.{lines_of}
use Rattle.network_bounds.specs.declared.ages.Span.{Span}
use Rattle.network_bounds.specs.declared.reason.Reason.{Reason}
use Rattle.network_bounds.specs.declared.sizes.LinkSizes.{LinkSizes}
use Rattle.network_bounds.specs.Least.{span_of}
use Rattle.network_bounds.specs.Delays.{AreBounds, IsBound}
use Rattle.network_bounds.specs.Mixing.{PortPlan, port_before}
use Rattle.network_bounds.specs.Text.{destination_line, destination_text, destinations_text, link_text, port_bytes_of, port_line, port_text, ports_from}

read : {X : Type 0} (xs : List X) (i : ℕ) (x : X) → slice_get xs i ≡ Some x → (i < length xs) × (x ≡ get_or xs i x)
read [] i x e = absurd (cc)
read (y ∷ ys) zero x e = (omega arith, (let h : y ≡ x = cc in sym h))
read (y ∷ ys) (suc i) x e = let later = read ys i x e in (omega (arith, later.0), later.1)

-- one virtual link more
pub links-more : (plan : Plan) (bounds : List PortBound) (i : ℕ) (link : VirtualLink) (ns : List ℕ) →
    option_map (λ vl. vl.link) (slice_get plan.vls i) ≡ Some link → option_map destinations_of (slice_get plan.vls i) ≡ Some ns →
    flat_map (link_text plan bounds) (take (i + 1) plan.vls) ≡ flat_map (link_text plan bounds) (take i plan.vls) ++ destinations_text plan bounds link ns
links-more plan bounds i link ns a b = go (slice_get plan.vls i) refl a b
  where
    go : (o : Option VlPlan) → slice_get plan.vls i ≡ o → option_map (λ vl. vl.link) o ≡ Some link → option_map destinations_of o ≡ Some ns →
        flat_map (link_text plan bounds) (take (i + 1) plan.vls) ≡ flat_map (link_text plan bounds) (take i plan.vls) ++ destinations_text plan bounds link ns
    go None e a b = absurd (cc)
    go (Some vl) e a b =
        let at = read plan.vls i vl e in
        let is : vl.link ≡ link = cc in
        let to : destinations_of vl ≡ ns = cc in
        flat_map-more (link_text plan bounds) plan.vls i vl at.0 at.1
        ∙ ap (λ l. flat_map (link_text plan bounds) (take i plan.vls) ++ destinations_text plan bounds l (destinations_of vl)) is
        ∙ ap (λ d. flat_map (link_text plan bounds) (take i plan.vls) ++ destinations_text plan bounds link d) to

-- what is read of an option
pub read-or : {X Y : Type 0} (f : X → Y) (o : Option X) (y d : Y) → option_map f o ≡ Some y → option_map_or f o d ≡ y
read-or f None y d e = absurd (cc)
read-or f (Some x) y d e = cc

-- a port behind the last line has no text
pub no-port : (plan : Plan) (k : ℕ) (bound : PortBound) → length (lines_of plan) ≤ k → port_text plan k bound ≡ []
no-port plan k bound past =
    ap (λ o. option_map_or (λ ahead. port_line plan k (port_bytes_of plan ahead.from) bound.waiting) o []) (slice_get_past (lines_of plan) k past)

-- the text of a port
pub port-said : (plan : Plan) (k bytes : ℕ) (ahead : LinePlan) (bound : PortBound) (waiting : Result ℕ Reason) → slice_get (lines_of plan) k ≡ Some ahead →
    option_map (λ node. node.port_bytes) (slice_get plan.nodes ahead.from) ≡ Some bytes → bound.waiting ≡ waiting → port_line plan k bytes waiting ≡ port_text plan k bound
port-said plan k bytes ahead bound waiting line node is =
    ap (λ w. port_line plan k bytes w) (sym is)
    ∙ ap (λ n. port_line plan k n bound.waiting) (sym (read-or (λ node. node.port_bytes) (slice_get plan.nodes ahead.from) bytes 0 node))
    ∙ ap (λ o. option_map_or (λ ahead. port_line plan k (port_bytes_of plan ahead.from) bound.waiting) o []) (sym line)

-- one port more
pub ports-more : (plan : Plan) (done : List ℕ) (bounds : List PortBound) (k : ℕ) (bound : PortBound) → k < length bounds → get_or bounds k bound ≡ bound →
    (done ++ port_text plan k bound) ++ ports_from plan (k + 1) (drop (k + 1) bounds) ≡ done ++ ports_from plan k (drop k bounds)
ports-more plan done bounds k bound below is =
    append_assoc done (port_text plan k bound) (ports_from plan (k + 1) (drop (k + 1) bounds))
    ∙ ap (λ (b : PortBound). done ++ (port_text plan k b ++ ports_from plan (k + 1) (drop (k + 1) bounds))) (sym is)
    ∙ ap (λ bs. done ++ ports_from plan k bs) (sym (drop_more bounds k bound below))

module _ (known : ℕ → LinkSizes) (plan : Plan) where
  -- one bound more
  bounds-snoc : (lines : List LinePlan) (line : LinePlan) (bounds : List PortBound) (bound : PortBound) → AreBounds known plan lines bounds →
      IsBound (port_before known plan line) bound → AreBounds known plan (lines ++ line ∷ []) (bounds ++ bound ∷ [])
  bounds-snoc [] line [] bound are is = (is, tt)
  bounds-snoc [] line (b ∷ bs) bound are is = absurd are
  bounds-snoc (l ∷ ls) line [] bound are is = absurd are
  bounds-snoc (l ∷ ls) line (b ∷ bs) bound are is = (are.0, bounds-snoc ls line bs bound are.1 is)

  pub bounds-more : (k : ℕ) (line : LinePlan) (bounds : List PortBound) (bound : PortBound) → slice_get (lines_of plan) k ≡ Some line →
      AreBounds known plan (take k (lines_of plan)) bounds → IsBound (port_before known plan line) bound → AreBounds known plan (take (k + 1) (lines_of plan)) (bounds ++ bound ∷ [])
  bounds-more k line bounds bound at are is =
      let there = read (lines_of plan) k line at in
      subst (λ ls. AreBounds known plan ls (bounds ++ bound ∷ [])) (sym (take-read (lines_of plan) k line there.0 there.1)) (bounds-snoc (take k (lines_of plan)) line bounds bound are is)

  -- the port that an option of a line gives
  pub port-there : (k : ℕ) (port : PortPlan) → option_map (port_before known plan) (slice_get (lines_of plan) k) ≡ Some port →
      (line : LinePlan) × (slice_get (lines_of plan) k ≡ Some line) × (port_before known plan line ≡ port)
  port-there k port e = go (slice_get (lines_of plan) k) refl e
    where
      go : (o : Option LinePlan) → slice_get (lines_of plan) k ≡ o → option_map (port_before known plan) o ≡ Some port →
          (line : LinePlan) × (slice_get (lines_of plan) k ≡ Some line) × (port_before known plan line ≡ port)
      go None at e = absurd (cc)
      go (Some line) at e = (line, at, (let same : port_before known plan line ≡ port = cc in same))

-- what stands in a list does not depend on what would stand behind its end
pub any-end : {X : Type 0} (xs : List X) (i : ℕ) (d e : X) → i < length xs → get_or xs i d ≡ get_or xs i e
any-end [] i d e below = absurd (omega (arith, below))
any-end (x ∷ xs) zero d e below = refl
any-end (x ∷ xs) (suc i) d e below = any-end xs i d e (omega (arith, below))

-- nothing is put into a writer that is left as it is
pub none-put : (w : Writer (Vec ℕ Global)) → Adds w w []
none-put w text holds = subst (Holds w) (sym (append-nil text)) holds

-- the ports before line k are put, and those behind are all that is left
abbrev pub ArePut : Plan → List PortBound → Writer (Vec ℕ Global) → Writer (Vec ℕ Global) → ℕ → Type 0
ArePut plan bounds old new k = (done : List ℕ) × Adds old new done × (done ++ ports_from plan k (drop k bounds) ≡ ports_from plan 0 bounds)

pub port-put : (plan : Plan) (bounds : List PortBound) (old out new : Writer (Vec ℕ Global)) (k : ℕ) (d : PortBound) → k < length bounds →
    Adds out new (port_text plan k (get_or bounds k d)) → ArePut plan bounds old out k → ArePut plan bounds old new (k + 1)
port-put plan bounds old out new k d below adds put =
    let bound = get_or bounds k d in (
      put.0 ++ port_text plan k bound,
      adds-more old out new put.0 (port_text plan k bound) put.1 adds,
      ports-more plan put.0 bounds k bound below (any-end bounds k bound d below) ∙ put.2,
    )

pub all-put : (plan : Plan) (bounds : List PortBound) (old new : Writer (Vec ℕ Global)) (k : ℕ) → length bounds ≤ k → ArePut plan bounds old new k →
    Adds old new (ports_from plan 0 bounds)
all-put plan bounds old new k past put =
    adds-same old new put.0 (ports_from plan 0 bounds)
    (sym (append-nil put.0) ∙ ap (λ bs. put.0 ++ ports_from plan k bs) (sym (drop_all k bounds past)) ∙ put.2) put.1

-- the line of a destination that there is
pub said-at : (plan : Plan) (bounds : List PortBound) (link : VirtualLink) (n : ℕ) (found : Result Span Reason) → n < length plan.nodes → span_of plan bounds link n ≡ found →
    destination_line plan link n found ≡ destination_text plan bounds link n
said-at plan bounds link n found below is =
    ap (λ r. destination_line plan link n r) (sym is)
    ∙ ap (λ (b : Bool). cond b (destination_line plan link n (span_of plan bounds link n)) []) (sym (lt-ltb n (length plan.nodes) below))
