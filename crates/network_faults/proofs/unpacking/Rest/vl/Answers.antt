use Rattle.std.proofs.Common.{◌∙◌, ℕ, List, ap, sym, append_assoc}
use Rattle.row_types.specs.declared.rows.VirtualLink.{VirtualLink}
use Rattle.network.specs.Words.{VlPlan, lists_of}
use Rattle.network_faults.specs.Packed.{packed_paths}
use Rattle.network_faults.proofs.unpacking.Rest.vl.Goals as goal

abbrev plan : VirtualLink → List (List ℕ) → List (List ℕ) → VlPlan
plan link a b = record { link = link; a = a; b = b }

pub returns : goal.returns
returns c = λ vl later link h.
    let a = c.in_ok-a.ensures vl.a _ (h ∙ append_assoc (packed_paths vl.a) (packed_paths vl.b) later) in
    let b = c.in_ok-b.ensures vl.b later a.1 in
    (c.new.ensures ∙ ap (λ l. plan l (lists_of c.in_ok-a.a) (lists_of c.in_ok-b.b)) (sym link) ∙ ap (λ p. plan vl.link p (lists_of c.in_ok-b.b)) a.0 ∙ ap (plan vl.link vl.a) b.0, b.1)
