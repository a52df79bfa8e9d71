-- What an end system makes of events, once it is known what its look-ups find.
use Rattle.std.proofs.Common.{◌≡◌, ℕ, Bool, true, false, cond, slice_get, slice_index_or, option_map, option_and_then, List, [], Option, None, Some, refl, sym, ap, ◌∙◌}
use Rattle.std.proofs.lemmas.Option.{none-some, same_Some, get_or_from_slice_get}
use Rattle.vlink.specs.declared.frame.Frame.{Frame}
use Rattle.vlink.specs.declared.frame.VlId.{VlId}
use Rattle.vlink.specs.declared.frame.Net.{Net}
use Rattle.bag_regulator.specs.declared.event.RegEvent.{RegEvent}
use Rattle.bag_regulator.specs.declared.event.RegEvent.TheVariants.{Offer, Release}
use Rattle.bag_regulator.specs.declared.event.RegAnswer.TheVariants.{Released}
use Rattle.reverse.specs.Sending.{silent}
use Rattle.nodes.specs.Words.{Found, find, found-there, EndSystemState, asked, full, reception_at, reception_number, ending_on, is_on}
use Rattle.nodes.specs.declared.reception.Reception.{Reception}

-- a regulator that releases a frame has room in its queue
pub full-released : (e : RegEvent) (frame : Frame) → full e (Released frame) ≡ silent
full-released (Offer at sub f) frame = refl
full-released (Release at) frame = refl

-- to ask for a Release is to note nothing
pub asked-quiet : (n : ℕ) (vl : VlId) (at : Option ℕ) → (asked n vl at).notes ≡ []
asked-quiet n vl None = refl
asked-quiet n vl (Some at) = refl

-- a virtual link that ends here: the one that was read at its place
pub reception-found : (s : EndSystemState) (read : List Reception) (vl : VlId) (net : Net) (i : ℕ) (reception : Reception) → read ≡ s.receptions →
    Some i ≡ option_map (λ (found : Found Reception). found.place) (reception_at s vl net) → reception ≡ slice_index_or read i reception → reception_at s vl net ≡ Some (record { place = i; entry = reception })
reception-found s read vl net i reception same placed is = go (find reception_number s.receptions vl.0) refl placed
  where
    here : (f : Found Reception) → find reception_number s.receptions vl.0 ≡ Some f → (b : Bool) → Some i ≡ option_map (λ (found : Found Reception). found.place) (cond b (Some f) None) →
        cond b (Some f) None ≡ Some (record { place = i; entry = reception })
    here f found true e =
        let place : f.place ≡ i = sym (same_Some i f.place e) in
        let there = ap (slice_get s.receptions) (sym place) ∙ found-there reception_number s.receptions vl.0 f found in
        let entry : f.entry ≡ reception = sym (get_or_from_slice_get s.receptions i f.entry reception there) ∙ sym (is ∙ ap (λ receptions. slice_index_or receptions i reception) same) in
        λ t. Some (record { place = place t; entry = entry t })
    here f found false e = absurd (none-some i (sym e))

    go : (o : Option (Found Reception)) → find reception_number s.receptions vl.0 ≡ o → Some i ≡ option_map (λ (found : Found Reception). found.place) (option_and_then (ending_on net) o) →
        option_and_then (ending_on net) o ≡ Some (record { place = i; entry = reception })
    go None found e = absurd (none-some i (sym e))
    go (Some f) found e = here f found (is_on f.entry.end net) e
