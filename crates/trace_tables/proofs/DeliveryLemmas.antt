-- One row more changes the latencies at a destination by one, or not at all.
use Rattle.std.proofs.Common.{◌≡◌, ℕ, ◌+◌, ◌≤◌, ◌==◌, Bool, true, false, cond, List, [], ◌∷◌, ◌++◌, length, map, refl, ap, sym, ◌∙◌, arith, length-append, ◌&&◌, is_eq, append-nil}
use Rattle.std.proofs.lemmas.Grind.{flat_map-append}
use Rattle.vlink.specs.declared.frame.VlId.{VlId}
use Rattle.vlink.specs.declared.note.Note.{Note}
use Rattle.vlink.specs.declared.note.Note.TheVariants.{Delivered, Dropped}
use Rattle.vlink.specs.Letters.{Row}
use Rattle.trace_tables.specs.declared.destination.Destination.{Destination}
use Rattle.trace_tables.specs.Destinations.{destination_cmp, destination}
use Rattle.trace_tables.specs.Latencies.{counts_of, with_latency, latency_in, latency_at, latencies_of}
use Rattle.trace_tables.proofs.DestinationLemmas.{is_eq-destinations}
use Rattle.trace_tables.proofs.LatencyLemmas.{counts_of-push}

latencies_of-push : (vl place : ℕ) (rows : List Row) (row : Row) → latencies_of vl place (rows ++ row ∷ []) ≡ latencies_of vl place rows ++ latency_at vl place row
latencies_of-push vl place rows row = flat_map-append (latency_at vl place) rows (row ∷ []) ∙ ap (λ ls. latencies_of vl place rows ++ ls) (append-nil (latency_at vl place row))

-- a row that tells no latency here
pub same-counts : (vl place : ℕ) (rows : List Row) (row : Row) → latency_at vl place row ≡ [] → counts_of (latencies_of vl place rows) ≡ counts_of (latencies_of vl place (rows ++ row ∷ []))
same-counts vl place rows row none = ap counts_of (sym (latencies_of-push vl place rows row ∙ ap (λ ls. latencies_of vl place rows ++ ls) none ∙ append-nil (latencies_of vl place rows)))

-- and one that tells one
pub one-more : (vl place : ℕ) (rows : List Row) (row : Row) (l : ℕ) → latency_at vl place row ≡ l ∷ [] → with_latency (counts_of (latencies_of vl place rows)) l ≡ counts_of (latencies_of vl place (rows ++ row ∷ []))
one-more vl place rows row l one = sym (ap counts_of (latencies_of-push vl place rows row ∙ ap (λ ls. latencies_of vl place rows ++ ls) one) ∙ counts_of-push (latencies_of vl place rows) l)

abbrev no_latency : List ℕ
no_latency = []

cond-none : (b : Bool) → cond b no_latency no_latency ≡ no_latency
cond-none true = refl
cond-none false = refl

length-cond : (b : Bool) (ls : List ℕ) → length ls ≤ 1 → length (cond b ls []) ≤ 1
length-cond true ls h = h
length-cond false ls h = omega arith

pub none-of-drop : (vl place : ℕ) (row : Row) → latency_in vl row.note ≡ [] → latency_at vl place row ≡ []
none-of-drop vl place row none = ap (λ ls. cond (row.place == place) ls []) none ∙ cond-none (row.place == place)

pub map-same : {X Y : Type 0} (f g : X → Y) (xs : List X) → ((x : X) → f x ≡ g x) → map f xs ≡ map g xs
map-same f g [] agree = refl
map-same f g (x ∷ xs) agree = ap (λ y. y ∷ map f xs) (agree x) ∙ ap (λ ys. g x ∷ ys) (map-same f g xs agree)

-- a delivery tells one latency at its destination, and none at any other
pub tells : (row : Row) (vl : VlId) (l : ℕ) (d : Destination) → row.note ≡ Delivered vl l → latency_at d.vl.0 d.place row ≡ cond (is_eq (destination_cmp (destination vl row.place) d)) (l ∷ []) []
tells row vl l d is =
    ap (λ (note : Note). cond (row.place == d.place) (latency_in d.vl.0 note) []) is
    ∙ both (row.place == d.place) (vl.0 == d.vl.0)
    ∙ ap (λ (b : Bool). cond b (l ∷ []) []) (sym (is_eq-destinations (destination vl row.place) d))
  where
    both : (p v : Bool) → cond p (cond v (l ∷ []) []) [] ≡ cond (v && p) (l ∷ []) []
    both true true = refl
    both true false = refl
    both false true = refl
    both false false = refl

length-in : (vl : ℕ) (note : Note) → length (latency_in vl note) ≤ 1
length-in vl (Delivered id l) = length-cond (id.0 == vl) (l ∷ []) (omega arith)
length-in vl (Dropped id cause size) = omega arith

pub few-latencies : (vl place : ℕ) (rows : List Row) → length (latencies_of vl place rows) ≤ length rows
few-latencies vl place [] = omega arith
few-latencies vl place (row ∷ rows) =
    let here : length (latency_at vl place row) ≤ 1 = length-cond (row.place == place) (latency_in vl row.note) (length-in vl row.note) in
    let later : length (latencies_of vl place rows) ≤ length rows = few-latencies vl place rows in
    let both : length (latencies_of vl place (row ∷ rows)) ≡ length (latency_at vl place row) + length (latencies_of vl place rows) = length-append (latency_at vl place row) (latencies_of vl place rows) in
    omega arith
