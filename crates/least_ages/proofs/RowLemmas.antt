-- What the notes of a node show, with the messages that they are of, said of the rows of a run.
use Rattle.std.proofs.Common.{◌≡◌, ℕ, ◌==◌, Bool, true, false, cond, List, [], ◌∷◌, filter, All, refl, sym, subst, eq-eqb}
use Rattle.std.specs.Prelude.{Contains}
use Rattle.std.proofs.lemmas.List.Elements.{All-append, All-cons, All-contains, All-head, All-map, All-nil, All-tail, All-weaker}
use Rattle.vlink.specs.Letters.{Row}
use Rattle.vlink.specs.declared.message.Message.{Message}
use Rattle.vlink.specs.declared.note.Note.{Note}
use Rattle.reverse.specs.Rules.{rules_of}
use Rattle.reverse.specs.Setting.{Setting, simulation_of}
use Rattle.virtual_time.specs.Law.{Laws, events, one, rowed, rows_of}
use Rattle.virtual_time.proofs.OneThread.{right}
use Rattle.nodes.specs.rules.Node.{NodeState, after, notes}
use Rattle.nodes.specs.undoing.Node.{node}
use Rattle.frame_ages.proofs.NoteLemmas.{Shows, notes-show}

kept-in : {X : Type 0} (P : X → Type 0) (test : X → Bool) (xs : List X) → All P (filter test xs) → All (λ x. test x ≡ true → P x) xs
kept-in P test [] h = All-nil (λ x. test x ≡ true → P x)
kept-in P test (x ∷ xs) h = go (test x) refl h (λ k. kept-in P test xs k)
  where
    go : (b : Bool) → test x ≡ b → All P (cond b (x ∷ filter test xs) (filter test xs)) → (All P (filter test xs) → All (λ x. test x ≡ true → P x) xs) → All (λ x. test x ≡ true → P x) (x ∷ xs)
    go true e k rest = All-cons (λ x. test x ≡ true → P x) x xs (λ t. All-head P x (filter test xs) k) (rest (All-tail P x (filter test xs) k))
    go false e k rest = All-cons (λ x. test x ≡ true → P x) x xs (λ t. absurd (let z : ⊥ = cc in z)) (rest k)

-- K is known of the messages of a node and stays known of the later ones, and P holds of each message of which it is known with each of its notes
module _ (P : Message → Note → Type 0) (K : NodeState → List Message → Type 0) (later : (s : NodeState) (m : Message) (ms : List Message) → K s (m ∷ ms) → K (after s m) ms)
    (says : (s : NodeState) (m : Message) (ms : List Message) → K s (m ∷ ms) → (note : Note) → Shows m s.equipment note → P m note) where
  abbrev IsFit : Row → Type 0
  IsFit row = P row.message row.note

  rows-fit : (s : NodeState) (ms : List Message) → K s ms → All IsFit (rowed (rules_of node) s ms)
  rows-fit s [] h = All-nil IsFit
  rows-fit s (m ∷ ms) h =
      All-append IsFit (rows_of (rules_of node).order m (notes s m)) (rowed (rules_of node) (after s m) ms)
      (All-map IsFit (λ note. record { message = m; place = m.receiver; note = note }) (notes s m)
      (All-weaker (Shows m s.equipment) (P m) (says s m ms h) (notes s m) (notes-show s.sender.number m s.equipment)))
      (rows-fit (after s m) ms (later s m ms h))

  -- so it holds of each row of the node
  pub row-has : (x : Setting NodeState) → Laws (simulation_of (rules_of node) x) → (p n : ℕ) → K (x.opening p) (events (simulation_of (rules_of node) x) n p) →
      (row : Row) → Contains (one (simulation_of (rules_of node) x) n).rows row → row.place ≡ p → P row.message row.note
  row-has x L p n h row inside place =
      All-contains (λ row. (row.place == p) ≡ true → IsFit row) (one (simulation_of (rules_of node) x) n).rows row
      (kept-in IsFit (λ row. row.place == p) (one (simulation_of (rules_of node) x) n).rows
      (subst (All IsFit) (sym ((right (simulation_of (rules_of node) x) L n).rows_are p)) (rows-fit (x.opening p) (events (simulation_of (rules_of node) x) n p) h)))
      inside (eq-eqb row.place p place)
