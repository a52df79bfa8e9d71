-- What is read of the processes: whether all is committed.
use Rattle.std.proofs.Common.{◌≡◌, ℕ, ◌<◌, inl, inr, true, false, List, [], ◌∷◌, map, length, get_or, slice_get, refl, sym, ap, subst, arith, is_some, Some, option_map}
use Rattle.std.proofs.Math.ListN.{get_or-map}
use Rattle.std.proofs.lemmas.List.{length-map}
use Rattle.std.proofs.lemmas.Option.{slice_get-get_or, slice_get_cases}
use Rattle.vlink.specs.declared.message.Message.{Message}
use Rattle.vlink.specs.declared.note.Note.{Note}
use Rattle.virtual_time.specs.Law.{Rules, Part, Simulation, World}
use Rattle.process_queues.specs.Queues.{Queues, InHand, StandsFor}
use Rattle.actor_world.specs.Worlds.{Holdings, StandsForWorld}

-- an oldest element is there just where some is
pub some-first : {X : Type 0} (f : X → ℕ) (xs : List X) → true ≡ is_some (option_map f (slice_get xs 0)) → xs ≡ [] → ⊥
some-first f [] e d = cc
some-first f (x ∷ xs) e d = cc

pub no-first : {X : Type 0} (f : X → ℕ) (xs : List X) → false ≡ is_some (option_map f (slice_get xs 0)) → xs ≡ []
no-first f [] e = refl
no-first f (x ∷ xs) e = absurd cc

module _ {S K : Type 0} (r : Rules Message S K Note) (is_value : S → Message → Type 0) where
  -- nothing is done that is not committed, of whatever part the queues are
  abbrev pub HasNoneDone : Queues S K → Type 0
  HasNoneDone q = (opening : S) (part : Part Message S) → StandsFor r is_value opening part q → part.done ≡ []

module _ {S K : Type 0} (f : Simulation Message S K Note) (is_value : S → Message → Type 0) (w : World Message S) (held : Holdings S K) (h : StandsForWorld f is_value w held)
    (vs : List (InHand S K)) (same : map (λ (u : InHand S K). u.queues) vs ≡ held.processes) where
  part-at : (p : ℕ) (d : InHand S K) → p < f.processes → StandsFor f.rules is_value (f.opening p) (w.parts p) (get_or vs p d).queues
  part-at p d i =
      let k : p < length (map (λ (u : InHand S K). u.queues) vs) = let a = ap length same in let b = h.count in omega arith in
      let at = slice_get-get_or (map (λ (u : InHand S K). u.queues) vs) p d.queues k in
      subst (StandsFor f.rules is_value (f.opening p) (w.parts p)) (get_or-map (λ (u : InHand S K). u.queues) vs p d)
      (h.parts p _ (subst (λ ps. slice_get ps p ≡ Some (get_or (map (λ (u : InHand S K). u.queues) vs) p d.queues)) same at))

  pub all-none : ((k : ℕ) (d : InHand S K) → k < length vs → HasNoneDone f.rules is_value (get_or vs k d).queues) → (p : ℕ) → p < f.processes → (w.parts p).done ≡ []
  all-none n p i = elim (slice_get_cases held.processes p).1 [
    | inl q ↦
        let u : InHand S K = record { queues = q.0; room = 0; committed_room = 0 } in
        n p u (let a = ap length same in let b = h.count in let c = length-map vs (λ (u : InHand S K). u.queues) in omega arith) (f.opening p) (w.parts p) (part-at p u i)
    | inr q ↦ absurd (let k = h.count in let l = q.0 in omega arith)
  ]

  pub none-at : ((p : ℕ) → p < f.processes → (w.parts p).done ≡ []) → (k : ℕ) (u : InHand S K) → k < length vs → u ≡ get_or vs k u →
      ((opening : S) (part : Part Message S) → StandsFor f.rules is_value opening part u.queues → part.done ≡ [] → ⊥) → ⊥
  none-at n k u i e some =
      let j : k < f.processes = let a = ap length same in let b = h.count in let c = length-map vs (λ (u : InHand S K). u.queues) in omega arith in
      some (f.opening k) (w.parts k) (subst (λ (z : InHand S K). StandsFor f.rules is_value (f.opening k) (w.parts k) z.queues) (sym e) (part-at k u j)) (n k j)
