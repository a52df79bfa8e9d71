-- The world at the start: processes that have done nothing, and the offers in the mail.
use Rattle.std.proofs.Common.{◌≡◌, ℕ, zero, suc, ◌<◌, All, List, [], ◌∷◌, ◌++◌, map, length, slice_get, Some, refl, ap, ◌∙◌, subst, arith}
use Rattle.std.proofs.lemmas.List.Elements.{All-nil, All-cons}
use Rattle.std.proofs.lemmas.Option.{slice_get_within}
use Rattle.vlink.specs.declared.message.Message.{Message}
use Rattle.vlink.specs.declared.note.Note.{Note}
use Rattle.virtual_time.specs.Law.{Rules, IsOrder, IsIn, plus_of, received_by, opened, start}
use Rattle.virtual_time.proofs.Lists.{in-head}
use Rattle.reverse.specs.Setting.{Setting, simulation_of, Opens}
use Rattle.antimessages.specs.Letters.{Store}
use Rattle.antimessages.specs.Mailing.{letters_for}
use Rattle.process_queues.specs.Queues.{Queues, StandsFor}
use Rattle.actor_world.specs.Worlds.{AreOpened, StandsForWorld, CanOpen}

-- messages to processes of which there are so many
messages-go : {S K : Type 0} (r : Rules Message S K Note) (O : IsOrder r.order) (n : ℕ) (ms : List Message) → ((m : Message) → IsIn r.order m ms → r.order.receiver m < n) →
    All (λ l. r.order.receiver l.message < n) (map plus_of ms)
messages-go r O n [] h = All-nil (λ l. r.order.receiver l.message < n)
messages-go r O n (m ∷ ms) h =
    All-cons (λ l. r.order.receiver l.message < n) (plus_of m) (map plus_of ms) (h m (in-head r.order O m ms)) (messages-go r O n ms (λ k j. h k (let a = j in omega arith)))

-- the offers go to processes
pub offers-go : {S K : Type 0} (r : Rules Message S K Note) (O : IsOrder r.order) (number end : S → ℕ) (is_placed : S → Type 0) (is_value : S → Message → Type 0)
    (actors : List S) (offers : List Message) (until : ℕ) → CanOpen r number end is_placed is_value actors offers until → (n : ℕ) → n ≡ length actors →
    All (λ l. r.order.receiver l.message < n) (map plus_of offers)
offers-go r O number end is_placed is_value actors offers until world n e =
    let x = world.0 in
    let count = world.1.actors_open.count in
    messages-go r O n offers (λ m j.
    let a = world.3.offered_to m (subst (IsIn r.order m) world.1.offered j) in omega arith)

module _ {S K : Type 0} (r : Rules Message S K Note) (is_value : S → Message → Type 0) where
  -- one process more
  pub opened-more : (actors : List S) (qs : List (Queues S K)) (actor : S) (q : Queues S K) → AreOpened r is_value actors qs → StandsFor r is_value actor (opened actor) q →
      AreOpened r is_value (actors ++ actor ∷ []) (qs ++ q ∷ [])
  opened-more [] [] actor q h one = (one, tt)
  opened-more [] (x ∷ xs) actor q h one = absurd h
  opened-more (a ∷ rest) [] actor q h one = absurd h
  opened-more (a ∷ rest) (x ∷ xs) actor q h one = (h.0, opened-more rest xs actor q h.1 one)

  opened-count : (actors : List S) (qs : List (Queues S K)) → AreOpened r is_value actors qs → length qs ≡ length actors
  opened-count [] [] h = refl
  opened-count [] (x ∷ xs) h = absurd h
  opened-count (a ∷ rest) [] h = absurd h
  opened-count (a ∷ rest) (x ∷ xs) h = ap suc (opened-count rest xs h.1)

  opened-each : (actors : List S) (qs : List (Queues S K)) → AreOpened r is_value actors qs → (p : ℕ) (actor : S) (q : Queues S K) →
      slice_get actors p ≡ Some actor → slice_get qs p ≡ Some q → StandsFor r is_value actor (opened actor) q
  opened-each [] [] h p actor q e d = cc
  opened-each [] (x ∷ xs) h p actor q e d = absurd h
  opened-each (a ∷ rest) [] h p actor q e d = absurd h
  opened-each (a ∷ rest) (x ∷ xs) h zero actor q e d =
      let i : a ≡ actor = cc in
      let j : x ≡ q = cc in
      subst (λ z. StandsFor r is_value z (opened z) q) i (subst (StandsFor r is_value a (opened a)) j h.0)
  opened-each (a ∷ rest) (x ∷ xs) h (suc p) actor q e d = opened-each rest xs h.1 p actor q e d

  pub opens : (x : Setting S) (actors : List S) (offers : List Message) → Opens x actors offers →
      (ps : List (Queues S K)) → AreOpened r is_value actors ps → (mail : List Store) → length mail ≡ length actors → ((p : ℕ) → letters_for p mail ≡ received_by r.order p (map plus_of offers)) →
      (floors : List ℕ) → length floors ≡ length actors → ((p : ℕ) → p < length actors → slice_get floors p ≡ Some (suc x.until)) →
      (gvt : ℕ) → gvt ≡ 0 → (until : ℕ) → until ≡ x.until →
      StandsForWorld (simulation_of r x) is_value (start (simulation_of r x)) (record { processes = ps; mail = mail; floors = floors; gvt = gvt; until = until })
  opens x actors offers o ps made mail boxes letters floors floor_count each gvt zero-is until until-is =
      record {
        count = opened-count actors ps made ∙ o.actors_open.count;
        parts = stands;
        whole = λ p q e. let none = (stands p q e).sealed in omega arith;
        boxes = boxes ∙ o.actors_open.count;
        mail = λ p i. letters p ∙ ap (λ ms. received_by r.order p (map plus_of ms)) o.offered;
        floor_count = floor_count ∙ o.actors_open.count;
        floors = λ p i. each p (let a = o.actors_open.count in omega arith);
        gvt = zero-is;
        until = until-is;
      }
    where
      stands : (p : ℕ) (q : Queues S K) → slice_get ps p ≡ Some q → StandsFor r is_value (x.opening p) (opened (x.opening p)) q
      stands p q e =
          let i : p < x.processes = let a = slice_get_within ps p q e in let b = opened-count actors ps made in let k = o.actors_open.count in omega arith in
          opened-each actors ps made p (x.opening p) q (o.actors_open.each p i) e
