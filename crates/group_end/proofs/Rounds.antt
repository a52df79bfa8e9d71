-- Turns one after another are a round; and a round after which GVT does not rise lowers the rank.
use Rattle.std.proofs.Common.{◌≡◌, ℕ, zero, suc, ◌+◌, ◌<◌, ◌≤◌, ◌==◌, inl, inr, Bool, true, false, cond, List, [], ◌∷◌, ◌++◌, length, All, Some, slice_get, refl, ap, sym, ◌∙◌, subst, arith, append-nil, append_assoc, eqb-true, eq-eqb}
use Rattle.std.proofs.lemmas.Bool.{both_ways, cases_eq}
use Rattle.std.proofs.lemmas.List.Elements.{All-head, All-tail}
use Rattle.vlink.specs.declared.message.Message.{Message}
use Rattle.vlink.specs.declared.note.Note.{Note}
use Rattle.virtual_time.specs.Law.{Simulation, Laws, World, start, run, gvt_over, IsFinished}
use Rattle.virtual_time.specs.declared.step.Step.{Step}
use Rattle.virtual_time.specs.declared.step.Step.TheVariants.{Gvt}
use Rattle.virtual_time.proofs.Kept.{start-kept}
use Rattle.virtual_time.proofs.KeptRun.{run-kept, run-append}
use Rattle.virtual_time.proofs.KeptGvt.{gvt_over-rises}
use Rattle.ends.specs.Left.{rank}
use Rattle.ends.specs.Rounds.{IsTurn, AreTurns, Turn, has_turn, steps_in}
use Rattle.ends.proofs.Clauses.{falls, ends}
use Rattle.ends.proofs.Ending.{published, set-gvt}
use Rattle.ends.proofs.Serving.{run-push, turns-gvt}
use Rattle.group_exchange.specs.Views.{Ledger, is_of}
use Rattle.group_exchange.specs.Keeps.{AreGrouped}
use Rattle.group_exchange.specs.Effects.{Publishes, publishes}
use Rattle.group_exchange.proofs.Owners.{of-owner}
use Rattle.group_end.specs.Together.{IsPublished, TookRound, TookTurn}

steps-push : (ts : List Turn) (t : Turn) → steps_in (ts ++ t ∷ []) ≡ steps_in ts ++ t.steps
steps-push [] t = append-nil t.steps
steps-push (u ∷ ts) t = ap (λ xs. u.steps ++ xs) (steps-push ts t) ∙ sym (append_assoc u.steps (steps_in ts) t.steps)

has-push : (ts : List Turn) (t : Turn) (p : ℕ) → has_turn ts p ≡ true → has_turn (ts ++ t ∷ []) p ≡ true
has-push [] t p h = absurd (both_ways false refl h)
has-push (u ∷ ts) t p h = go (u.ours p) h (has-push ts t p)
  where
    go : (b : Bool) → cond b true (has_turn ts p) ≡ true → (has_turn ts p ≡ true → has_turn (ts ++ t ∷ []) p ≡ true) → cond b true (has_turn (ts ++ t ∷ []) p) ≡ true
    go true h k = refl
    go false h k = k h

has-last : (ts : List Turn) (t : Turn) (p : ℕ) → t.ours p ≡ true → has_turn (ts ++ t ∷ []) p ≡ true
has-last [] t p h = ap (λ b. cond b true false) h
has-last (u ∷ ts) t p h = go (u.ours p) (has-last ts t p h)
  where
    go : (b : Bool) → has_turn (ts ++ t ∷ []) p ≡ true → cond b true (has_turn (ts ++ t ∷ []) p) ≡ true
    go true k = refl
    go false k = k

find-at : (xs : List ℕ) (p : ℕ) → p < length xs → (x : ℕ) × (slice_get xs p ≡ Some x)
find-at [] p h = absurd (omega arith)
find-at (x ∷ xs) zero h = (x, refl)
find-at (x ∷ xs) (suc p) h = find-at xs p (omega arith)

each-at : (P : ℕ → Type 0) (xs : List ℕ) (p x : ℕ) → All P xs → slice_get xs p ≡ Some x → P x
each-at P [] p x a e = absurd (let z : ⊥ = cc in z)
each-at P (y ∷ ys) zero x a e = let k : y ≡ x = cc in subst P k (All-head P y ys a)
each-at P (y ∷ ys) (suc p) x a e = each-at P ys p x (All-tail P y ys a) e

module _ {M S K N : Type 0} (f : Simulation M S K N) where
  turns-push : (L : Laws f) (ts : List Turn) (t : Turn) (w : World M S) → AreTurns f ts w → IsTurn f t.ours t.steps (run f (steps_in ts) w) → AreTurns f (ts ++ t ∷ []) w
  unfolding run
  turns-push L [] t w a b = (b, tt)
  turns-push L (u ∷ ts) t w a b =
      (a.0, turns-push L ts t (run f u.steps w) a.1 (subst (λ v. IsTurn f t.ours t.steps v) (run-append f L u.steps (steps_in ts) w) b))

  -- turns of the first groups
  pub record Took (owners : List ℕ) (count : ℕ) (xs ys : List Step) : Type 0 where
    pub turns : List Turn
    pub journal : ys ≡ xs ++ steps_in turns
    pub are_turns : AreTurns f turns (run f xs (start f))
    pub all : (g : ℕ) → g < count → (p : ℕ) → is_of owners g p ≡ true → has_turn turns p ≡ true

  pub took-none : (owners : List ℕ) (xs : List Step) → Took owners 0 xs xs
  took-none owners xs = record { turns = []; journal = sym (append-nil xs); are_turns = tt; all = λ g i. absurd (omega arith) }

  pub took-more : (L : Laws f) (owners : List ℕ) (count : ℕ) (xs ys zs : List Step) → Took owners count xs ys → TookTurn f (is_of owners count) ys zs → Took owners (count + 1) xs zs
  took-more L owners count xs ys zs a b =
      let t : Turn = record { ours = is_of owners count; steps = b.steps } in
      record {
        turns = a.turns ++ t ∷ [];
        journal = b.journal ∙ (ap (λ z. z ++ b.steps) a.journal ∙ (append_assoc xs (steps_in a.turns) b.steps ∙ ap (λ z. xs ++ z) (sym (steps-push a.turns t))));
        are_turns = turns-push L a.turns t (run f xs (start f)) a.are_turns
            (subst (λ v. IsTurn f (is_of owners count) b.steps v) (ap (λ z. run f z (start f)) a.journal ∙ run-append f L xs (steps_in a.turns) (start f)) b.is_turn);
        all = λ g i p o. elim (cases_eq g count) [
          | inl e ↦ has-last a.turns t p (subst (λ n. is_of owners n p ≡ true) e o)
          | inr n ↦ has-push a.turns t p (a.all g (omega arith) p o)
        ];
      }

  -- GVT stays meanwhile
  pub took-gvt : (L : Laws f) (owners : List ℕ) (count : ℕ) (xs ys : List Step) → Took owners count xs ys → (run f ys (start f)).gvt ≡ (run f xs (start f)).gvt
  took-gvt L owners count xs ys t =
      ap (λ z. (run f z (start f)).gvt) t.journal ∙ (ap (λ z. z.gvt) (run-append f L xs (steps_in t.turns) (start f)) ∙ turns-gvt f L t.turns (run f xs (start f)) t.are_turns)

  -- all groups had one
  pub took-round : (owners : List ℕ) (groups : ℕ) (xs ys : List Step) → AreGrouped f.processes groups owners → Took owners groups xs ys → TookRound f xs ys
  took-round owners groups xs ys g t = record {
    turns = t.turns;
    journal = t.journal;
    is_round = λ told. record {
      published = told;
      turns = t.are_turns;
      all = λ p i.
          let at = find-at owners p (let e = g.each in omega arith) in
          t.all at.0 (each-at (λ n. n < groups) owners p at.0 g.within at.1) p (of-owner owners at.0 p at.1);
    };
  }

module _ {S K : Type 0} (f : Simulation Message S K Note) (L : Laws f) (owners : List ℕ) where
  -- after GVT was set
  pub now-published : (x y : Ledger) (g : ℕ) → Publishes f owners x y g → IsPublished f y.steps g
  now-published x y g h = go (g == (run f x.steps (start f)).gvt) refl h.1
    where
      go : (b : Bool) → (g == (run f x.steps (start f)).gvt) ≡ b → publishes f owners b x y → IsPublished f y.steps g
      go true e k =
          let d : (run f x.steps (start f)).gvt ≡ g = sym (eqb-true g (run f x.steps (start f)).gvt e) in
          subst (λ (z : Ledger). IsPublished f z.steps g) (sym k) (record { is = d; least = sym h.0 })
      go false e k =
          let w = run f x.steps (start f) in
          let u = run-push f L x.steps Gvt (start f) in
          let gvt-is : (run f (x.steps ++ Gvt ∷ []) (start f)).gvt ≡ g = ap (λ z. z.gvt) (u ∙ set-gvt f L w) ∙ sym h.0 in
          subst (λ (z : Ledger). IsPublished f z.steps g) (sym k)
          (record { is = gvt-is; least = ap (gvt_over f f.processes) u ∙ (published f L w ∙ (ap (λ z. z.gvt) (sym u) ∙ gvt-is)) })

  pub publish-limit : (x y : Ledger) (g : ℕ) → Publishes f owners x y g → y.limit ≡ x.limit
  publish-limit x y g h = go (g == (run f x.steps (start f)).gvt) h.1
    where
      go : (b : Bool) → publishes f owners b x y → y.limit ≡ x.limit
      go true k = ap (λ (z : Ledger). z.limit) k
      go false k = ap (λ (z : Ledger). z.limit) k

  rises : (x y : Ledger) (g : ℕ) → Publishes f owners x y g → (run f x.steps (start f)).gvt ≤ g
  rises x y g h =
      let a = gvt_over-rises f L (run f x.steps (start f)) (run-kept f L x.steps (start f) (start-kept f L)) f.processes (omega arith) in
      let b = h.0 in
      omega arith

  -- a round, and GVT that does not rise: the rank has fallen
  pub round-falls : (xs : List Step) (x y : Ledger) (g new : ℕ) → IsPublished f xs g → g ≤ f.until → TookRound f xs x.steps → Publishes f owners x y new → new ≤ g →
      (new ≡ g) × (rank f (run f y.steps (start f)) < rank f (run f xs (start f)))
  round-falls xs x y g new h u t p low =
      let a = falls f L xs t.turns (let b = h.is in omega arith) (t.is_round (h.least ∙ sym h.is)) in
      let same : (run f x.steps (start f)).gvt ≡ g = subst (λ z. (run f z (start f)).gvt ≡ g) (sym t.journal) (a.0 ∙ h.is) in
      let less : rank f (run f x.steps (start f)) < rank f (run f xs (start f)) = subst (λ z. rank f (run f z (start f)) < rank f (run f xs (start f))) (sym t.journal) a.1 in
      let up = rises x y new p in
      let equal : new ≡ g = omega arith in
      let none : publishes f owners true x y = subst (λ b. publishes f owners b x y) (eq-eqb new (run f x.steps (start f)).gvt (equal ∙ sym same)) p.1 in
      (equal, subst (λ (z : Ledger). rank f (run f z.steps (start f)) < rank f (run f xs (start f))) (sym none) less)

  -- the last round
  pub finished : (xs ys : List Step) (g : ℕ) → IsPublished f xs g → f.until < g → TookRound f xs ys → IsFinished f (run f ys (start f))
  finished xs ys g h o t = subst (λ z. IsFinished f (run f z (start f))) (sym t.journal) (ends f L xs t.turns (let b = h.is in omega arith) (t.is_round (h.least ∙ sym h.is)))
