-- Messages are passed on one after another: actors that run ahead handle theirs, and the others wait.
use Rattle.std.proofs.Common.{◌≡◌, ℕ, zero, suc, ◌+◌, ◌<◌, ◌≤◌, Bool, true, false, List, [], ◌∷◌, ◌++◌, Some, length, slice_get, IsPermutation, refl, sym, ap, ◌∙◌, subst, arith, set, length-set, append-nil, append_assoc}
use Rattle.std.proofs.lemmas.Bool.{both_ways, le-leb}
use Rattle.std.proofs.lemmas.List.Sorted.{IsPermutation-append_left, IsPermutation-refl, IsPermutation-to_front, IsPermutation-trans}
use Rattle.vlink.specs.declared.message.Message.{Message}
use Rattle.vlink.specs.declared.note.Note.{Note}
use Rattle.vlink.specs.declared.time.TheConstants.{GREATEST_NS}
use Rattle.vlink.specs.Numbering.{greatest_number}
use Rattle.virtual_time.specs.Law.{Rules, Simulation}
use Rattle.reverse.specs.Setting.{Setting, simulation_of, AreInStates}
use Rattle.reverse.specs.declared.sends.TheConstants.{MOST_SENT}
use Rattle.runs_ahead.specs.Ahead.{in_place, in_place_of, passed, passed_all}
use Rattle.runs_ahead.specs.Standing.{AnswersGood}
use Rattle.actor_run.specs.Load.{load, weight}
use Rattle.actor_run.specs.RunningAhead.{AreStuck, HavePassed, IsStuck, has_room}
use Rattle.actor_run.proofs.Handling.{states-put}
use Rattle.actor_run.proofs.Loading.{load-append, load-permutation}

module _ {S K : Type 0} (f : Simulation Message S K Note) (ahead : ℕ → Bool) where
  passed-append : (g : ℕ → S) (xs ys : List Message) → passed_all f ahead g (xs ++ ys) ≡ passed_all f ahead (passed_all f ahead g xs) ys
  passed-append g [] ys = refl
  passed-append g (x ∷ xs) ys = passed-append (passed f ahead g x) xs ys

  place-append : (g : ℕ → S) (xs ys : List Message) → in_place_of f ahead g (xs ++ ys) ≡ in_place_of f ahead g xs ++ in_place_of f ahead (passed_all f ahead g xs) ys
  place-append g [] ys = refl
  place-append g (x ∷ xs) ys =
      ap (λ z. in_place f ahead g x ++ z) (place-append (passed f ahead g x) xs ys) ∙
      sym (append_assoc (in_place f ahead g x) (in_place_of f ahead (passed f ahead g x) xs) (in_place_of f ahead (passed_all f ahead (passed f ahead g x) xs) ys))

  good-append : (good : S → Bool) (g : ℕ → S) (xs ys : List Message) → AnswersGood f ahead good g xs → AnswersGood f ahead good (passed_all f ahead g xs) ys → AnswersGood f ahead good g (xs ++ ys)
  good-append good g [] ys h k = k
  good-append good g (x ∷ xs) ys h k = (h.0, good-append good (passed f ahead g x) xs ys h.1 k)

pub item-there : {X : Type 0} (xs : List X) (p : ℕ) → p < length xs → (x : X) × (slice_get xs p ≡ Some x)
item-there [] p i = absurd (omega arith)
item-there (x ∷ xs) zero i = (x, refl)
item-there (x ∷ xs) (suc p) i = item-there xs p (omega arith)

module _ {S K : Type 0} (r : Rules Message S K Note) (ahead : ℕ → Bool) where
  pub none-passed : (actors : List S) (heap : List Message) → HavePassed r ahead actors heap [] actors heap
  none-passed actors heap = record {
    count = refl;
    states = λ x g h. h;
    waiting = λ x g h. subst (λ z. IsPermutation z heap) (sym (append-nil heap)) (IsPermutation-refl heap);
    numbers = λ x g h. tt;
    lighter = omega arith;
  }

  -- one message that waits
  pub waits-on : (actors : List S) (heap more : List Message) (m : Message) → ahead (r.order.receiver m) ≡ false → IsPermutation (m ∷ heap) more → HavePassed r ahead actors heap (m ∷ []) actors more
  waits-on actors heap more m b p = record {
    count = refl;
    states = λ x g h. rw b h;
    waiting = λ x g h. rw b (IsPermutation-trans _ _ _ (IsPermutation-to_front heap m) p);
    numbers = λ x g h. (λ e. absurd (both_ways _ b e), tt);
    lighter = let a = load-permutation GREATEST_NS (m ∷ heap) more p in omega arith;
  }

  -- one that an actor handles that runs ahead
  pub answered : (actors later : List S) (heap more answer : List Message) (m : Message) → ahead (r.order.receiver m) ≡ true → r.order.receiver m < length actors →
      ((s : S) → slice_get actors (r.order.receiver m) ≡ Some s → later ≡ set actors (r.order.receiver m) (r.after s m)) →
      ((s : S) → slice_get actors (r.order.receiver m) ≡ Some s → answer ≡ r.sends s m) →
      ((s : S) → slice_get actors (r.order.receiver m) ≡ Some s → r.counter s + MOST_SENT ≤ greatest_number) →
      IsPermutation (heap ++ answer) more → load GREATEST_NS answer < weight GREATEST_NS m.time → HavePassed r ahead actors heap (m ∷ []) later more
  answered actors later heap more answer m b within state sends numbers p light = record {
    count = let (s, there) = item-there actors (r.order.receiver m) within in ap length (state s there) ∙ length-set actors (r.order.receiver m) (r.after s m);
    states = λ x g h. rw b (subst (AreInStates x.processes _) (sym (state (g (r.order.receiver m)) (its x g h)))
        (states-put x.processes g actors (r.order.receiver m) (r.after (g (r.order.receiver m)) m) (inside x g h) h));
    waiting = λ x g h. rw b (subst (λ z. IsPermutation (heap ++ z) more) (sends (g (r.order.receiver m)) (its x g h) ∙ sym (append-nil _)) p);
    numbers = λ x g h. (λ e. le-leb _ _ (numbers (g (r.order.receiver m)) (its x g h)), tt);
    lighter = let a = load-permutation GREATEST_NS (heap ++ answer) more p in let c = load-append GREATEST_NS heap answer in omega arith;
  }
    where
      inside : (x : Setting S) (g : ℕ → S) → AreInStates x.processes g actors → r.order.receiver m < x.processes
      inside x g h = let a = h.count in omega (arith, within)

      its : (x : Setting S) (g : ℕ → S) → AreInStates x.processes g actors → slice_get actors (r.order.receiver m) ≡ Some (g (r.order.receiver m))
      its x g h = h.each (r.order.receiver m) (inside x g h)

  -- one more message
  pub more-passed : (a b c : List S) (h k l : List Message) (ms : List Message) (m : Message) → HavePassed r ahead a h ms b k → HavePassed r ahead b k (m ∷ []) c l → HavePassed r ahead a h (ms ++ m ∷ []) c l
  more-passed a b c h k l ms m P Q = record {
    count = Q.count ∙ P.count;
    states = λ x g s. subst (λ z. AreInStates x.processes z c) (sym (passed-append (simulation_of r x) ahead g ms (m ∷ []))) (Q.states x (passed_all (simulation_of r x) ahead g ms) (P.states x g s));
    waiting = λ x g s.
        let f = simulation_of r x in
        let now = passed_all f ahead g ms in
        subst (λ z. IsPermutation z l) (append_assoc h (in_place_of f ahead g ms) (in_place_of f ahead now (m ∷ [])) ∙ ap (λ z. h ++ z) (sym (place-append f ahead g ms (m ∷ []))))
        (IsPermutation-trans _ _ _ (IsPermutation-append_left (in_place_of f ahead now (m ∷ [])) (h ++ in_place_of f ahead g ms) k (P.waiting x g s)) (Q.waiting x now (P.states x g s)));
    numbers = λ x g s. good-append (simulation_of r x) ahead (has_room r) g ms (m ∷ []) (P.numbers x g s) (Q.numbers x (passed_all (simulation_of r x) ahead g ms) (P.states x g s));
    lighter = let u = P.lighter in let v = Q.lighter in let w = load-append GREATEST_NS ms (m ∷ []) in omega arith;
  }

  -- one that finds no numbers left
  pub stuck-there : (a b : List S) (h k ms before : List Message) (m : Message) (behind : List Message) → HavePassed r ahead a h before b k → IsStuck r ahead b m → ms ≡ before ++ m ∷ behind → AreStuck r ahead a ms
  stuck-there a b h k ms before m behind P Q e = λ x g s.
      let z = Q x (passed_all (simulation_of r x) ahead g before) (P.states x g s) in
      record { before = before; stuck = m; behind = behind; split = e; runs = z.0; wants = z.1 }
