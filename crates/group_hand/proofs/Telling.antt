-- Words that are told one behind another.
use Rattle.std.proofs.Common.{◌≡◌, ℕ, Bool, true, cond, Option, List, [], ◌∷◌, ◌++◌, refl, sym, ap, ◌∙◌, subst, append_assoc, append-nil}
use Rattle.vlink.specs.declared.message.Message.{Message}
use Rattle.vlink.specs.declared.note.Note.{Note}
use Rattle.vlink.specs.Letters.{Letter}
use Rattle.virtual_time.specs.Law.{Simulation, Rules, World, AreBy, AreDone, done_by, is_enabled, effect, step}
use Rattle.virtual_time.specs.declared.step.Step.{Step}
use Rattle.reverse.specs.Setting.{simulation_of}
use Rattle.group_queues.specs.declared.block.Word.{Word}
use Rattle.group_queues.specs.Block.{steps_told}
use Rattle.group_hand.specs.Hands.{Held, AreOfMembers, DoesSent, StandsForSent, is_ours}
use Rattle.group_queues.proofs.Steps.{told-append}

module _ {M S K N : Type 0} (f : Simulation M S K N) where
  pub done-append : (xs ys : List Step) (v : World M S) → done_by f (xs ++ ys) v ≡ done_by f ys (done_by f xs v)
  done-append [] ys v = refl
  done-append (x ∷ xs) ys v = done-append xs ys (effect f x v)

  pub step-does : (x : Step) (v : World M S) → is_enabled f x v ≡ true → step f x v ≡ effect f x v
  unfolding step
  step-does x v e = ap (λ b. cond b (effect f x v) v) e

  pub are_done-append : (xs ys : List Step) (v : World M S) → AreDone f xs v → AreDone f ys (done_by f xs v) → AreDone f (xs ++ ys) v
  are_done-append [] ys v a b = b
  are_done-append (x ∷ xs) ys v a b = (
    a.0,
    subst (λ w. AreDone f (xs ++ ys) w) (sym (step-does x v a.0))
        (are_done-append xs ys (effect f x v) (subst (λ w. AreDone f xs w) (step-does x v a.0) a.1) b),
  )

by-append : (ours : ℕ → Bool) (xs ys : List Step) → AreBy ours xs → AreBy ours ys → AreBy ours (xs ++ ys)
by-append ours [] ys a b = b
by-append ours (x ∷ xs) ys a b = (a.0, by-append ours xs ys a.1 b)

pub by-both : (ours : ℕ → Bool) (ds es : List Word) → AreBy ours (steps_told ds) → AreBy ours (steps_told es) → AreBy ours (steps_told (ds ++ es))
by-both ours ds es a b = subst (λ xs. AreBy ours xs) (sym (told-append ds es)) (by-append ours (steps_told ds) (steps_told es) a b)

-- where the same are members
pub by-same : (ours now : ℕ → Bool) → ((p : ℕ) → now p ≡ ours p) → (xs : List Step) → AreBy now xs → AreBy ours xs
by-same ours now e xs a = subst (λ o. AreBy o xs) (λ j p. e p j) a

-- no word, and the same members
pub of_members-none : {S : Type 0} (old new : List (Option S)) → new ≡ old → AreOfMembers old new []
of_members-none old new e = record { by = tt; same = λ p. ap (λ ms. is_ours ms p) e }

pub of_members-both : {S : Type 0} (old mid new : List (Option S)) (ds es : List Word) → AreOfMembers old mid ds → AreOfMembers mid new es → AreOfMembers old new (ds ++ es)
of_members-both old mid new ds es a b = record {
  by = by-both (is_ours old) ds es a.by (by-same (is_ours old) (is_ours mid) a.same (steps_told es) b.by);
  same = λ p. b.same p ∙ a.same p;
}

module _ {S K : Type 0} (r : Rules Message S K Note) (V : S → Message → Type 0) where
  pub does-nothing : (h : Held S K) (sent : List Letter) → DoesSent r V h sent h sent
  does-nothing h sent = record {
    did = [];
    block = sym (append-nil h.flow.words);
    keeps = refl;
    rows = refl;
    stands = λ x L v g. (tt, g, of_members-none h.members h.members refl);
  }

  pub does-both : (h mid new : Held S K) (sent between left : List Letter) → DoesSent r V h sent mid between → DoesSent r V mid between new left → DoesSent r V h sent new left
  does-both h mid new sent between left a b = record {
    did = a.did ++ b.did;
    block = b.block ∙ (ap (λ z. z ++ b.did) a.block ∙ append_assoc h.flow.words a.did b.did);
    keeps = b.keeps ∙ a.keeps;
    rows = b.rows ∙ a.rows;
    stands = λ x L v g.
        let f = simulation_of r x in
        let one = a.stands x L v g in
        let two = b.stands x L (done_by f (steps_told a.did) v) one.1 in (
          subst (λ xs. AreDone f xs v) (sym (told-append a.did b.did)) (are_done-append f (steps_told a.did) (steps_told b.did) v one.0 two.0),
          subst (λ w. StandsForSent r V x w new left) (sym (ap (λ xs. done_by f xs v) (told-append a.did b.did) ∙ done-append f (steps_told a.did) (steps_told b.did) v)) two.1,
          of_members-both h.members mid.members new.members a.did b.did one.2 two.2,
        );
  }
