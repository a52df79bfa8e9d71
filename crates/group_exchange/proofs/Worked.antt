-- A group works alone: words join its block.
use Rattle.std.proofs.Common.{◌≡◌, ℕ, Bool, true, List, [], ◌∷◌, ◌++◌, refl, sym, ap, ◌∙◌, subst, append-nil, append_assoc}
use Rattle.vlink.specs.declared.message.Message.{Message}
use Rattle.vlink.specs.declared.note.Note.{Note}
use Rattle.virtual_time.specs.Law.{Rules, Simulation, Laws, World, AreBy, AreDone, IsSafeGroup, done_by, in_hand, step}
use Rattle.virtual_time.specs.declared.step.Step.{Step}
use Rattle.virtual_time.proofs.Groups.{step-does}
use Rattle.virtual_time.proofs.GroupSteps.{run-done}
use Rattle.virtual_time.proofs.SafeGroup.{group-safe}
use Rattle.reverse.specs.Setting.{Setting, simulation_of}
use Rattle.group_queues.specs.declared.block.Word.{Word}
use Rattle.group_queues.specs.Block.{steps_of_word, steps_told}
use Rattle.group_hand.specs.Hands.{Held, StandsForGroup, is_ours}
use Rattle.group_exchange.specs.Views.{GroupState, before_block, in_group, is_of, world_after}
use Rattle.group_exchange.specs.Keeps.{Holds}
use Rattle.group_exchange.specs.Effects.{Went}

-- words, and then others
pub told-append : (ds es : List Word) → steps_told (ds ++ es) ≡ steps_told ds ++ steps_told es
told-append [] es = refl
told-append (d ∷ ds) es = ap (λ z. steps_of_word d ++ z) (told-append ds es) ∙ sym (append_assoc (steps_of_word d) (steps_told ds) (steps_told es))

pub by-append : (ours : ℕ → Bool) (xs ys : List Step) → AreBy ours xs → AreBy ours ys → AreBy ours (xs ++ ys)
by-append ours [] ys a b = b
by-append ours (x ∷ xs) ys a b = (a.0, by-append ours xs ys a.1 b)

module _ {S K : Type 0} (f : Simulation Message S K Note) where
  pub done-append : (xs ys : List Step) (v : World Message S) → done_by f (xs ++ ys) v ≡ done_by f ys (done_by f xs v)
  done-append [] ys v = refl
  done-append (x ∷ xs) ys v = done-append xs ys _

  pub are-done-append : (xs ys : List Step) (v : World Message S) → AreDone f xs v → AreDone f ys (done_by f xs v) → AreDone f (xs ++ ys) v
  are-done-append [] ys v a b = b
  are-done-append (x ∷ xs) ys v a b =
      let e = step-does f (λ p. true) x v a.0 in
      (a.0, are-done-append xs ys (step f x v) a.1 (subst (λ z. AreDone f ys (done_by f xs z)) (sym e) b))

module _ {S K : Type 0} {r : Rules Message S K Note} {number end : S → ℕ} {is_placed : S → Type 0} {x : Setting S} {owners : List ℕ} {V : S → Message → Type 0} {groups g seen : ℕ} {last : List Step}
    {h : Held S K} (old : Holds r number end is_placed x owners V groups g seen last h) (L : Laws (simulation_of r x)) (new : Held S K) (did : List Word)
    (words : new.flow.words ≡ h.flow.words ++ did) (by : AreBy (is_of owners g) (steps_told did)) where
  -- what the group had in hand when its block began, and has now
  abbrev begun : World Message S
  begun = in_hand (simulation_of r x) seen (world_after (simulation_of r x) last)

  abbrev now : World Message S
  now = done_by (simulation_of r x) (steps_told h.flow.words) begun

  -- the group is safe after all that it did
  safe-after : AreDone (simulation_of r x) (steps_told did) now → IsSafeGroup (simulation_of r x) (is_of owners g) seen (done_by (simulation_of r x) (steps_told did) now)
  safe-after done =
      subst (λ z. IsSafeGroup (simulation_of r x) (is_of owners g) seen z) (run-done (simulation_of r x) (is_of owners g) (steps_told did) now done)
      (group-safe (simulation_of r x) L (is_of owners g) seen (steps_told did) now old.safe by done)

  told : steps_told new.flow.words ≡ steps_told h.flow.words ++ steps_told did
  told = ap steps_told words ∙ told-append h.flow.words did

  ends : done_by (simulation_of r x) (steps_told new.flow.words) begun ≡ done_by (simulation_of r x) (steps_told did) now
  ends = ap (λ xs. done_by (simulation_of r x) xs begun) told ∙ done-append (simulation_of r x) (steps_told h.flow.words) (steps_told did) begun

  -- what the group keeps
  pub holds-worked : ((p : ℕ) → is_ours new.members p ≡ is_ours h.members p) → AreDone (simulation_of r x) (steps_told did) now →
      StandsForGroup r V x (done_by (simulation_of r x) (steps_told did) now) new → Holds r number end is_placed x owners V groups g seen last new
  holds-worked members done stands =
      let f = simulation_of r x in
      record {
        laid = old.laid;
        grouped = old.grouped;
        number_is = old.number_is;
        ours = λ p. members p ∙ old.ours p;
        by = subst (λ xs. AreBy (is_of owners g) xs) (sym told) (by-append (is_of owners g) (steps_told h.flow.words) (steps_told did) old.by by);
        enabled = subst (λ xs. AreDone f xs begun) (sym told) (are-done-append f (steps_told h.flow.words) (steps_told did) begun old.enabled done);
        stands = subst (λ z. StandsForGroup r V x z new) (sym ends) stands;
        safe = subst (λ z. IsSafeGroup f (is_of owners g) seen z) (sym ends) (safe-after done);
      }

  -- what was done
  pub went-on : AreDone (simulation_of r x) (steps_told did) now → (gone : ℕ) →
      Went (simulation_of r x) owners did (record { number = g; held = h; last = last; seen = seen; gone = gone }) (record { number = g; held = new; last = last; seen = seen; gone = gone })
  went-on done gone = record { words = words; by = by; enabled = done; ends = ends; others = refl }

-- one call after another
pub went-both : {S K : Type 0} (f : Simulation Message S K Note) (owners : List ℕ) (did more : List Word) (h mid k : GroupState S K) → Went f owners did h mid → Went f owners more mid k → Went f owners (did ++ more) h k
went-both f owners did more h mid k a b =
    let t = told-append did more in
    let same : mid.number ≡ h.number = ap (λ (z : GroupState _ _). z.number) a.others in
    record {
      words = b.words ∙ (ap (λ ds. ds ++ more) a.words ∙ append_assoc h.held.flow.words did more);
      by = subst (λ xs. AreBy (is_of owners h.number) xs) (sym t) (by-append (is_of owners h.number) (steps_told did) (steps_told more) a.by (subst (λ n. AreBy (is_of owners n) (steps_told more)) same b.by));
      enabled = subst (λ xs. AreDone f xs (in_group f h)) (sym t) (are-done-append f (steps_told did) (steps_told more) (in_group f h) a.enabled (subst (λ z. AreDone f (steps_told more) z) a.ends b.enabled));
      ends = b.ends ∙ (ap (done_by f (steps_told more)) a.ends ∙ (sym (done-append f (steps_told did) (steps_told more) (in_group f h)) ∙ ap (λ xs. done_by f xs (in_group f h)) (sym t)));
      others = b.others ∙ ap (λ (z : GroupState _ _). record z { held = k.held }) a.others;
    }

pub went-nowhere : {S K : Type 0} (f : Simulation Message S K Note) (owners : List ℕ) (h k : GroupState S K) → k.held.flow.words ≡ h.held.flow.words → k ≡ record h { held = k.held } → Went f owners [] h k
went-nowhere f owners h k words others = record {
  words = words ∙ sym (append-nil h.held.flow.words);
  by = tt;
  enabled = tt;
  ends =
      ap (λ (z : GroupState _ _). done_by f (steps_told k.held.flow.words) (before_block f z)) others ∙ ap (λ ds. done_by f (steps_told ds) (before_block f h)) words;
  others = others;
}
