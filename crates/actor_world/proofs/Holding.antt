-- What one step leaves, by its answer; and what is held when one process is another.
use Rattle.std.proofs.Common.{◌≡◌, ℕ, ◌<◌, ◌⊎◌, inl, inr, true, false, List, map, length, get_or, slice_get, Some, Ok, Err, refl, sym, ap, ◌∙◌, subst, arith, eq-eqb, ne_eqb, set, lt-ltb, Option, None, IsSome, is_some, option_map, get_or-set_same, get_or-set_other, length-set}
use Rattle.std.proofs.Math.Seq.{map-set_same}
use Rattle.std.proofs.lemmas.Bool.{cases_eq, false≢true}
use Rattle.std.proofs.lemmas.List.{length-map, map-set}
use Rattle.std.proofs.lemmas.Option.{slice_get-get_or, get_or_from_slice_get, slice_get_within, slice_get_read, slice_get-map}
use Rattle.vlink.specs.declared.message.Message.{Message}
use Rattle.vlink.specs.declared.note.Note.{Note}
use Rattle.virtual_time.specs.Law.{Rules, Part, next_of, Simulation, put, World, start, run, is_enabled, effect, with_part}
use Rattle.virtual_time.specs.declared.step.Step.{Step}
use Rattle.virtual_time.specs.declared.step.Step.TheVariants.{Take, Arrive, Run, Post, Gvt, Commit}
use Rattle.reverse.specs.Setting.{simulation_of}
use Rattle.process_queues.specs.Queues.{Queues, InHand, StandsFor}
use Rattle.actor_world.specs.declared.done.Done.TheVariants.{Did, NotEnabled}
use Rattle.actor_world.specs.declared.fault.StepFault.TheVariants.{OutOfMemory, Exhausted}
use Rattle.actor_world.specs.Worlds.{Holdings, StandsForWorld, HoldsTheSame, IsExhausted, AtEachWorld}
use Rattle.actor_world.specs.Stepping.{IsStepped}

pub some-is : {A : Type 0} (o : Option A) → IsSome o → is_some o ≡ true
some-is (Some x) h = refl
some-is None h = cc

-- an exhausted step is enabled
exhausted-enabled : {S K : Type 0} (f : Simulation Message S K Note) (x : Step) (w : World Message S) → IsExhausted f x w → is_enabled f x w ≡ true
unfolding is_enabled
exhausted-enabled f (Run p) w d = rw (lt-ltb p f.processes d.0) (some-is (next_of f.rules.order (w.parts p)) d.1)
exhausted-enabled f (Take p i) w d = absurd d
exhausted-enabled f (Arrive p) w d = absurd d
exhausted-enabled f (Post p) w d = absurd d
exhausted-enabled f Gvt w d = absurd d
exhausted-enabled f (Commit p) w d = absurd d

module _ {S K : Type 0} (r : Rules Message S K Note) (number end : S → ℕ) (is_placed : S → Type 0) (is_value : S → Message → Type 0) where
  -- no numbers are wanting
  abbrev pub HasNumbers : Step → Holdings S K → Type 0
  HasNumbers x old = AtEachWorld r number end is_placed is_value old (λ f w. IsExhausted f x w → ⊥)

  pub when-did : (x : Step) (old new : Holdings S K) → HasNumbers x old →
      AtEachWorld r number end is_placed is_value old (λ f w. (is_enabled f x w ≡ true) × StandsForWorld f is_value (effect f x w) new) →
      IsStepped r number end is_placed is_value x old new (Ok Did)
  when-did x old new n h = record {
    did = λ _. h;
    not_enabled = λ e. absurd cc;
    unchanged = λ n. absurd (n refl);
    known = λ e. cc;
    memory = λ e. absurd cc;
    exhausted = λ y laid steps k. (λ e. absurd cc, λ d. absurd (n y laid steps k d));
  }

  pub when-not_enabled : (x : Step) (old new : Holdings S K) →
      AtEachWorld r number end is_placed is_value old (λ f w. is_enabled f x w ≡ false) → HoldsTheSame old new →
      IsStepped r number end is_placed is_value x old new (Ok NotEnabled)
  when-not_enabled x old new h s = record {
    did = λ e. absurd cc;
    not_enabled = λ _. h;
    unchanged = λ _. s;
    known = λ e. cc;
    memory = λ e. absurd cc;
    exhausted = λ y laid steps k.
        let f = simulation_of r y in
        let w = run f steps (start f) in (
          λ e. absurd cc,
          λ d. absurd (false≢true (sym (h y laid steps k) ∙ exhausted-enabled f x w d)),
        );
  }

  pub when-no_memory : (x : Step) (old new : Holdings S K) → HasNumbers x old →
      AtEachWorld r number end is_placed is_value old (λ f w. is_enabled f x w ≡ true) → HoldsTheSame old new →
      IsStepped r number end is_placed is_value x old new (Err OutOfMemory)
  when-no_memory x old new n h s = record {
    did = λ e. absurd cc;
    not_enabled = λ e. absurd cc;
    unchanged = λ _. s;
    known = λ e. cc;
    memory = λ _. h;
    exhausted = λ y laid steps k. (λ e. absurd cc, λ d. absurd (n y laid steps k d));
  }

  pub when-exhausted : (x : Step) (old new : Holdings S K) →
      AtEachWorld r number end is_placed is_value old (λ f w. IsExhausted f x w) → HoldsTheSame old new →
      IsStepped r number end is_placed is_value x old new (Err Exhausted)
  when-exhausted x old new h s = record {
    did = λ e. absurd cc;
    not_enabled = λ e. absurd cc;
    unchanged = λ _. s;
    known = λ e. cc;
    memory = λ e. absurd cc;
    exhausted = λ y laid steps k. (λ e. h y laid steps k, λ d. refl);
  }

pub the_same : {S K : Type 0} (held : Holdings S K) → HoldsTheSame held held
the_same held = record { processes = refl; boxes = refl; mail = λ p. refl; floors = refl; gvt = refl; until = refl }

-- the processes hold the same, and so does all
pub the_same-when : {S K : Type 0} (held : Holdings S K) (ps : List (Queues S K)) → ps ≡ held.processes →
    HoldsTheSame held (record { processes = ps; mail = held.mail; floors = held.floors; gvt = held.gvt; until = held.until })
the_same-when held ps e = record { processes = e; boxes = refl; mail = λ p. refl; floors = refl; gvt = refl; until = refl }

-- the queues of a process, and of all when one process is another, with other queues or with the same
pub queues-at : {S K : Type 0} (vs : List (InHand S K)) (p i : ℕ) (v : InHand S K) → i ≡ p → p < length (map (λ (u : InHand S K). u.queues) vs) →
    v ≡ get_or vs i v → slice_get (map (λ (u : InHand S K). u.queues) vs) p ≡ Some v.queues
queues-at {S} {K} vs p i v d h e =
    let k : i < length vs = let a = length-map vs (λ (u : InHand S K). u.queues) in omega arith in
    let a : slice_get vs i ≡ Some v = slice_get_read vs (length vs) i v refl k e in
    let b : slice_get vs p ≡ Some v = subst (λ j. slice_get vs j ≡ Some v) d a in
    slice_get-map (λ (u : InHand S K). u.queues) vs p ∙ ap (option_map (λ (u : InHand S K). u.queues)) b

pub queues-set : {S K : Type 0} (vs : List (InHand S K)) (p i : ℕ) (v : InHand S K) → i ≡ p →
    map (λ (u : InHand S K). u.queues) (set vs i v) ≡ set (map (λ (u : InHand S K). u.queues) vs) p v.queues
queues-set {S} {K} vs p i v d =
    map-set (λ (u : InHand S K). u.queues) vs i v ∙ ap (λ j. set (map (λ (u : InHand S K). u.queues) vs) j v.queues) d

pub queues-same : {S K : Type 0} (vs : List (InHand S K)) (i : ℕ) (u v : InHand S K) → u ≡ get_or vs i u → v.queues ≡ u.queues →
    map (λ (z : InHand S K). z.queues) (set vs i v) ≡ map (λ (z : InHand S K). z.queues) vs
queues-same {S} {K} vs i u v e d = map-set_same (λ (z : InHand S K). z.queues) vs i v u (d ∙ ap (λ (z : InHand S K). z.queues) e)

-- what was written is read
pub read-written : {S K : Type 0} (vs : List (InHand S K)) (p i j : ℕ) (u v : InHand S K) → i ≡ p → j ≡ p → p < length (map (λ (z : InHand S K). z.queues) vs) →
    u ≡ get_or (set vs i v) j u → u ≡ v
read-written {S} {K} vs p i j u v d e h k =
    let a = length-map vs (λ (z : InHand S K). z.queues) in
    k ∙ (ap (λ n. get_or (set vs i v) n u) (e ∙ sym d) ∙ get_or-set_same vs i v u (omega arith))

-- a place of a list that has a new element
set_here : {X : Type 0} (xs : List X) (p : ℕ) (x y : X) → p < length xs → slice_get (set xs p x) p ≡ Some y → x ≡ y
set_here xs p x y i e = sym (get_or-set_same xs p x x i) ∙ get_or_from_slice_get (set xs p x) p y x e

set_there : {X : Type 0} (xs : List X) (p k : ℕ) (x y : X) → (k ≡ p → ⊥) → slice_get (set xs p x) k ≡ Some y → slice_get xs k ≡ Some y
set_there xs p k x y n e =
    let i : k < length xs = let a = slice_get_within (set xs p x) k y e in let b = length-set xs p x in omega arith in
    let a : get_or xs k y ≡ y = sym (get_or-set_other xs p k x y n) ∙ get_or_from_slice_get (set xs p x) k y y e in
    slice_get-get_or xs k y i ∙ ap (λ z. Some z) a

-- what holds of the new element and of each other one holds of each
each-set : {X : Type 0} (P : ℕ → X → Type 0) (xs : List X) (p : ℕ) (x : X) → p < length xs → P p x →
    ((k : ℕ) (y : X) → (k ≡ p → ⊥) → slice_get xs k ≡ Some y → P k y) → (k : ℕ) (y : X) → slice_get (set xs p x) k ≡ Some y → P k y
each-set P xs p x i here there k y e = go (cases_eq k p)
  where
    go : (k ≡ p) ⊎ (k ≡ p → ⊥) → P k y
    go (inl d) = subst (λ j. P j y) (sym d) (subst (P p) (set_here xs p x y i (subst (λ j. slice_get (set xs p x) j ≡ Some y) d e)) here)
    go (inr n) = there k y n (set_there xs p k x y n e)

module _ {S K : Type 0} (f : Simulation Message S K Note) (is_value : S → Message → Type 0) (w : World Message S) (held : Holdings S K) (h : StandsForWorld f is_value w held) where
  pub process-within : (p : ℕ) (q : Queues S K) → slice_get held.processes p ≡ Some q → p < f.processes
  process-within p q e = let a = slice_get_within held.processes p q e in let b = h.count in omega arith

  -- process p is another part, and so are its queues
  pub parts-set : (p : ℕ) → p < f.processes → (part : Part Message S) (q : Queues S K) → StandsFor f.rules is_value (f.opening p) part q →
      (k : ℕ) (o : Queues S K) → slice_get (set held.processes p q) k ≡ Some o → StandsFor f.rules is_value (f.opening k) (put p part w.parts k) o
  parts-set p i part q s = each-set (λ k o. StandsFor f.rules is_value (f.opening k) (put p part w.parts k) o) held.processes p q (let b = h.count in omega arith)
      (rw (eq-eqb p p refl) s) (λ k o n e. rw (ne_eqb k p n) (h.parts k o e))

  -- no row has left
  pub whole-set : (p : ℕ) → p < f.processes → (q : Queues S K) → q.left ≡ 0 → (k : ℕ) (o : Queues S K) → slice_get (set held.processes p q) k ≡ Some o → o.left ≡ 0
  whole-set p i q none = each-set (λ k o. o.left ≡ 0) held.processes p q (let b = h.count in omega arith) none (λ k o n e. h.whole k o e)

  pub with_part-stands : (p : ℕ) → p < f.processes → (part : Part Message S) (q : Queues S K) → StandsFor f.rules is_value (f.opening p) part q → q.left ≡ 0 →
      (ps : List (Queues S K)) → ps ≡ set held.processes p q →
      StandsForWorld f is_value (with_part f p part w) (record { processes = ps; mail = held.mail; floors = held.floors; gvt = held.gvt; until = held.until })
  with_part-stands p i part q s none ps e = record {
    count = ap length e ∙ (length-set held.processes p q ∙ h.count);
    parts = λ k o d. parts-set p i part q s k o (subst (λ z. slice_get z k ≡ Some o) e d);
    whole = λ k o d. whole-set p i q none k o (subst (λ z. slice_get z k ≡ Some o) e d);
    boxes = h.boxes;
    mail = h.mail;
    floor_count = h.floor_count;
    floors = h.floors;
    gvt = h.gvt;
    until = h.until;
  }
