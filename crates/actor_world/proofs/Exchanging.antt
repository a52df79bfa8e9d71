-- The steps at which a process and the world exchange letters, Take and Post; and Gvt.
use Rattle.std.proofs.Common.{◌≡◌, ℕ, ◌<◌, ◌≤◌, inl, inr, ◌++◌, min, true, false, All, List, [], ◌∷◌, length, slice_get, remove, Some, None, Result, Ok, Err, refl, sym, ap, ◌∙◌, subst, arith, option_map, set, lt-ltb, le-ltb, length-set}
use Rattle.std.proofs.lemmas.List.Elements.{All-nil, All-cons}
use Rattle.std.proofs.lemmas.Option.{slice_get_cases, slice_get_within}
use Rattle.vlink.specs.declared.message.Message.{Message}
use Rattle.vlink.specs.declared.note.Note.{Note}
use Rattle.vlink.specs.Letters.{Letter}
use Rattle.virtual_time.specs.Law.{Rules, IsOrder, IsNamed, received_by, Part, delivered, emptied, floor_of, put, Simulation, Laws, World, start, run, is_enabled, effect, taken, gvt_over}
use Rattle.virtual_time.specs.declared.step.Step.TheVariants.{Take, Post, Gvt}
use Rattle.virtual_time.proofs.Letters.{named-head}
use Rattle.virtual_time.proofs.Reading.{reached-keeps}
use Rattle.virtual_time.proofs.Kept.{put_elim, start-kept}
use Rattle.virtual_time.proofs.KeptRun.{run-kept}
use Rattle.reverse.specs.Setting.{Setting, simulation_of, IsLaidOut}
use Rattle.antimessages.specs.Letters.{Store}
use Rattle.antimessages.specs.Mailing.{letters_for}
use Rattle.process_queues.specs.declared.fault.ProcFault.TheVariants as process
use Rattle.process_queues.specs.Past.{Past}
use Rattle.process_queues.specs.Queues.{Queues, StandsFor, Does}
use Rattle.actor_world.specs.declared.done.Done.{Done}
use Rattle.actor_world.specs.declared.done.Done.TheVariants.{Did, NotEnabled}
use Rattle.actor_world.specs.declared.fault.StepFault.{StepFault}
use Rattle.actor_world.specs.Faults.{fault_of}
use Rattle.actor_world.specs.Worlds.{Holdings, StandsForWorld, AtEachWorld, IsAWorld}
use Rattle.actor_world.specs.Stepping.{IsStepped}
use Rattle.actor_world.proofs.Holding.{process-within, parts-set, whole-set, when-did, when-not_enabled, when-no_memory, the_same, the_same-when}

-- no letter at this place: there are not so many
none-beyond : {X : Type 0} (xs : List X) (i : ℕ) → slice_get xs i ≡ None → length xs ≤ i
none-beyond xs i e = elim (slice_get_cases xs i).1 [ inl h ↦ (let d = h.2 in absurd cc) | inr h ↦ h.0 ]

module _ {S K : Type 0} (f : Simulation Message S K Note) (is_value : S → Message → Type 0) (w : World Message S) (old : Holdings S K) (h : StandsForWorld f is_value w old)
    (p : ℕ) (q : Queues S K) (here : slice_get old.processes p ≡ Some q) where
  part-here : StandsFor f.rules is_value (f.opening p) (w.parts p) q
  part-here = h.parts p q here

  within : p < f.processes
  within = process-within f is_value w old h p q here

  pub take-enabled : (i : ℕ) (l : Letter) → slice_get (letters_for p old.mail) i ≡ Some l → is_enabled f (Take p i) w ≡ true
  unfolding is_enabled
  take-enabled i l e =
      rw (lt-ltb p f.processes within, lt-ltb i (length (w.mail p)) (subst (λ ls. i < length ls) (h.mail p within) (slice_get_within (letters_for p old.mail) i l e))) refl

  module _ (q' : Queues S K) (ps : List (Queues S K)) (ps-is : ps ≡ set old.processes p q') (mail : List Store) (boxes : length mail ≡ length old.mail)
      (floors : List ℕ) (floor_count : length floors ≡ length old.floors) (floors_others : (k : ℕ) → (k ≡ p → ⊥) → slice_get floors k ≡ slice_get old.floors k)
      (until : ℕ) (until-is : until ≡ old.until) where
    -- what the process is, what mail there is and what floor the process has are another, and all else is as it was
    exchanged : (part : Part Message S) → StandsFor f.rules is_value (f.opening p) part q' → q'.left ≡ q.left → (boxed : ℕ → List Letter) → ((k : ℕ) → k < f.processes → letters_for k mail ≡ boxed k) →
        (floor : ℕ) → slice_get floors p ≡ Some floor →
        StandsForWorld f is_value (record { parts = put p part w.parts; mail = boxed; floors = put p floor w.floors; gvt = w.gvt })
        (record { processes = ps; mail = mail; floors = floors; gvt = old.gvt; until = until })
    exchanged part stands kept boxed letters floor here' = record {
      count = ap length ps-is ∙ (length-set old.processes p q' ∙ h.count);
      parts = λ k o d. parts-set f is_value w old h p within part q' stands k o (subst (λ z. slice_get z k ≡ Some o) ps-is d);
      whole = λ k o d. whole-set f is_value w old h p within q' (kept ∙ h.whole p q here) k o (subst (λ z. slice_get z k ≡ Some o) ps-is d);
      boxes = boxes ∙ h.boxes;
      mail = letters;
      floor_count = floor_count ∙ h.floor_count;
      floors = put_elim (λ k t. k < f.processes → slice_get floors k ≡ Some t) p floor w.floors (λ j. here') (λ k n j. floors_others k n ∙ h.floors k j);
      gvt = h.gvt;
      until = until-is ∙ h.until;
    }

    pub took : (i : ℕ) (l : Letter) → slice_get (letters_for p old.mail) i ≡ Some l → Does f.rules is_value (λ opening. delivered l) q q' → q'.left ≡ q.left →
        letters_for p mail ≡ remove (letters_for p old.mail) i → ((k : ℕ) → (k ≡ p → ⊥) → letters_for k mail ≡ letters_for k old.mail) →
        slice_get floors p ≡ option_map (min (f.rules.order.time l.message)) (slice_get old.floors p) →
        StandsForWorld f is_value (effect f (Take p i) w) (record { processes = ps; mail = mail; floors = floors; gvt = old.gvt; until = until })
    unfolding effect
    took i l e does kept left others lowered =
        subst (λ o. StandsForWorld f is_value (taken f p i w o) (record { processes = ps; mail = mail; floors = floors; gvt = old.gvt; until = until }))
        (sym (ap (λ ls. slice_get ls i) (sym (h.mail p within)) ∙ e))
        (exchanged (delivered l (w.parts p)) (does (f.opening p) (w.parts p) part-here) kept _
        (put_elim (λ k ls. k < f.processes → letters_for k mail ≡ ls) p (remove (w.mail p) i) w.mail (λ j. left ∙ ap (λ z. remove z i) (h.mail p within)) (λ k n j. others k n ∙ h.mail k j))
        _ (lowered ∙ ap (option_map (min (f.rules.order.time l.message))) (h.floors p within)))

    pub did-post : Does f.rules is_value (λ opening. emptied) q q' → q'.left ≡ q.left →
        ((k : ℕ) → letters_for k mail ≡ letters_for k old.mail ++ received_by f.rules.order k q.outbox) →
        (floor : ℕ) → floor ≡ floor_of f.rules.order f.until (w.parts p) → slice_get floors p ≡ Some floor →
        StandsForWorld f is_value (effect f (Post p) w) (record { processes = ps; mail = mail; floors = floors; gvt = old.gvt; until = until })
    unfolding effect
    did-post does kept sent floor floor-is here' =
        exchanged (emptied (w.parts p)) (does (f.opening p) (w.parts p) part-here) kept _
        (λ k j. sent k ∙ (ap (λ z. z ++ received_by f.rules.order k q.outbox) (h.mail k j) ∙ ap (λ z. w.mail k ++ received_by f.rules.order k z) part-here.outbox))
        _ (here' ∙ ap (λ z. Some z) floor-is)

  pub post-enabled : is_enabled f (Post p) w ≡ true
  unfolding is_enabled
  post-enabled = lt-ltb p f.processes within

  -- a fact of states that each message keeps is so at the state in hand
  pub in-hand-has : IsOrder f.rules.order → (Good : S → Type 0) → ((s : S) (m : Message) → Good s → Good (f.rules.after s m)) → Good (f.opening p) → Good q.past.state
  in-hand-has O Good stays good =
      subst Good (sym (sym part-here.past.state ∙ part-here.well.state_is))
      (reached-keeps f.rules O Good stays (f.opening p) ((w.parts p).committed ++ (w.parts p).done) good)

take-not : {S K : Type 0} (f : Simulation Message S K Note) (is_value : S → Message → Type 0) (w : World Message S) (old : Holdings S K) → StandsForWorld f is_value w old →
    (p : ℕ) → p < f.processes → (i : ℕ) → slice_get (letters_for p old.mail) i ≡ None → is_enabled f (Take p i) w ≡ false
unfolding is_enabled
take-not f is_value w old h p within i e =
    rw (lt-ltb p f.processes within, le-ltb i (length (w.mail p)) (subst (λ ls. length ls ≤ i) (h.mail p within) (none-beyond (letters_for p old.mail) i e))) refl

-- letters to processes of which there are so many
letters-go : {S K : Type 0} (r : Rules Message S K Note) (O : IsOrder r.order) (n : ℕ) (ls : List Letter) → ((m : Message) → IsNamed r.order m ls → r.order.receiver m < n) →
    All (λ l. r.order.receiver l.message < n) ls
letters-go r O n [] h = All-nil (λ l. r.order.receiver l.message < n)
letters-go r O n (l ∷ ls) h =
    All-cons (λ z. r.order.receiver z.message < n) l ls (h l.message (named-head r.order O l ls)) (letters-go r O n ls (λ m k. h m (let a = k in omega arith)))

module _ {S K : Type 0} (r : Rules Message S K Note) (number end : S → ℕ) (is_placed : S → Type 0) (is_value : S → Message → Type 0)
    (old : Holdings S K) (p : ℕ) (q : Queues S K) (here : slice_get old.processes p ≡ Some q) where
  pub take-refused : (i : ℕ) (l : Letter) → slice_get (letters_for p old.mail) i ≡ Some l → (ps : List (Queues S K)) → ps ≡ old.processes →
      (answer : Result Done StepFault) → answer ≡ Err (fault_of process.OutOfMemory) →
      IsStepped r number end is_placed is_value (Take p i) old (record { processes = ps; mail = old.mail; floors = old.floors; gvt = old.gvt; until = old.until }) answer
  take-refused i l e ps d answer a =
      subst (IsStepped r number end is_placed is_value (Take p i) old _) (sym a)
      (when-no_memory r number end is_placed is_value (Take p i) old _ (λ x laid steps h d. d)
      (λ x laid steps h. take-enabled (simulation_of r x) is_value (run (simulation_of r x) steps (start (simulation_of r x))) old h p q here i l e)
      (the_same-when old ps d))

  module _ (q' : Queues S K) (ps : List (Queues S K)) (ps-is : ps ≡ set old.processes p q') (mail : List Store) (boxes : length mail ≡ length old.mail)
      (floors : List ℕ) (floor_count : length floors ≡ length old.floors) (floors_others : (k : ℕ) → (k ≡ p → ⊥) → slice_get floors k ≡ slice_get old.floors k)
      (until : ℕ) (until-is : until ≡ old.until) where
    pub take-did : (i : ℕ) (l : Letter) → slice_get (letters_for p old.mail) i ≡ Some l → Does r is_value (λ opening. delivered l) q q' → q'.left ≡ q.left →
        letters_for p mail ≡ remove (letters_for p old.mail) i → ((k : ℕ) → (k ≡ p → ⊥) → letters_for k mail ≡ letters_for k old.mail) →
        slice_get floors p ≡ option_map (min (r.order.time l.message)) (slice_get old.floors p) →
        IsStepped r number end is_placed is_value (Take p i) old (record { processes = ps; mail = mail; floors = floors; gvt = old.gvt; until = until }) (Ok Did)
    take-did i l e does kept left others lowered =
        when-did r number end is_placed is_value (Take p i) old _ (λ x laid steps h d. d)
        (λ x laid steps h.
        let f = simulation_of r x in
        let w = run f steps (start f) in (
          take-enabled f is_value w old h p q here i l e,
          took f is_value w old h p q here q' ps ps-is mail boxes floors floor_count floors_others until until-is i l e does kept left others lowered,
        ))

    pub post-did : IsOrder r.order → ((s : S) (m : Message) → end (r.after s m) ≡ end s) → Does r is_value (λ opening. emptied) q q' → q'.left ≡ q.left →
        ((k : ℕ) → letters_for k mail ≡ letters_for k old.mail ++ received_by r.order k q.outbox) → q'.past ≡ q.past →
        (floor : ℕ) → ((opening : S) (part : Part Message S) → StandsFor r is_value opening part q' → floor ≡ floor_of r.order (end q'.past.state) part) →
        slice_get floors p ≡ Some floor →
        IsStepped r number end is_placed is_value (Post p) old (record { processes = ps; mail = mail; floors = floors; gvt = old.gvt; until = until }) (Ok Did)
    post-did O stays does kept sent past floor floor-is here' =
        when-did r number end is_placed is_value (Post p) old _ (λ x laid steps h d. d)
        (λ x laid steps h.
        let f = simulation_of r x in
        let w = run f steps (start f) in
        let k = h.parts p q here in
        let at_end : end q.past.state ≡ x.until =
        in-hand-has f is_value w old h p q here O (λ s. end s ≡ x.until) (λ s m e. stays s m ∙ e) (laid.end_is p (within f is_value w old h p q here)) in
        let floor' = floor-is (f.opening p) (emptied (w.parts p)) (does (f.opening p) (w.parts p) k) in
        let same : floor ≡ floor_of r.order x.until (w.parts p) =
        floor' ∙ ap (λ t. floor_of r.order t (w.parts p)) (ap (λ (z : Past S K). end z.state) past ∙ at_end) in (
          post-enabled f is_value w old h p q here,
          did-post f is_value w old h p q here q' ps ps-is mail boxes floors floor_count floors_others until until-is does kept sent floor same here',
        ))

  pub post-refused : (ps : List (Queues S K)) → ps ≡ old.processes → (mail : List Store) → length mail ≡ length old.mail → ((k : ℕ) → letters_for k mail ≡ letters_for k old.mail) →
      (answer : Result Done StepFault) → answer ≡ Err (fault_of process.OutOfMemory) →
      IsStepped r number end is_placed is_value (Post p) old (record { processes = ps; mail = mail; floors = old.floors; gvt = old.gvt; until = old.until }) answer
  post-refused ps d mail boxes letters answer a =
      subst (IsStepped r number end is_placed is_value (Post p) old _) (sym a)
      (when-no_memory r number end is_placed is_value (Post p) old _ (λ x laid steps h d. d)
      (λ x laid steps h. post-enabled (simulation_of r x) is_value (run (simulation_of r x) steps (start (simulation_of r x))) old h p q here)
      (record { processes = d; boxes = boxes; mail = letters; floors = refl; gvt = refl; until = refl }))

  -- what is in the outbox goes to processes
  pub outbox-goes : ((x : Setting S) → IsLaidOut r number end is_placed x → Laws (simulation_of r x)) → IsAWorld r number end is_placed is_value old →
      All (λ l. r.order.receiver l.message < length old.mail) q.outbox
  outbox-goes laws world =
      let x = world.0 in
      let f = simulation_of r x in
      let L = laws x world.1 in
      let w = run f world.2 (start f) in
      let h = world.3 in
      let k = run-kept f L world.2 (start f) (start-kept f L) in
      let i = within f is_value w old h p q here in
      subst (λ n. All (λ l. r.order.receiver l.message < n) q.outbox) (sym h.boxes)
      (subst (λ ls. All (λ l. r.order.receiver l.message < x.processes) ls) (sym (part-here f is_value w old h p q here).outbox)
      (letters-go r L.order x.processes (w.parts p).outbox (λ m j. ((k.sound p i).outbox_from m j).1)))

module _ {S K : Type 0} (r : Rules Message S K Note) (number end : S → ℕ) (is_placed : S → Type 0) (is_value : S → Message → Type 0) (old : Holdings S K) where
  -- each process has a floor
  pub floors-within : IsAWorld r number end is_placed is_value old → (p : ℕ) → p < length old.processes → p < length old.floors
  floors-within world p there = let a = world.3.floor_count in let b = world.3.count in omega arith

  pub take-none : (p : ℕ) → p < length old.processes → (i : ℕ) → slice_get (letters_for p old.mail) i ≡ None → IsStepped r number end is_placed is_value (Take p i) old old (Ok NotEnabled)
  take-none p there i e =
      when-not_enabled r number end is_placed is_value (Take p i) old old
      (λ x laid steps h. take-not (simulation_of r x) is_value (run (simulation_of r x) steps (start (simulation_of r x))) old h p (let a = h.count in omega arith) i e)
      (the_same old)

  pub gvt-did : (g : ℕ) → AtEachWorld r number end is_placed is_value old (λ f w. g ≡ gvt_over f f.processes w) →
      IsStepped r number end is_placed is_value Gvt old (record { processes = old.processes; mail = old.mail; floors = old.floors; gvt = g; until = old.until }) (Ok Did)
  unfolding is_enabled effect
  gvt-did g gvt =
      when-did r number end is_placed is_value Gvt old _ (λ x laid steps h d. d)
      (λ x laid steps h. (
        refl,
        record { count = h.count; parts = h.parts; whole = h.whole; boxes = h.boxes; mail = h.mail; floor_count = h.floor_count; floors = h.floors; gvt = gvt x laid steps h; until = h.until },
      ))
