-- What is held of a world of a network, and what a step makes of it.
use Rattle.std.proofs.Common.{◌≡◌, ◌≢◌, ◌↔◌, ◌++◌, ℕ, ◌<◌, ◌≤◌, inl, inr, true, List, [], ◌∷◌, Result, Ok, Err, OnOk, OnErr, IfOk, length, refl, sym, ap, subst, arith, is_ok, Option, Some, None, IfSome, IsNone}
use Rattle.std.proofs.lemmas.Bool.{false≢true, cases_lt}
use Rattle.virtual_time.specs.Law.{Simulation, IsLeft, undo_all, Safe, World, start, step, run, is_enabled}
use Rattle.virtual_time.specs.declared.step.Step.{Step}
use Rattle.reverse.specs.Setting.{IsLaidOut}
use Rattle.network.specs.Words.{Plan}
use Rattle.nodes.specs.declared.node.NodeRecord.{NodeRecord}
use Rattle.nodes.specs.Words.{NodeState, IsNodeValue, opening, IsPlaced, simulation_of}
use Rattle.seqsim.specs.Networks.{setting_of}
use Rattle.actor_world.specs.declared.done.Done.{Done}
use Rattle.actor_world.specs.declared.done.Done.TheVariants.{Did}
use Rattle.actor_world.specs.declared.fault.StepFault.{StepFault}
use Rattle.actor_world.specs.Worlds.{Holdings, StandsForWorld, HoldsTheSame, AtEachWorld}
use Rattle.seqsim.specs.Committed.{after}
use Rattle.timewarp.specs.Networks.{NetworkWorld, IsAfter}
use Rattle.actor_world.proofs.Answering.{stands-same}

-- the network with this plan, of which this is held
abbrev pub world : Plan → Holdings NodeState NodeRecord → NetworkWorld
world plan held = record { plan = plan; held = held }

-- nodes and offers of the network are laid out as a world of actors asks
abbrev pub IsLayout : Plan → Type 0
IsLayout plan = IsLaidOut (simulation_of plan).rules (λ s. s.sender.number) (λ s. s.sender.until) IsPlaced (setting_of plan)

-- one step more
run-push : {M S K N : Type 0} (f : Simulation M S K N) (xs : List Step) (x : Step) (w : World M S) → run f (xs ++ x ∷ []) w ≡ step f x (run f xs w)
unfolding run
run-push f [] x w = refl
run-push f (y ∷ ys) x w = run-push f ys x (step f y w)

-- what stands for the world that a step makes is the world after that step too
stepped : (plan : Plan) (held : Holdings NodeState NodeRecord) (steps : List Step) (x : Step) →
    StandsForWorld (simulation_of plan) IsNodeValue (step (simulation_of plan) x (after plan steps)) held → IsAfter (world plan held) (steps ++ x ∷ [])
stepped plan held steps x h =
    subst (λ w. StandsForWorld (simulation_of plan) IsNodeValue w held) (sym (run-push (simulation_of plan) steps x (start (simulation_of plan)))) h

-- where a step changes nothing, what is held is the world after that step too
pub stepped-same : (plan : Plan) (held : Holdings NodeState NodeRecord) (steps : List Step) (x : Step) →
    step (simulation_of plan) x (after plan steps) ≡ after plan steps → IsAfter (world plan held) steps → IsAfter (world plan held) (steps ++ x ∷ [])
stepped-same plan held steps x e h =
    stepped plan held steps x (subst (λ w. StandsForWorld (simulation_of plan) IsNodeValue w held) (sym e) h)

module _ (plan : Plan) (layout : IsLayout plan) (x : Step) (old new : Holdings NodeState NodeRecord) where
  -- what the step of the actors promises of what is held afterwards
  abbrev pub Stands : Result Done StepFault → Type 0
  Stands answer =
      OnOk answer (AtEachWorld (simulation_of plan).rules (λ s. s.sender.number) (λ s. s.sender.until) IsPlaced IsNodeValue old
      (λ f w. StandsForWorld f IsNodeValue (step f x w) new))

  pub step-after : (answer : Result Done StepFault) → Stands answer → OnOk answer ((steps : List Step) → IsAfter (world plan old) steps → IsAfter (world plan new) (steps ++ x ∷ []))
  step-after (Ok done) s = λ steps h. stepped plan new steps x (s (setting_of plan) layout steps h)
  step-after (Err fault) s = tt

  pub step-refused : (answer : Result Done StepFault) → (answer ≢ Ok Did → HoldsTheSame old new) → OnErr answer ((steps : List Step) → IsAfter (world plan old) steps → IsAfter (world plan new) steps)
  step-refused (Ok done) h = tt
  step-refused (Err fault) h = λ steps i. stands-same (simulation_of plan) IsNodeValue (after plan steps) old new (h (λ e. absurd (false≢true (ap is_ok e)))) i

  -- after the step too it is the world after some steps
  pub step-some : (answer : Result Done StepFault) → Stands answer → (answer ≢ Ok Did → HoldsTheSame old new) →
      (steps : List Step) × IsAfter (world plan old) steps → (steps : List Step) × IsAfter (world plan new) steps
  step-some (Ok done) s h w = (w.0 ++ x ∷ [], stepped plan new w.0 x (s (setting_of plan) layout w.0 w.1))
  step-some (Err fault) s h w = (w.0, stands-same (simulation_of plan) IsNodeValue (after plan w.0) old new (h (λ e. absurd (false≢true (ap is_ok e)))) w.1)

  pub step-enabled : (answer : Result Done StepFault) →
      IfOk answer (λ done. AtEachWorld (simulation_of plan).rules (λ s. s.sender.number) (λ s. s.sender.until) IsPlaced IsNodeValue old
      (λ f w. (done ≡ Did) ↔ (is_enabled f x w ≡ true))) →
      IfOk answer (λ done. (steps : List Step) → IsAfter (world plan old) steps → (done ≡ Did) ↔ (is_enabled (simulation_of plan) x (after plan steps) ≡ true))
  step-enabled (Ok done) s = λ steps h. s (setting_of plan) layout steps h
  step-enabled (Err fault) s = tt

-- where a node is given back, there is such a process
pub within : (held : Holdings NodeState NodeRecord) (p : ℕ) (plan : Plan) → length held.processes ≡ (simulation_of plan).processes → (node : Option NodeState) →
    (length held.processes ≤ p → IsNone node) → node ≢ None → p < (simulation_of plan).processes
within held p plan e (Some s) h d = elim (cases_lt p (length held.processes)) [ inl i ↦ omega arith | inr i ↦ absurd (false≢true (sym (h i))) ]
within held p plan e None h d = absurd (d refl)

module _ (plan : Plan) (layout : IsLayout plan) (held : Holdings NodeState NodeRecord) (p : ℕ) where
  -- the state that is left when all done events are undone
  pub undone-at : (node : Option NodeState) →
      IfSome node (λ s. AtEachWorld (simulation_of plan).rules (λ s. s.sender.number) (λ s. s.sender.until) IsPlaced IsNodeValue held
      (λ f w. s ≡ undo_all f.rules (f.opening p) (w.parts p))) →
      IfSome node (λ s. (steps : List Step) → IsAfter (world plan held) steps → s ≡ undo_all (simulation_of plan).rules (opening plan p) ((after plan steps).parts p))
  undone-at (Some s) h = λ steps i. h (setting_of plan) layout steps i
  undone-at None h = tt

  -- is that of the one-thread run after just the committed ones
  pub left-at : ((steps : List Step) → Safe (simulation_of plan) (after plan steps)) → (node : Option NodeState) → (node ≢ None → p < (simulation_of plan).processes) →
      IfSome node (λ s. AtEachWorld (simulation_of plan).rules (λ s. s.sender.number) (λ s. s.sender.until) IsPlaced IsNodeValue held
      (λ f w. s ≡ undo_all f.rules (f.opening p) (w.parts p))) →
      IfSome node (λ s. (steps : List Step) → IsAfter (world plan held) steps → IsLeft (simulation_of plan) p (length ((after plan steps).parts p).committed) s)
  left-at safe (Some s) i h = λ steps k.
      subst (IsLeft (simulation_of plan) p (length ((after plan steps).parts p).committed)) (sym (h (setting_of plan) layout steps k))
      ((safe steps).left p (i (λ e. cc)))
  left-at safe None i h = tt
