-- Where each message that is handled is earlier than a limit, and no letter waits.
use Rattle.std.proofs.Common.{◌≡◌, ℕ, ◌+◌, ◌≤◌, Bool, List, [], ◌∷◌, ◌++◌, length, ap, ◌∙◌, arith}
use Rattle.vlink.specs.declared.message.Message.{Message}
use Rattle.vlink.specs.declared.note.Note.{Note}
use Rattle.virtual_time.specs.Law.{Simulation, World, done_by}
use Rattle.virtual_time.specs.declared.step.Step.{Step}
use Rattle.virtual_time.specs.declared.step.Step.TheVariants.{Take, Arrive, Run, Post, Gvt, Commit}
use Rattle.group_queues.specs.declared.block.Word.{Word}
use Rattle.group_queues.specs.declared.block.Word.TheVariants.{Ran, Home, Taken, Arrived, Committed}
use Rattle.group_queues.specs.Block.{AddsLetters, AddsRun, commits_in, runs_in, steps_told}
use Rattle.group_hand.proofs.Adding.{runs-append}
use Rattle.group_exchange.specs.Effects.{AreTimely, IsTimely}

module _ {S K : Type 0} (f : Simulation Message S K Note) (ours : ℕ → Bool) where
  pub timely-append : (limit : ℕ) (xs ys : List Step) (v : World Message S) → AreTimely f limit ours xs v → AreTimely f limit ours ys (done_by f xs v) → AreTimely f limit ours (xs ++ ys) v
  timely-append limit [] ys v a b = b
  timely-append limit (x ∷ xs) ys v a b = (a.0, timely-append limit xs ys (done_by f (x ∷ []) v) a.1 b)

  -- no message is handled
  pub timely-letters : (limit : ℕ) (ds : List Word) (v : World Message S) → runs_in ds ≡ 0 → AreTimely f limit ours (steps_told ds) v
  timely-letters limit [] v e = tt
  timely-letters limit (Ran p ∷ ds) v e = absurd (omega arith)
  timely-letters limit (Home p ∷ ds) v e = (tt, (tt, timely-letters limit ds _ (omega (arith, e))))
  timely-letters limit (Taken p ∷ ds) v e = (tt, timely-letters limit ds _ (omega (arith, e)))
  timely-letters limit (Arrived p ∷ ds) v e = (tt, (tt, timely-letters limit ds _ (omega (arith, e))))
  timely-letters limit (Committed p ∷ ds) v e = (tt, timely-letters limit ds _ (omega (arith, e)))

  -- one is, and then none
  pub timely-run : (limit p : ℕ) (ds : List Word) (v : World Message S) → IsTimely f limit ours (Run p) v → runs_in ds ≡ 0 → AreTimely f limit ours (steps_told (Ran p ∷ ds)) v
  timely-run limit p ds v t e = (t, (tt, timely-letters limit ds _ e))

  one-weaker : (low high : ℕ) → low ≤ high → (x : Step) (v : World Message S) → IsTimely f low ours x v → IsTimely f high ours x v
  one-weaker low high l (Take p i) v t = tt
  one-weaker low high l (Arrive p) v t = tt
  one-weaker low high l (Run p) v t = ((t.0.0, t.0.1, (let k = t.0.2 in omega arith), t.0.3), t.1)
  one-weaker low high l (Post p) v t = tt
  one-weaker low high l Gvt v t = tt
  one-weaker low high l (Commit p) v t = tt

  pub timely-weaker : (low high : ℕ) → low ≤ high → (xs : List Step) (v : World Message S) → AreTimely f low ours xs v → AreTimely f high ours xs v
  timely-weaker low high l [] v t = tt
  timely-weaker low high l (x ∷ xs) v t = (one-weaker low high l x v t.0, timely-weaker low high l xs _ t.1)

-- where each word is of a committed event, no message is handled
runs-within : (ds : List Word) → runs_in ds + commits_in ds ≤ length ds
runs-within [] = omega arith
runs-within (Ran p ∷ ds) = omega (arith, runs-within ds)
runs-within (Home p ∷ ds) = omega (arith, runs-within ds)
runs-within (Taken p ∷ ds) = omega (arith, runs-within ds)
runs-within (Arrived p ∷ ds) = omega (arith, runs-within ds)
runs-within (Committed p ∷ ds) = omega (arith, runs-within ds)

pub runs-commits : (ds : List Word) → commits_in ds ≡ length ds → runs_in ds ≡ 0
runs-commits ds e = omega (arith, runs-within ds, e)

-- how many messages were handled by then
pub runs-letters : (old new : List Word) → AddsLetters old new → runs_in new ≡ runs_in old
runs-letters old new a =
    let b = ap runs_in a.words ∙ runs-append old a.added in
    let z = a.no_run in
    omega arith

pub runs-run : (p : ℕ) (old new : List Word) → AddsRun p old new → runs_in new ≡ runs_in old + 1
runs-run p old new a =
    let b = ap runs_in a.words ∙ runs-append old (Ran p ∷ a.added) in
    let z = a.no_run in
    omega arith

-- so many of these words are of handled messages
pub runs-did : (old new did : List Word) (count : ℕ) → new ≡ old ++ did → runs_in new ≡ runs_in old + count → runs_in did ≡ count
runs-did old new did count e n = let b = ap runs_in e ∙ runs-append old did in omega arith
