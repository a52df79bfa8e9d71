-- What a process does at one go: arrivals, then runs, then commits.
use Rattle.std.proofs.Common.{◌≡◌, ◌≢◌, ◌↔◌, ℕ, ◌+◌, ◌-◌, ◌<◌, ◌≤◌, ◌⊎◌, inl, inr, Bool, true, false, IsTrue, nat_lt, Option, Some, None, MatchOption, refl, ltb-true, ltb-false, [], ◌++◌, length, replicate, sym, ap, ◌∙◌, subst, arith, length-append}
use Rattle.std.specs.Bool.{⊤}
use Rattle.std.proofs.lemmas.Bool.{false≢true}
use Rattle.std.proofs.lemmas.List.{length-replicate}
use Rattle.vlink.specs.declared.message.Message.{Message}
use Rattle.vlink.specs.declared.note.Note.{Note}
use Rattle.virtual_time.specs.Law.{earlier, Simulation, Part, next_of}
use Rattle.virtual_time.specs.declared.moved.Move.TheVariants.{Arrived, Ran, Committed}
use Rattle.journal.specs.declared.fault.PoolFault.{PoolFault}
use Rattle.journal.specs.declared.fault.PoolFault.TheVariants.{OutOfMemory, Exhausted}
use Rattle.process_exchange.specs.Views.{HeldState}
use Rattle.process_exchange.specs.Effects.{moved_by, turn, all_arrived, Runs, RanEarly, IsDueBefore, IsIdleBefore, WantsNumbers, StopsAtRun, StopsAtCommit, Works}
use Rattle.process_exchange.proofs.Moves.{moved-none, moved-chain}

turn-length : (a r c : ℕ) → length (turn a r c) ≡ a + r + c
turn-length a r c =
    let both = length-append (replicate a Arrived ++ replicate r Ran) (replicate c Committed) in
    let first = length-append (replicate a Arrived) (replicate r Ran) in
    omega (arith, length-replicate a Arrived, length-replicate r Ran, length-replicate c Committed)

module _ {S K : Type 0} (f : Simulation Message S K Note) (a r c : ℕ) (h h1 h2 h3 : HeldState S) where
  moved-turn : h1 ≡ moved_by f (replicate a Arrived) h → h2 ≡ moved_by f (replicate r Ran) h1 → h3 ≡ moved_by f (replicate c Committed) h2 → h3 ≡ moved_by f (turn a r c) h
  moved-turn arrived ran committed =
      committed ∙
      (ap (moved_by f (replicate c Committed)) (ran ∙ (ap (moved_by f (replicate r Ran)) arrived ∙ moved-chain f (replicate a Arrived) (replicate r Ran) h)) ∙
      moved-chain f (replicate a Arrived ++ replicate r Ran) (replicate c Committed) h)

-- all arrive, then messages are handled
pub ran-after : {S K : Type 0} (f : Simulation Message S K Note) (most window : ℕ) (h h1 h2 : HeldState S) → h1 ≡ all_arrived f h → Runs f most (h1.mark.seen + window) h1 h2 →
    Runs f most (h.mark.seen + window) (all_arrived f h) h2
ran-after f most window h h1 h2 arrived ran = subst (λ (z : HeldState _). Runs f most (z.mark.seen + window) z h2) arrived ran

module _ {S K : Type 0} (f : Simulation Message S K Note) (most window : ℕ) (h h1 h2 h3 : HeldState S) (r c : ℕ) where
  pub works : h1 ≡ moved_by f (replicate (length h.part.tray) Arrived) h → h2 ≡ moved_by f (replicate r Ran) h1 → h3 ≡ moved_by f (replicate c Committed) h2 →
      r ≤ most → RanEarly f (h1.mark.seen + window) r h1.part → (r ≡ most) ⊎ IsIdleBefore f (h1.mark.seen + window) h2.part →
      earlier f.rules.order h2.mark.seen h3.part.done ≡ [] →
      (before after : ℕ) → before ≡ length h.block → after ≡ length h3.block → Works f most window h h3 (after - before)
  works arrived ran committed within early idle below before after old new =
      let a = length h.part.tray in
      let did = moved-turn f a r c h h1 h2 h3 arrived ran committed in
      let seen = ap (λ (z : HeldState S). z.mark.seen) arrived in
      record {
        runs = r;
        commits = c;
        did = did;
        told_count = let n = ap (λ (z : HeldState S). length z.block) did in let m = length-append h.block (turn a r c) in let k = turn-length a r c in omega arith;
        within = within;
        early = subst (λ (z : HeldState S). RanEarly f (z.mark.seen + window) r z.part) arrived early;
        idle = elim idle [
          | inl full ↦ inl full
          | inr none ↦ inr (subst (λ (z : HeldState S). IsIdleBefore f (h.mark.seen + window) z.part) (moved-turn f a r 0 h h1 h2 h2 arrived ran (moved-none f h2))
              (subst (λ s. IsIdleBefore f (s + window) h2.part) seen none))
        ];
        committed_below = subst (λ s. earlier f.rules.order s h3.part.done ≡ []) (ap (λ (z : HeldState S). z.mark.seen) ran ∙ seen) below;
      }

-- what is not earlier is not before
not-early : (b : Bool) (x y : ℕ) → IsTrue b ↔ (x < y) → b ≡ false → y ≤ x
not-early b x y told off = pick (nat_lt x y) refl
  where
    pick : (t : Bool) → nat_lt x y ≡ t → y ≤ x
    pick true e = absurd (false≢true (sym off ∙ told.1 (ltb-true x y e)))
    pick false e = ltb-false x y e

module _ {S K : Type 0} (f : Simulation Message S K Note) where
  -- whether the next message is earlier than the limit
  pub due-before : (limit : ℕ) (part : Part Message S) (m : Message) → Some m ≡ next_of f.rules.order part → (b : Bool) → IsTrue b ↔ (f.rules.order.time m < limit) → b ≡ true → IsDueBefore f limit part
  due-before limit part m next b told on = (m, sym next, told.0 on)

  pub idle-before : (limit : ℕ) (part : Part Message S) (m : Message) → Some m ≡ next_of f.rules.order part → (b : Bool) → IsTrue b ↔ (f.rules.order.time m < limit) → b ≡ false → IsIdleBefore f limit part
  idle-before limit part m next b told off =
      subst (λ (o : Option Message). MatchOption o ⊤ (λ z. limit ≤ f.rules.order.time z)) next (not-early b (f.rules.order.time m) limit told off)

  pub idle-none : (limit : ℕ) (part : Part Message S) → None ≡ next_of f.rules.order part → IsIdleBefore f limit part
  idle-none limit part next = subst (λ (o : Option Message). MatchOption o ⊤ (λ z. limit ≤ f.rules.order.time z)) next tt

  -- refused as a message was to be handled
  pub stops-run : (most window k : ℕ) (h h1 h2 : HeldState S) (fault : PoolFault) → h1 ≡ moved_by f (replicate k Ran) h → k < most → RanEarly f (h.mark.seen + window) k h.part →
      IsDueBefore f (h1.mark.seen + window) h1.part → h2 ≡ h1 → ((fault ≡ Exhausted) ↔ WantsNumbers f h1.part) → StopsAtRun f most (h.mark.seen + window) h h2 fault
  stops-run most window k h h1 h2 fault did within early due same numbers = record {
    runs = k;
    did = same ∙ did;
    within = within;
    early = early;
    due = subst (λ (z : HeldState S). IsDueBefore f (h.mark.seen + window) z.part) (sym same)
        (subst (λ s. IsDueBefore f (s + window) h1.part) (ap (λ (z : HeldState S). z.mark.seen) did) due);
    numbers = subst (λ (z : HeldState S). (fault ≡ Exhausted) ↔ WantsNumbers f z.part) (sym same) numbers;
  }

  -- some done event is earlier than the GVT seen
  pub not-committed : (h h1 : HeldState S) → h1.mark.seen ≡ h.mark.seen → (seen : ℕ) → seen ≡ h.mark.seen → IsTrue false ↔ ((seen ≤ h1.mark.seen) × (earlier f.rules.order seen h1.part.done ≡ [])) →
      (earlier f.rules.order h1.mark.seen h1.part.done ≢ []) × (earlier f.rules.order h.mark.seen h1.part.done ≢ [])
  not-committed h h1 same seen is told =
      let some : earlier f.rules.order seen h1.part.done ≢ [] = λ none. false≢true (told.1 (let a = same in let b = is in omega arith, none)) in (
        subst (λ s. earlier f.rules.order s h1.part.done ≢ []) (is ∙ sym same) some,
        subst (λ s. earlier f.rules.order s h1.part.done ≢ []) is some,
      )

  -- refused as an event was to be committed
  pub stops-commit : (commits : ℕ) (h h1 h2 : HeldState S) (fault : PoolFault) → h1 ≡ moved_by f (replicate commits Committed) h → earlier f.rules.order h.mark.seen h1.part.done ≢ [] → h2 ≡ h1 →
      fault ≡ OutOfMemory → StopsAtCommit f h h2 fault
  stops-commit commits h h1 h2 fault did left same memory = record {
    commits = commits;
    did = same ∙ did;
    left = subst (λ (z : HeldState S). earlier f.rules.order h.mark.seen z.part.done ≢ []) (sym same) left;
    memory = memory;
  }
