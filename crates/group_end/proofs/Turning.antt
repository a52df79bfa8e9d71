-- Post, collect, work, post: a turn.
use Rattle.std.proofs.Common.{◌≡◌, ℕ, suc, ◌+◌, ◌<◌, ◌≤◌, ◌⊎◌, inl, inr, Bool, true, List, [], ◌∷◌, ◌++◌, map, All, Some, refl, ap, sym, ◌∙◌, subst, arith, append-nil, append_assoc}
use Rattle.std.proofs.lemmas.Bool.{cases_lt}
use Rattle.std.proofs.lemmas.List.Elements.{All-head, All-tail}
use Rattle.vlink.specs.declared.message.Message.{Message}
use Rattle.vlink.specs.declared.note.Note.{Note}
use Rattle.virtual_time.specs.Law.{Order, IsOrder, IsIn, Simulation, Laws, World, AreBy, AreDone, behind, done_by, in_hand, next_of, run, start, waiting_in}
use Rattle.virtual_time.specs.declared.step.Step.{Step}
use Rattle.virtual_time.specs.declared.step.Step.TheVariants.{Take, Arrive, Run, Post, Gvt, Commit}
use Rattle.virtual_time.proofs.KeptRun.{run-append}
use Rattle.virtual_time.proofs.Lists.{in-cons}
use Rattle.group_queues.specs.declared.block.Word.{Word}
use Rattle.group_queues.specs.declared.block.Word.TheVariants.{Ran, Home, Taken, Arrived, Committed}
use Rattle.group_queues.specs.Block.{runs_in, steps_told}
use Rattle.group_queues.specs.DoneEvents.{messages_of}
use Rattle.group_hand.proofs.Adding.{runs-append}
use Rattle.group_exchange.specs.Views.{Ledger, GroupState, is_of, block_of, world_after, in_group}
use Rattle.group_exchange.specs.Effects.{AreTimely, IsIdleBefore, IsShort, Collects, Posts, posts, block_in, Works, WorksSome, WantsNumbers, takes_of}
use Rattle.group_exchange.proofs.Worked.{told-append}
use Rattle.group_exchange.proofs.Timely.{runs-commits, timely-append, timely-letters}
use Rattle.ends.specs.Rounds.{IsCleared, IsIdle, IsTurn}
use Rattle.ends.specs.InHand.{has_run, AreOfFirst, IsBlock, AreAllFor}
use Rattle.ends.proofs.Falls.{run-gvt}
use Rattle.ends.proofs.Hands.{by-behind, takes-by, whole-turn}
use Rattle.group_exchange.specs.Keeps.{AreGrouped}
use Rattle.group_exchange.proofs.Owners.{of-within}
use Rattle.journal.specs.declared.fault.PoolFault.{PoolFault}
use Rattle.journal.specs.declared.fault.PoolFault.TheVariants.{Exhausted}
use Rattle.group_end.specs.Together.{HasRested, TookTurn, UsesUp}

pub has-run : (ds : List Word) → 0 < runs_in ds → has_run (steps_told ds) ≡ true
has-run [] h = absurd (omega arith)
has-run (Ran p ∷ ds) h = refl
has-run (Home p ∷ ds) h = has-run ds (omega arith)
has-run (Taken p ∷ ds) h = has-run ds (omega arith)
has-run (Arrived p ∷ ds) h = has-run ds (omega arith)
has-run (Committed p ∷ ds) h = has-run ds (omega arith)

all-in : (o : Order Message) → IsOrder o → (P : Message → Type 0) (ms : List Message) → All P ms → (m : Message) → IsIn o m ms → P m
all-in o O P [] a m i = absurd (omega arith)
all-in o O P (x ∷ xs) a m i = go (in-cons o O m x xs i) (λ j. all-in o O P xs (All-tail P x xs a) m j)
  where
    go : (m ≡ x) ⊎ IsIn o m xs → (IsIn o m xs → P m) → P m
    go (inl e) k = subst P (sym e) (All-head P x xs a)
    go (inr j) k = k j

module _ {S K : Type 0} (f : Simulation Message S K Note) (owners : List ℕ) where
  of-first : (limit : ℕ) (ours : ℕ → Bool) (xs : List Step) (v : World Message S) → AreTimely f limit ours xs v → AreOfFirst f ours xs v
  of-first limit ours [] v t = tt
  of-first limit ours (Take p i ∷ xs) v t = (tt, of-first limit ours xs _ t.1)
  of-first limit ours (Arrive p ∷ xs) v t = (tt, of-first limit ours xs _ t.1)
  of-first limit ours (Run p ∷ xs) v t = ((t.0.0.0, t.0.0.1, t.0.0.3), of-first limit ours xs _ t.1)
  of-first limit ours (Post p ∷ xs) v t = (tt, of-first limit ours xs _ t.1)
  of-first limit ours (Gvt ∷ xs) v t = (tt, of-first limit ours xs _ t.1)
  of-first limit ours (Commit p ∷ xs) v t = (tt, of-first limit ours xs _ t.1)

  -- what a post adds to the journal, also where the block is empty
  post-steps : (x : Ledger) (h : GroupState S K) (y : Ledger) (k : GroupState S K) → Posts f owners x h y k →
      (y.steps ≡ x.steps ++ block_in f owners x h) × (k.held.flow.words ≡ []) × (k.number ≡ h.number) × (k.seen ≡ h.seen) × (k.held.done ≡ h.held.done)
  post-steps x h y k p = go h.held.flow.words refl p
    where
      go : (ds : List Word) → h.held.flow.words ≡ ds → posts f owners ds x h y k →
          (y.steps ≡ x.steps ++ block_in f owners x h) × (k.held.flow.words ≡ []) × (k.number ≡ h.number) × (k.seen ≡ h.seen) × (k.held.done ≡ h.held.done)
      go [] e q = (
        ap (λ (z : Ledger). z.steps) q.0 ∙ (sym (append-nil x.steps) ∙ ap (λ ds. x.steps ++ map (behind (waiting_in f (world_after f x.steps))) (steps_told ds)) (sym e)),
        ap (λ (z : GroupState S K). z.held.flow.words) q.1 ∙ e,
        ap (λ (z : GroupState S K). z.number) q.1,
        ap (λ (z : GroupState S K). z.seen) q.1,
        ap (λ (z : GroupState S K). z.held.done) q.1,
      )
      go (d ∷ ds) e q = (
        ap (λ (z : Ledger). z.steps) q.exchange,
        ap (λ z. z.flow.words) q.held,
        ap (λ (z : GroupState S K). z.number) q.group,
        ap (λ (z : GroupState S K). z.seen) q.group,
        ap (λ z. z.done) q.held,
      )

  -- the limit of the journal stays
  pub post-limit : (x : Ledger) (h : GroupState S K) (y : Ledger) (k : GroupState S K) → Posts f owners x h y k → y.limit ≡ x.limit
  post-limit x h y k p = go h.held.flow.words p
    where
      go : (ds : List Word) → posts f owners ds x h y k → y.limit ≡ x.limit
      go [] q = ap (λ (z : Ledger). z.limit) q.0
      go (d ∷ ds) q = ap (λ (z : Ledger). z.limit) q.exchange

  pub collect-limit : (x : Ledger) (h : GroupState S K) (y : Ledger) (k : GroupState S K) (count : ℕ) → Collects f owners x h y k count → y.limit ≡ x.limit
  collect-limit x h y k count c = ap (λ (z : Ledger). z.limit) c.exchange

  -- a group that lacks numbers in hand lacks them after the steps of the journal and those of its block
  pub used-up : (groups : ℕ) → AreGrouped f.processes groups owners → (steps : List Step) (k : GroupState S K) →
      ((p : ℕ) → is_of owners k.number p ≡ true → (world_after f steps).parts p ≡ (in_group f k).parts p) → IsShort f owners k → UsesUp f owners
  used-up groups G steps k parts lack =
      record {
        steps = steps;
        process = lack.0;
        within = subst (λ n. lack.0 < n) G.each (of-within owners k.number lack.0 lack.1);
        wanting = subst (WantsNumbers f owners) (sym (parts lack.0 lack.1)) lack.2;
      }

  -- which a refused call of `work` states
  pub short-at : (window : ℕ) (h k : GroupState S K) (fault : PoolFault) → WorksSome f owners window h k fault → fault ≡ Exhausted → IsShort f owners k
  short-at window h k fault W e =
      let at = W.numbers e in
      (at.0, subst (λ g. is_of owners g at.0 ≡ true) (sym (ap (λ (z : GroupState S K). z.number) W.went.others)) at.1, at.2)

  module _ (L : Laws f) (most window count : ℕ) (some : 1 ≤ most) (ahead : 1 ≤ window) (x0 x1 x2 x3 : Ledger) (h0 h1 h2 h3 h4 : GroupState S K) (taken : ℕ)
      (by : AreBy (is_of owners h0.number) (block_of h0)) (inside : (p : ℕ) → is_of owners h0.number p ≡ true → p < f.processes)
      (first-post : Posts f owners x0 h0 x1 h1) (collects : Collects f owners x1 h1 x2 h2 taken) (works : Works f owners most window h2 h3 count)
      (last-post : Posts f owners x2 h3 x3 h4)
      (waits : (p : ℕ) → is_of owners h3.number p ≡ true → (m : Message) → next_of f.rules.order ((in_group f h3).parts p) ≡ Some m → IsIn f.rules.order m h3.held.flow.queue)
      (done : (p : ℕ) → is_of owners h3.number p ≡ true → (m : Message) → IsIn f.rules.order m ((in_group f h3).parts p).done → IsIn f.rules.order m (messages_of h3.held.done))
      (cleared : h3.held.flow.tray ≡ [] → (p : ℕ) → is_of owners h3.number p ≡ true → IsCleared f (in_group f h3) p) where
    number1 : h1.number ≡ h0.number
    number1 = (post-steps x0 h0 x1 h1 first-post).2

    number2 : h2.number ≡ h0.number
    number2 = ap (λ (z : GroupState S K). z.number) collects.group ∙ number1

    number3 : h3.number ≡ h0.number
    number3 = ap (λ (z : GroupState S K). z.number) works.went.others ∙ number2

    pub number4 : h4.number ≡ h0.number
    number4 = (post-steps x2 h3 x3 h4 last-post).2 ∙ number3

    ours : ℕ → Bool
    ours = is_of owners h0.number

    -- steps of its own before the block
    before : List Step
    before = block_in f owners x0 h0

    steps1 : x1.steps ≡ x0.steps ++ block_in f owners x0 h0
    steps1 = (post-steps x0 h0 x1 h1 first-post).0

    steps2 : x2.steps ≡ x0.steps ++ (block_in f owners x0 h0 ++ takes_of f.rules.order collects.letters)
    steps2 = ap (λ (z : Ledger). z.steps) collects.exchange ∙ (ap (λ xs. xs ++ takes_of f.rules.order collects.letters) steps1 ∙ append_assoc x0.steps (block_in f owners x0 h0) (takes_of f.rules.order collects.letters))

    world1 : world_after f x1.steps ≡ run f (block_in f owners x0 h0) (world_after f x0.steps)
    world1 = ap (world_after f) steps1 ∙ run-append f L x0.steps (block_in f owners x0 h0) (start f)

    world2 : world_after f x2.steps ≡ run f (block_in f owners x0 h0 ++ takes_of f.rules.order collects.letters) (world_after f x0.steps)
    world2 = ap (world_after f) steps2 ∙ run-append f L x0.steps (block_in f owners x0 h0 ++ takes_of f.rules.order collects.letters) (start f)

    all-for : AreAllFor f (is_of owners h0.number) collects.letters (run f (block_in f owners x0 h0) (world_after f x0.steps))
    all-for = record {
      home = subst (λ n. All (λ l. is_of owners n (f.rules.order.receiver l.message) ≡ true) collects.letters) number1 collects.home;
      whole = λ p o. ap (λ z. z.mail p) (sym world1) ∙ collects.whole p (subst (λ n. is_of owners n p ≡ true) (sym number1) o);
    }

    -- the GVT that it saw
    seen-is : h2.seen ≡ (world_after f x2.steps).gvt
    seen-is =
        ap (λ (z : GroupState S K). z.seen) collects.group
        ∙ sym (ap (λ xs. (world_after f xs).gvt) (ap (λ (z : Ledger). z.steps) collects.exchange)
        ∙ (ap (λ z. z.gvt) (run-append f L x1.steps (takes_of f.rules.order collects.letters) (start f))
        ∙ run-gvt f L (is_of owners h1.number) (takes_of f.rules.order collects.letters) (world_after f x1.steps) (takes-by f (is_of owners h1.number) inside1 collects.letters collects.home)))
      where
        inside1 : (p : ℕ) → is_of owners h1.number p ≡ true → p < f.processes
        inside1 p o = inside p (subst (λ n. is_of owners n p ≡ true) number1 o)

    words2 : h2.held.flow.words ≡ []
    words2 = ap (λ z. z.flow.words) collects.held ∙ (post-steps x0 h0 x1 h1 first-post).1

    hand2 : in_group f h2 ≡ in_hand f (world_after f x2.steps).gvt (world_after f x2.steps)
    hand2 =
        ap (λ ds. done_by f (steps_told ds) (in_hand f h2.seen (world_after f h2.last))) words2
        ∙ (ap (λ n. in_hand f n (world_after f h2.last)) seen-is
        ∙ ap (λ xs. in_hand f (world_after f x2.steps).gvt (world_after f xs)) (ap (λ (z : GroupState S K). z.last) collects.group))

    block3 : block_of h3 ≡ steps_told works.did
    block3 = ap steps_told (works.went.words ∙ ap (λ ds. ds ++ works.did) words2)

    small : World Message S
    small = in_hand f (world_after f x2.steps).gvt (world_after f x2.steps)

    ends-is : in_group f h3 ≡ done_by f (steps_told works.did) (in_hand f (world_after f x2.steps).gvt (world_after f x2.steps))
    ends-is = works.went.ends ∙ ap (done_by f (steps_told works.did)) hand2

    same-ours : (p : ℕ) → is_of owners h0.number p ≡ true → is_of owners h3.number p ≡ true
    same-ours p o = subst (λ n. is_of owners n p ≡ true) (sym number3) o

    firsts : AreOfFirst f (is_of owners h0.number) (steps_told works.did) (in_hand f (world_after f x2.steps).gvt (world_after f x2.steps))
    firsts =
        subst (λ v. AreOfFirst f (is_of owners h0.number) (steps_told works.did) v) hand2
        (subst (λ n. AreOfFirst f (is_of owners n) (steps_told works.did) (in_group f h2)) number2
        (of-first (h2.seen + window) (is_of owners h2.number) (steps_told works.did) (in_group f h2)
        (subst (λ xs. AreTimely f (h2.seen + window) (is_of owners h2.number) xs (in_group f h2)) (sym (ap steps_told works.parts ∙ told-append works.worked works.ended))
        (timely-append f (is_of owners h2.number) (h2.seen + window) (steps_told works.worked) (steps_told works.ended) (in_group f h2) works.timely
        (timely-letters f (is_of owners h2.number) (h2.seen + window) works.ended _ (runs-commits works.ended works.commits))))))

    ran : 0 < count → has_run (steps_told works.did) ≡ true
    ran h = has-run works.did (let a = ap runs_in works.parts in let b = runs-append works.worked works.ended in let c = works.counted in omega arith)

    idles : IsIdleBefore f owners (h2.seen + window) h3 →
        IsIdle f (is_of owners h0.number) (suc (world_after f x2.steps).gvt) (done_by f (steps_told works.did) (in_hand f (world_after f x2.steps).gvt (world_after f x2.steps)))
    idles a p o m e =
        let late = all-in f.rules.order L.order (λ m. h2.seen + window ≤ f.rules.order.time m) h3.held.flow.queue a m (waits p (same-ours p o) m (ap (λ v. next_of f.rules.order (v.parts p)) ends-is ∙ e)) in
        let g = seen-is in
        omega arith

    is-block : IsBlock f (is_of owners h0.number) (steps_told works.did) (in_hand f (world_after f x2.steps).gvt (world_after f x2.steps))
    is-block = record {
      by = subst (λ n. AreBy (is_of owners n) (steps_told works.did)) number2 works.went.by;
      enabled = subst (λ v. AreDone f (steps_told works.did) v) hand2 works.went.enabled;
      first = firsts;
      cleared = λ p o. subst (λ v. IsCleared f v p) ends-is (cleared works.arrived p (same-ours p o));
      handled = elim (cases_lt 0 count) [
        | inl h ↦ inl (ran h)
        | inr h ↦ elim works.idle [ inl e ↦ absurd (omega arith) | inr a ↦ inr (idles a) ]
      ];
      committed = λ p o m i.
          let late = all-in f.rules.order L.order (λ m. h2.seen ≤ f.rules.order.time m) (messages_of h3.held.done) works.committed_below m
          (done p (same-ours p o) m (subst (λ v. IsIn f.rules.order m (v.parts p).done) (sym ends-is) i)) in
          let g = seen-is in
          omega arith;
    }

    pub turn : TookTurn f (is_of owners h0.number) x0.steps x3.steps
    turn = record {
      steps = (block_in f owners x0 h0 ++ takes_of f.rules.order collects.letters) ++ map (behind (waiting_in f (world_after f x2.steps))) (steps_told works.did);
      journal =
          (post-steps x2 h3 x3 h4 last-post).0
          ∙ (ap (λ bs. x2.steps ++ map (behind (waiting_in f (world_after f x2.steps))) bs) block3
          ∙ (ap (λ xs. xs ++ map (behind (waiting_in f (world_after f x2.steps))) (steps_told works.did)) steps2
          ∙ append_assoc x0.steps (block_in f owners x0 h0 ++ takes_of f.rules.order collects.letters) (map (behind (waiting_in f (world_after f x2.steps))) (steps_told works.did))));
      is_turn =
          subst (λ v. IsTurn f (is_of owners h0.number) ((block_in f owners x0 h0 ++ takes_of f.rules.order collects.letters) ++ map (behind (waiting_in f v)) (steps_told works.did)) (world_after f x0.steps)) (sym world2)
          (whole-turn f (is_of owners h0.number) inside L (world_after f x0.steps) (block_in f owners x0 h0)
          (by-behind f (is_of owners h0.number) inside (waiting_in f (world_after f x0.steps)) (block_of h0) by)
          collects.letters all-for (steps_told works.did)
          (subst (λ v. IsBlock f (is_of owners h0.number) (steps_told works.did) (in_hand f v.gvt v)) world2 is-block));
    }

    seen-first : h2.seen ≡ (world_after f x0.steps).gvt
    seen-first =
        ap (λ (z : GroupState S K). z.seen) collects.group
        ∙ (ap (λ z. z.gvt) world1
        ∙ run-gvt f L (is_of owners h0.number) (block_in f owners x0 h0) (world_after f x0.steps) (by-behind f (is_of owners h0.number) inside (waiting_in f (world_after f x0.steps)) (block_of h0) by))

    -- the group after it
    pub rested : ((m : Message) → IsIn f.rules.order m (messages_of h3.held.done) → f.rules.order.time m ≤ f.until) → HasRested f.rules.order f.until (world_after f x0.steps).gvt h4
    rested soon =
        let last = post-steps x2 h3 x3 h4 last-post in
        record {
          words = last.1;
          seen = last.3 ∙ (ap (λ (z : GroupState S K). z.seen) works.went.others ∙ seen-first);
          late = λ m i.
              let late = all-in f.rules.order L.order (λ m. h2.seen ≤ f.rules.order.time m) (messages_of h3.held.done) works.committed_below m (subst (λ ds. IsIn f.rules.order m (messages_of ds)) last.4 i) in
              let g = seen-first in
              omega arith;
          in_time = λ m i. soon m (subst (λ ds. IsIn f.rules.order m (messages_of ds)) last.4 i);
        }
