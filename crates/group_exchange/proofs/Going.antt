-- One call of a group after another.
use Rattle.std.proofs.Common.{◌≡◌, ℕ, suc, true, false, ◌∷◌, ◌+◌, ◌≤◌, ◌⊎◌, inl, min, List, [], ◌++◌, All, Option, Some, None, IfNone, Result, Ok, Err, IfErr, refl, sym, ap, ◌∙◌, subst, arith}
use Rattle.std.proofs.lemmas.List.Elements.{All-nil, All-cons, All-weaker}
use Rattle.virtual_time.proofs.Lists.{in-head}
use Rattle.vlink.specs.declared.message.Message.{Message}
use Rattle.vlink.specs.declared.note.Note.{Note}
use Rattle.vlink.specs.Order.{message_order}
use Rattle.virtual_time.specs.Law.{IsIn, IsOrder, Simulation}
use Rattle.virtual_time.proofs.Order.{not_less-time}
use Rattle.reverse.specs.Rules.{is_before}
use Rattle.journal.specs.declared.fault.PoolFault.{PoolFault}
use Rattle.journal.specs.declared.fault.PoolFault.TheVariants.{OutOfMemory, Exhausted, JournalFull}
use Rattle.group_queues.specs.Block.{steps_told}
use Rattle.group_hand.proofs.Adding.{commits-none}
use Rattle.group_exchange.specs.Views.{GroupState, in_group, is_of}
use Rattle.group_exchange.specs.Effects.{AreTimely, CountsDone, Ends, Goes, IsShortBefore, Went, WorksSome}
use Rattle.group_exchange.proofs.Timely.{runs-commits, timely-append, timely-letters, timely-weaker}
use Rattle.group_exchange.proofs.Worked.{told-append, went-both, went-nowhere}

-- what holds of each message that is in a list
pub each-inside : IsOrder message_order → (P : Message → Type 0) (ms : List Message) → ((y : Message) → IsIn message_order y ms → P y) → All P ms
each-inside O P [] p = All-nil P
each-inside O P (m ∷ ms) p = All-cons P m ms (p m (in-head message_order O m ms)) (each-inside O P ms (λ y i. p y (omega arith)))

-- where none is earlier than the limit, and none is after the end, none is earlier than the moment that was asked for
pub idle-late : (asked limit end until : ℕ) (mid ms : List Message) → limit ≡ min asked end → end ≡ suc until → ms ≡ mid → All (λ m. limit ≤ m.time) mid → All (λ m. m.time ≤ until) ms →
    All (λ m. asked ≤ m.time) ms
idle-late asked limit end until mid ms l e p late in_time = λ k d h.
    let a = subst (All (λ (m : Message). limit ≤ m.time)) (sym p) late k d h in
    let b = in_time k d h in
    omega arith

-- where the first message is not earlier than the limit, none is
pub none-early : IsOrder message_order → (limit : ℕ) (m : Message) (ms : List Message) → All (λ y. is_before y m ≡ false) ms → limit ≤ m.time → All (λ (y : Message). limit ≤ y.time) ms
none-early O limit m ms first late = All-weaker (λ y. is_before y m ≡ false) (λ (y : Message). limit ≤ y.time) (λ y e. let a = not_less-time message_order O y m e in omega arith) ms first

module _ {S K : Type 0} (f : Simulation Message S K Note) (owners : List ℕ) where
  -- nothing joined the block
  pub goes-same : (limit : ℕ) (h k : GroupState S K) → CountsDone h k → Goes f owners limit h k
  goes-same limit h k a = record {
    did = [];
    went = went-nowhere f owners h k (ap (λ z. z.held.flow.words) a) (a ∙ (λ i. record h { held = ap (λ z. z.held) (sym a) i }));
    timely = tt;
    no_commit = refl;
  }

  pub goes-both : (limit : ℕ) (h mid k : GroupState S K) → Goes f owners limit h mid → Goes f owners limit mid k → Goes f owners limit h k
  goes-both limit h mid k a b =
      let same : mid.number ≡ h.number = ap (λ (z : GroupState S K). z.number) a.went.others in
      let ours = is_of owners h.number in
      record {
        did = a.did ++ b.did;
        went = went-both f owners a.did b.did h mid k a.went b.went;
        timely = subst (λ xs. AreTimely f limit ours xs (in_group f h)) (sym (told-append a.did b.did))
            (timely-append f ours limit (steps_told a.did) (steps_told b.did) (in_group f h) a.timely
            (subst (λ w. AreTimely f limit ours (steps_told b.did) w) a.went.ends (subst (λ n. AreTimely f limit (is_of owners n) (steps_told b.did) (in_group f mid)) same b.timely)));
        no_commit = commits-none a.did b.did a.no_commit b.no_commit;
      }

  -- nothing joined the block, and then some words did
  pub goes-later : (limit : ℕ) (h mid begun k : GroupState S K) → CountsDone h mid → begun ≡ mid → Goes f owners limit begun k → Goes f owners limit h k
  goes-later limit h mid begun k a e b = goes-both limit h mid k (goes-same limit h mid a) (subst (λ z. Goes f owners limit z k) e b)

  pub goes-seen : (limit : ℕ) (h k : GroupState S K) → Goes f owners limit h k → k.seen ≡ h.seen
  goes-seen limit h k a = ap (λ (z : GroupState S K). z.seen) a.went.others

  -- letters arrived and messages were handled, and then events were committed
  pub goes-ends : (limit : ℕ) (h mid k : GroupState S K) → (a : Goes f owners limit h mid) → (b : Ends f owners mid k) → Went f owners (a.did ++ b.did) h k
  goes-ends limit h mid k a b = went-both f owners a.did b.did h mid k a.went b.went

  -- in all that no message was handled too soon
  timely-ends : (limit : ℕ) (h mid k : GroupState S K) (a : Goes f owners limit h mid) (b : Ends f owners mid k) → AreTimely f limit (is_of owners h.number) (steps_told (a.did ++ b.did)) (in_group f h)
  timely-ends limit h mid k a b =
      let ours = is_of owners h.number in
      subst (λ xs. AreTimely f limit ours xs (in_group f h)) (sym (told-append a.did b.did))
      (timely-append f ours limit (steps_told a.did) (steps_told b.did) (in_group f h) a.timely (timely-letters f ours limit b.did _ (runs-commits b.did b.commits)))

  -- some words joined the block, and then a growth was refused
  pub works-some : (limit window : ℕ) (h mid k : GroupState S K) → limit ≤ h.seen + window → Goes f owners limit h mid → Ends f owners mid k →
      (r : Result ℕ PoolFault) → IfErr r (λ fault. fault ≡ OutOfMemory) → IfErr r (WorksSome f owners window h k)
  works-some limit window h mid k soon a b (Ok n) memory = tt
  works-some limit window h mid k soon a b (Err fault) memory = record {
    did = a.did ++ b.did;
    went = goes-ends limit h mid k a b;
    timely = timely-weaker f (is_of owners h.number) limit (h.seen + window) soon _ _ (timely-ends limit h mid k a b);
    numbers = λ e. absurd (let t = sym memory ∙ e in cc);
    early = λ e. absurd (let t = sym memory ∙ e in cc);
    faults = inl memory;
  }

  -- some words joined the block, and then a letter or a message was refused
  pub works-less : (limit window : ℕ) (h k : GroupState S K) → limit ≤ h.seen + window → Goes f owners limit h k →
      (r : Result ℕ PoolFault) → (r ≡ Err Exhausted → IsShortBefore f owners limit k) → IfErr r (λ fault. (fault ≡ OutOfMemory) ⊎ (fault ≡ Exhausted)) → IfErr r (WorksSome f owners window h k)
  works-less limit window h k soon a (Ok n) short faults = tt
  works-less limit window h k soon a (Err fault) short faults = record {
    did = a.did;
    went = a.went;
    timely = timely-weaker f (is_of owners h.number) limit (h.seen + window) soon _ _ a.timely;
    numbers = λ e.
        let s = (short (λ j. Err (e j))).0 in
        (s.0, subst (λ n. is_of owners n s.0 ≡ true) (ap (λ (z : GroupState S K). z.number) a.went.others) s.1, s.2);
    early = λ e. let w = (short (λ j. Err (e j))).1 in (w.0, w.1, (let l = w.2 in omega (arith, l, soon)));
    faults = faults;
  }

-- want of memory is not that the journal is full
pub not-full : {T X : Type 0} (fault : PoolFault) (r : Result T PoolFault) → fault ≡ OutOfMemory → r ≡ Err fault → r ≡ Err JournalFull → X
not-full fault r memory is full = absurd (let e = sym is ∙ full in let m = memory in cc)

-- what none tells, where that tells more
pub when-none : {X : Type 0} (o : Option X) (P Q : Type 0) → (P → Q) → IfNone o P → IfNone o Q
when-none None P Q k p = k p
when-none (Some y) P Q k p = tt

-- two that one answer tells are the same
pub ok-same : {X Y : Type 0} (a b : X) (r : Result X Y) → r ≡ Ok a → r ≡ Ok b → a ≡ b
ok-same a b r p q = ap (value a) (sym p ∙ q)
  where
    value : {X Y : Type 0} → X → Result X Y → X
    value d (Ok y) = y
    value d (Err fault) = d
