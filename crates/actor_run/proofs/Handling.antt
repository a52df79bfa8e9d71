-- One event of the one-thread run, over actors, a heap of messages and rows.
use Rattle.std.proofs.Common.{◌≡◌, ℕ, zero, suc, ◌+◌, ◌≤◌, ◌<◌, ◌⊎◌, inl, inr, List, [], ◌∷◌, ◌++◌, ◌∙◌, Option, Some, length, slice_get, get_or, All, false, IsPermutation, sym, ap, subst, arith, set, get_or-set_same, get_or-set_other, length-set}
use Rattle.std.proofs.lemmas.Bool.{cases_eq, cases_lt}
use Rattle.std.proofs.lemmas.Option.{slice_get-get_or, get_or_from_slice_get, same_Some, none-some}
use Rattle.vlink.specs.declared.message.Message.{Message}
use Rattle.vlink.specs.declared.note.Note.{Note}
use Rattle.vlink.specs.Numbering.{greatest_number}
use Rattle.vlink.specs.Letters.{Row}
use Rattle.virtual_time.specs.Law.{Rules, rows_of, times_in, least, without, Simulation, Laws, put, OneThread, handle, one}
use Rattle.virtual_time.proofs.Lists.{times-append}
use Rattle.virtual_time.proofs.Least.{IsLeast, least-some}
use Rattle.virtual_time.proofs.OneThread.{right, times-without, put_same, put_other}
use Rattle.reverse.specs.Setting.{Setting, simulation_of, Opens, AreInStates}
use Rattle.actor_run.specs.Running.{AreOnTheWay, HasNumbersFrom, IsExhaustedAt, StandsAt}
use Rattle.two_lists.proofs.Counting.{times-permutation}
use Rattle.actor_run.proofs.Counting.{least-same, none-same, taken-least}
use Rattle.reverse.specs.declared.sends.TheConstants.{MOST_SENT}

-- one actor is in a new state
pub states-put : {S : Type 0} (processes : ℕ) (states : ℕ → S) (actors : List S) (p : ℕ) (s : S) → p < processes →
    AreInStates processes states actors → AreInStates processes (put p s states) (set actors p s)
states-put processes states actors p s i h =
    record {
      count = length-set actors p s ∙ h.count;
      each = λ q j. go q j (cases_eq q p);
    }
  where
    go : (q : ℕ) → q < processes → (q ≡ p) ⊎ (q ≡ p → ⊥) → slice_get (set actors p s) q ≡ Some (put p s states q)
    go q j (inl e) =
        let l : q < length (set actors p s) = let a = length-set actors p s in let b = h.count in omega arith in
        let a : slice_get (set actors p s) q ≡ Some (get_or (set actors p s) q s) = slice_get-get_or (set actors p s) q s l in
        let b : get_or (set actors p s) q s ≡ s = ap (λ k. get_or (set actors p s) k s) e ∙ get_or-set_same actors p s s (let c = h.count in omega arith) in
        a ∙ (ap (λ z. Some z) b ∙ ap (λ z. Some z) (sym (put_same p q s states e)))
    go q j (inr n) =
        let l : q < length (set actors p s) = let a = length-set actors p s in let b = h.count in omega arith in
        let a : slice_get (set actors p s) q ≡ Some (get_or (set actors p s) q s) = slice_get-get_or (set actors p s) q s l in
        let b : get_or (set actors p s) q s ≡ get_or actors q s = get_or-set_other actors p q s s n in
        let c : get_or actors q s ≡ states q = get_or_from_slice_get actors q (states q) s (h.each q j) in
        a ∙ (ap (λ z. Some z) (b ∙ c) ∙ ap (λ z. Some z) (sym (put_other p q s states n)))

pub begun : {S K : Type 0} (r : Rules Message S K Note) (x : Setting S) (actors : List S) (offers : List Message) →
    Opens x actors offers → AreOnTheWay (simulation_of r x) actors
unfolding one
begun r x actors offers o = (0, o.actors_open)

-- before the first event: what waits are the offers, and there is no row
pub started : {S K : Type 0} (r : Rules Message S K Note) (x : Setting S) (actors : List S) (offers heap : List Message) (rows : List Row) →
    Opens x actors offers → IsPermutation offers heap → rows ≡ [] → StandsAt (simulation_of r x) 0 actors heap rows
unfolding one
started r x actors offers heap rows o p d =
    record {
      states = o.actors_open;
      waiting = λ m. times-permutation r.order m offers heap p ∙ ap (times_in r.order m) o.offered;
      rows_are = d;
    }

module _ {S K : Type 0} (f : Simulation Message S K Note) where
  -- where nothing waits, nothing waits later
  stays-over : (n m : ℕ) → n ≤ m → (one f n).waiting ≡ [] → (one f m).waiting ≡ []
  unfolding one
  stays-over n zero i e = let same : n ≡ 0 = omega (arith, i) in subst (λ k. (one f k).waiting ≡ []) same e
  stays-over n (suc m) i e =
      elim (cases_lt m n) [
        | inl j ↦ (let same : n ≡ suc m = omega (arith, i, j) in subst (λ k. (one f k).waiting ≡ []) same e)
        | inr j ↦
            (let now = stays-over n m j e in
            ap (λ (o : Option Message). (handle f (one f m) o).waiting) (ap (least f.rules.order) now) ∙ now)
      ]

  -- so no actor wants numbers from then on
  ended-numbers : (n : ℕ) → (one f n).waiting ≡ [] → HasNumbersFrom f n
  ended-numbers n e k i z = none-some z.0 (sym (ap (least f.rules.order) (stays-over n k i e)) ∙ z.1)

  -- no actor has wanted numbers from the n-th event to the k-th
  abbrev pub HadNumbers : ℕ → ℕ → Type 0
  HadNumbers n k = (j : ℕ) → n ≤ j → j < k → IsExhaustedAt f j → ⊥

  pub none-yet : (n : ℕ) → HadNumbers n n
  none-yet n j i k z = omega (arith, i, k)

  pub one-more : (n k : ℕ) → HadNumbers n k → (IsExhaustedAt f k → ⊥) → HadNumbers n (suc k)
  one-more n k had has j i l z =
      elim (cases_lt j k) [
        | inl m ↦ had j i m z
        | inr m ↦ has (let same : j ≡ k = omega (arith, l, m) in subst (IsExhaustedAt f) same z)
      ]

  -- when the run is over, none has, and none will
  pub never : (n k : ℕ) → HadNumbers n k → (one f k).waiting ≡ [] → HasNumbersFrom f n
  never n k had e j i z = elim (cases_lt j k) [ inl m ↦ had j i m z | inr m ↦ ended-numbers k e j m z ]

module _ {S K : Type 0} (f : Simulation Message S K Note) (L : Laws f) (n : ℕ) (actors : List S) (heap : List Message) (rows : List Row) (h : StandsAt f n actors heap rows) where
  -- the least of the heap is handled next
  pub next-least : (m : Message) → IsLeast f.rules.order L.order m heap → least f.rules.order (one f n).waiting ≡ Some m
  next-least m l = least-same f.rules.order L.order heap (one f n).waiting h.waiting m l

  -- an empty heap: nothing waits
  pub over : heap ≡ [] → (one f n).waiting ≡ []
  over e = none-same f.rules.order L.order heap (one f n).waiting h.waiting e

  -- so no numbers are used up
  pub over-numbers : heap ≡ [] → IsExhaustedAt f n → ⊥
  over-numbers e z = none-some z.0 (sym (ap (least f.rules.order) (over e)) ∙ z.1)

  module _ (m : Message) (rest : List Message) (taken : IsPermutation heap (m ∷ rest)) (first : All (λ x. f.rules.order.less x m ≡ false) heap) where
    pub is_next : least f.rules.order (one f n).waiting ≡ Some m
    is_next = next-least m (taken-least f.rules.order L.order m heap rest taken first)

    -- what waits comes first there
    least_there : IsLeast f.rules.order L.order m (one f n).waiting
    least_there = least-some f.rules.order L.order (one f n).waiting m is_next

    pub receiver_there : f.rules.order.receiver m < f.processes
    receiver_there = (right f L n).waiting_here m least_there.inside

    -- the receiver is in its state of the run
    pub receiver_is : slice_get actors (f.rules.order.receiver m) ≡ Some ((one f n).states (f.rules.order.receiver m))
    receiver_is = h.states.each (f.rules.order.receiver m) receiver_there

    -- where the receiver has numbers left, they are not used up
    pub has-numbers : f.rules.counter ((one f n).states (f.rules.order.receiver m)) + MOST_SENT ≤ greatest_number → IsExhaustedAt f n → ⊥
    has-numbers few z =
        let same : z.0 ≡ m = same_Some z.0 m (sym z.1 ∙ is_next) in
        let used = subst (λ (y : Message). greatest_number < f.rules.counter ((one f n).states (f.rules.order.receiver y)) + MOST_SENT) same z.2 in
        omega (arith, few, used)

    pub receiver_within : f.rules.order.receiver m < length actors
    receiver_within = let a = receiver_there in let b = h.states.count in omega arith

    -- the state of the receiver, and the actors when it has handled the message
    abbrev pub now : S
    now = (one f n).states (f.rules.order.receiver m)

    abbrev pub after : List S
    after = set actors (f.rules.order.receiver m) (f.rules.after now m)

    next : one f (suc n) ≡ handle f (one f n) (Some m)
    unfolding one
    next = ap (handle f (one f n)) is_next

    pub states_after : (later : List S) → later ≡ after → AreInStates f.processes (one f (suc n)).states later
    states_after later e =
        let a = states-put f.processes (one f n).states actors (f.rules.order.receiver m) (f.rules.after now m) receiver_there h.states in
        let b = subst (λ (t : OneThread Message S Note). AreInStates f.processes t.states after) (sym next) a in
        subst (AreInStates f.processes (one f (suc n)).states) (sym e) b

    -- what waits then: the others and what was sent
    waits_after : (sent more : List Message) → sent ≡ f.rules.sends now m → IsPermutation (rest ++ sent) more → (x : Message) →
        times_in f.rules.order x more ≡ times_in f.rules.order x (one f (suc n)).waiting
    waits_after sent more s p x =
        let a = times-permutation f.rules.order x (rest ++ sent) more p in
        let b = times-append f.rules.order L.order x rest sent in
        let c = times-append f.rules.order L.order x (without f.rules.order m (one f n).waiting) (f.rules.sends now m) in
        let k = times-without f L (one f n) (right f L n) m least_there x in
        let g = h.waiting x in
        let l = times-permutation f.rules.order x heap (m ∷ rest) taken in
        let y = ap (times_in f.rules.order x) s in
        let z = ap (λ (o : OneThread Message S Note). times_in f.rules.order x o.waiting) next in
        omega arith

    -- the first message was handled, what was sent waits and what was noted is in the rows: that is one event
    pub handled : (later : List S) (sent : List Message) (noted : List Note) (more : List Message) (rows' : List Row) →
        later ≡ after → sent ≡ f.rules.sends now m → noted ≡ f.rules.notes now m →
        IsPermutation (rest ++ sent) more → rows' ≡ rows ++ rows_of f.rules.order m noted → StandsAt f (suc n) later more rows'
    handled later sent noted more rows' d s t p e =
        record {
          states = states_after later d;
          waiting = waits_after sent more s p;
          rows_are =
              e ∙ (ap (λ z. rows ++ rows_of f.rules.order m z) t
              ∙ (ap (λ z. z ++ rows_of f.rules.order m (f.rules.notes now m)) h.rows_are ∙ ap (λ (o : OneThread Message S Note). o.rows) (sym next)));
        }
