-- What calls keep of the rows of a group.
use Rattle.std.proofs.Common.{◌≡◌, ℕ, ◌+◌, ◌<◌, ◌≤◌, ◌==◌, inl, inr, Bool, true, false, cond, All, List, [], ◌∷◌, ◌++◌, drop, length, take, Option, Some, None, refl, sym, ap, ◌∙◌, subst, arith, slice_get, eq-eqb, length-append, length-drop, take-add}
use Rattle.std.proofs.lemmas.Bool.{both_ways}
use Rattle.std.proofs.lemmas.List.{map-append, take-append-le}
use Rattle.std.proofs.lemmas.List.Elements.{All-append, All-cons, All-head, All-nil, All-tail, All-weaker}
use Rattle.vlink.specs.declared.message.Message.{Message}
use Rattle.vlink.specs.declared.note.Note.{Note}
use Rattle.vlink.specs.Letters.{Letter, Row}
use Rattle.virtual_time.specs.Law.{Rules, Order, IsOrder, Simulation, Laws, World, Part, AreBy, AreDone, IsAscending, IsIn, IsSafeGroup, arrived, can_commit, delivered, done_by, effect, handled, in_hand, is_by, is_toggled, next_of, oldest_committed, reached, rolled_back, run, tallied, taken}
use Rattle.virtual_time.specs.declared.step.Step.{Step}
use Rattle.virtual_time.specs.declared.step.Step.TheVariants.{Take, Arrive, Run, Post, Gvt, Commit}
use Rattle.virtual_time.proofs.Ascending.{ascending-left}
use Rattle.virtual_time.proofs.Groups.{step-does}
use Rattle.virtual_time.proofs.Kept.{put_elim}
use Rattle.virtual_time.proofs.Lists.{in-append, in-cons, in-filter, in-head, times-append}
use Rattle.virtual_time.proofs.Order.{less-asym, less-time}
use Rattle.virtual_time.proofs.Reading.{next-is}
use Rattle.virtual_time.proofs.SafeGroup.{group-safe}
use Rattle.reverse.specs.Setting.{Setting, simulation_of}
use Rattle.group_queues.specs.Block.{steps_told}
use Rattle.group_queues.specs.DoneEvents.{DoneEvent, done_event_of, done_events_at, done_events_of, messages_of}
use Rattle.group_hand.specs.Hands.{DoesTold, Held, StandsForGroup, is_ours}
use Rattle.group_queues.specs.Sealing.{rows_in}
use Rattle.group_hand.proofs.Going.{done-in, held-is}
use Rattle.group_hand.proofs.Member.{done-times}
use Rattle.group_exchange.specs.Rows.{AreInOrder}
use Rattle.group_exchange.specs.Views.{is_of, world_after}
use Rattle.group_exchange.specs.Keeps.{Holds, KeepsRows}
use Rattle.group_exchange.proofs.RowOrder.{event-rows, of-one-event, ordered-append}
use Rattle.group_exchange.proofs.Told.{by-same}

-- what holds of each message in a list, and of one of them
pub each-message : (o : Order Message) (O : IsOrder o) (P : Message → Type 0) (ms : List Message) → ((y : Message) → IsIn o y ms → P y) → All P ms
each-message o O P [] p = All-nil P
each-message o O P (m ∷ ms) p = All-cons P m ms (p m (in-head o O m ms)) (each-message o O P ms (λ y i. p y (omega arith)))

a-message : (o : Order Message) (O : IsOrder o) (P : Message → Type 0) (y : Message) (ms : List Message) → All P ms → IsIn o y ms → P y
a-message o O P y [] a i = absurd (omega arith)
a-message o O P y (m ∷ ms) a i = elim (in-cons o O y m ms i) [ inl e ↦ subst P (sym e) (All-head P m ms a) | inr j ↦ a-message o O P y ms (All-tail P m ms a) j ]

-- no done event of these processes is earlier than a moment that is not later than the one that the group saw: so it stays
module _ {S K : Type 0} (f : Simulation Message S K Note) (L : Laws f) (ours : ℕ → Bool) (g c : ℕ) (low : c ≤ g) where
  abbrev IsFrom : Part Message S → Type 0
  IsFrom part = (m : Message) → IsIn f.rules.order m part.done → c ≤ f.rules.order.time m

  abbrev pub AreDoneFrom : World Message S → Type 0
  AreDoneFrom v = (p : ℕ) → ours p ≡ true → IsFrom (v.parts p)

  effect-from : (x : Step) (v : World Message S) → IsSafeGroup f ours g v → is_by ours x ≡ true → AreDoneFrom v → AreDoneFrom (effect f x v)
  unfolding effect
  effect-from (Take p i) v s o k = go (slice_get (v.mail p) i)
    where
      go : (l : Option Letter) → AreDoneFrom (taken f p i v l)
      go None = k
      go (Some l) = put_elim (λ q z. ours q ≡ true → IsFrom z) p (delivered l (v.parts p)) v.parts (λ j. k p j) (λ q n. k q)
  effect-from (Arrive p) v s o k = put_elim (λ q z. ours q ≡ true → IsFrom z) p _ v.parts (λ j. go (v.parts p).tray) (λ q n. k q)
    where
      go : (ls : List Letter) → IsFrom (arrived f.rules (f.opening p) (v.parts p) ls)
      go [] = k p o
      go (l ∷ rest) = pick (is_toggled f.rules.order l (v.parts p).tally)
        where
          pick : (b : Bool) → IsFrom (cond b (rolled_back f.rules (f.opening p) l.message (tallied f.rules l rest (v.parts p))) (tallied f.rules l rest (v.parts p)))
          pick true m i = k p o m (in-filter f.rules.order L.order (λ z. f.rules.order.less z l.message) m (v.parts p).done i).1
          pick false m i = k p o m i
  effect-from (Run p) v s o k = put_elim (λ q z. ours q ≡ true → IsFrom z) p _ v.parts (λ j. go (next_of f.rules.order (v.parts p)) refl) (λ q n. k q)
    where
      go : (n : Option Message) → next_of f.rules.order (v.parts p) ≡ n → IsFrom (handled f.rules (v.parts p) n)
      go None e y i = k p o y i
      go (Some m) e y i = elim (in-append f.rules.order L.order y (v.parts p).done (m ∷ []) i) [
        | inl j ↦ k p o y j
        | inr j ↦ elim (in-cons f.rules.order L.order y m [] j) [
          | inl same ↦ (
              let n = next-is f.rules L.order (v.parts p) m e in
              let late = (s.parts p o).unhandled m n.present n.not_done in
              subst (λ z. c ≤ f.rules.order.time z) (sym same) (omega arith))
          | inr none ↦ absurd (omega arith)
        ]
      ]
  effect-from (Post p) v s o k = put_elim (λ q z. ours q ≡ true → IsFrom z) p _ v.parts (λ j. k p j) (λ q n. k q)
  effect-from Gvt v s o k = absurd (both_ways false refl o)
  effect-from (Commit p) v s o k = put_elim (λ q z. ours q ≡ true → IsFrom z) p _ v.parts (λ j. go (v.parts p).done (k p o)) (λ q n. k q)
    where
      go : (ms : List Message) → ((m : Message) → IsIn f.rules.order m ms → c ≤ f.rules.order.time m) → IsFrom (cond (can_commit f.rules.order (v.parts p) ms) (oldest_committed f.rules (v.parts p) ms) (v.parts p))
      go ms h = pick (can_commit f.rules.order (v.parts p) ms) ms h
        where
          pick : (b : Bool) (ms : List Message) → ((m : Message) → IsIn f.rules.order m ms → c ≤ f.rules.order.time m) → IsFrom (cond b (oldest_committed f.rules (v.parts p) ms) (v.parts p))
          pick true [] h y i = k p o y i
          pick true (m ∷ rest) h y i = h y (omega arith)
          pick false ms h y i = k p o y i

  pub steps-from : (xs : List Step) (v : World Message S) → IsSafeGroup f ours g v → AreBy ours xs → AreDone f xs v → AreDoneFrom v → AreDoneFrom (done_by f xs v)
  unfolding run
  steps-from [] v s o d k = k
  steps-from (x ∷ xs) v s o d k =
      let e = step-does f ours x v d.0 in
      let next = subst (λ z. IsSafeGroup f ours g z) e (group-safe f L ours g (x ∷ []) v s (o.0, tt) (d.0, tt)) in
      steps-from xs (effect f x v) next o.1 (subst (λ z. AreDone f xs z) e d.1) (effect-from x v s o.0 k)

module _ {S K : Type 0} {r : Rules Message S K Note} {owners : List ℕ} {g seen gone : ℕ} {h : Held S K} (k : KeepsRows r owners g seen gone h) where
  -- the rows and the done events are the same, and GVT was seen anew
  pub rows-again : (new : Held S K) → new.rows ≡ h.rows → new.done ≡ h.done → (now : ℕ) → seen ≤ now → KeepsRows r owners g now gone new
  rows-again new rows done now later = record {
    at_receivers = subst (λ z. All (λ row. row.place ≡ r.order.receiver row.message) z.all) (sym rows) k.at_receivers;
    home = subst (λ z. All (λ row. is_of owners g row.place ≡ true) z.all) (sym rows) k.home;
    ordered = subst (λ z. AreInOrder r.order z.all) (sym rows) k.ordered;
    sealed = k.sealed;
    sealed_seen = let a = k.sealed_seen in omega arith;
    early = subst (λ z. All (λ row. r.order.time row.message < k.sealed) z.all) (sym rows) k.early;
    done_late = subst (λ ds. All (λ m. k.sealed ≤ r.order.time m) (messages_of ds)) (sym done) k.done_late;
    left_within = subst (λ z. z.left ≤ length z.all) (sym rows) k.left_within;
    gone_early = subst (λ z. All (λ row. r.order.time row.message < gone) (take z.left z.all)) (sym rows) k.gone_early;
  }

  -- rows left that are earlier than a moment
  pub rows-gone : (new : Held S K) (count moment : ℕ) → new.rows ≡ record h.rows { left = h.rows.left + count } → new.done ≡ h.done → count ≤ length (drop h.rows.left h.rows.all) →
      All (λ row. r.order.time row.message < moment) (take count (drop h.rows.left h.rows.all)) → (now : ℕ) → gone ≤ now → moment ≤ now → KeepsRows r owners g seen now new
  rows-gone new count moment rows done few early now later le = record {
    at_receivers = subst (λ z. All (λ row. row.place ≡ r.order.receiver row.message) z.all) (sym rows) k.at_receivers;
    home = subst (λ z. All (λ row. is_of owners g row.place ≡ true) z.all) (sym rows) k.home;
    ordered = subst (λ z. AreInOrder r.order z.all) (sym rows) k.ordered;
    sealed = k.sealed;
    sealed_seen = k.sealed_seen;
    early = subst (λ z. All (λ row. r.order.time row.message < k.sealed) z.all) (sym rows) k.early;
    done_late = subst (λ ds. All (λ m. k.sealed ≤ r.order.time m) (messages_of ds)) (sym done) k.done_late;
    left_within = subst (λ z. z.left ≤ length z.all) (sym rows) (let a = k.left_within in omega (arith, length-drop h.rows.left h.rows.all));
    gone_early = subst (λ z. All (λ row. r.order.time row.message < now) (take z.left z.all)) (sym rows)
        (subst (All (λ row. r.order.time row.message < now)) (sym (take-add h.rows.left count h.rows.all))
        (All-append (λ row. r.order.time row.message < now) (take h.rows.left h.rows.all) (take count (drop h.rows.left h.rows.all))
        (All-weaker (λ row. r.order.time row.message < gone) (λ row. r.order.time row.message < now) (λ row e. omega arith) _ k.gone_early)
        (All-weaker (λ row. r.order.time row.message < moment) (λ row. r.order.time row.message < now) (λ row e. omega arith) _ early)));
  }

module _ {S K : Type 0} (r : Rules Message S K Note) (O : IsOrder r.order) (V : S → Message → Type 0) (x : Setting S) (v : World Message S) (h : Held S K) (stands : StandsForGroup r V x v h) (c : ℕ) where
  -- the done events of the group are those of its members
  from-hand : All (λ m. c ≤ r.order.time m) (messages_of h.done) → (p : ℕ) → is_ours h.members p ≡ true → (m : Message) → IsIn r.order m (v.parts p).done → c ≤ r.order.time m
  from-hand late p t m i =
      let at = held-is (slice_get h.members p) t in
      a-message r.order O (λ z. c ≤ r.order.time z) m (messages_of h.done) late (done-in r O V (x.opening p) p (v.parts p) at.0 h (stands.members p at.0 at.1) m i)

  to-hand : ((p : ℕ) → is_ours h.members p ≡ true → (m : Message) → IsIn r.order m (v.parts p).done → c ≤ r.order.time m) → All (λ m. c ≤ r.order.time m) (messages_of h.done)
  to-hand late =
      each-message r.order O (λ m. c ≤ r.order.time m) (messages_of h.done) (λ m i.
      let p = r.order.receiver m in
      let t = stands.home m (let a = times-append r.order O m h.flow.queue (messages_of h.done) in omega arith) in
      let at = held-is (slice_get h.members p) t in
      late p t m (let a = done-times r O V (x.opening p) p (v.parts p) at.0 h stands.beside (stands.members p at.0 at.1) m refl in omega arith))

module _ {S K : Type 0} {r : Rules Message S K Note} {number end : S → ℕ} {is_placed : S → Type 0} {x : Setting S} {owners : List ℕ} {V : S → Message → Type 0} {groups g seen gone : ℕ} {last : List Step}
    {h : Held S K} (old : Holds r number end is_placed x owners V groups g seen last h) (k : KeepsRows r owners g seen gone h) (L : Laws (simulation_of r x)) (new : Held S K) where
  -- words were told, but no event was committed
  pub rows-does : DoesTold r V h new → new.rows ≡ h.rows → KeepsRows r owners g seen gone new
  rows-does d rows =
      let f = simulation_of r x in
      let v = done_by f (steps_told h.flow.words) (in_hand f seen (world_after f last)) in
      let s = d.stands x L v old.stands in
      let by = by-same (is_ours h.members) (is_of owners g) old.ours (steps_told d.did) s.2.by in
      let was = from-hand r L.order V x v h old.stands k.sealed k.done_late in
      let is = steps-from f L (is_of owners g) seen k.sealed k.sealed_seen (steps_told d.did) v old.safe by s.0 (λ p o. was p (old.ours p ∙ o)) in
      record {
        at_receivers = subst (λ z. All (λ row. row.place ≡ r.order.receiver row.message) z.all) (sym rows) k.at_receivers;
        home = subst (λ z. All (λ row. is_of owners g row.place ≡ true) z.all) (sym rows) k.home;
        ordered = subst (λ z. AreInOrder r.order z.all) (sym rows) k.ordered;
        sealed = k.sealed;
        sealed_seen = k.sealed_seen;
        early = subst (λ z. All (λ row. r.order.time row.message < k.sealed) z.all) (sym rows) k.early;
        done_late = to-hand r L.order V x (done_by f (steps_told d.did) v) new s.1 k.sealed (λ p o. is p (sym (old.ours p) ∙ (sym (s.2.same p) ∙ o)));
        left_within = subst (λ z. z.left ≤ length z.all) (sym rows) k.left_within;
        gone_early = subst (λ z. All (λ row. r.order.time row.message < gone) (take z.left z.all)) (sym rows) k.gone_early;
      }

-- the rows of an event of a group are of its message, at its receiver
abbrev IsOfEvent : {K : Type 0} → Order Message → DoneEvent K → Type 0
IsOfEvent o d = All (λ row. (row.message ≡ d.message) × (row.place ≡ o.receiver d.message)) d.rows

module _ {S K : Type 0} (r : Rules Message S K Note) where
  events-rows : IsOrder r.order → (s : S) (ms : List Message) → All (IsOfEvent r.order) (done_events_of r s ms)
  events-rows O s [] = All-nil (IsOfEvent r.order)
  events-rows O s (m ∷ ms) =
      All-cons (IsOfEvent r.order) (done_event_of r s m) (done_events_of r (r.after s m) ms) (event-rows r.order O m (r.notes s m)) (events-rows O (r.after s m) ms)

  -- those of all members are those of the group
  all-events : (members : List (Option S)) (P : DoneEvent K → Type 0) (ds : List (DoneEvent K)) → ((p : ℕ) → is_ours members p ≡ true → All P (done_events_at r.order p ds)) →
      All (λ m. is_ours members (r.order.receiver m) ≡ true) (messages_of ds) → All P ds
  all-events members P [] each home = All-nil P
  all-events members P (d ∷ ds) each home =
      let p = r.order.receiver d.message in
      let t = All-head (λ m. is_ours members (r.order.receiver m) ≡ true) d.message (messages_of ds) home in
      let here : All P (d ∷ done_events_at r.order p ds) = subst (λ b. All P (cond b (d ∷ done_events_at r.order p ds) (done_events_at r.order p ds))) (eq-eqb p p refl) (each p t) in
      All-cons P d ds (All-head P d (done_events_at r.order p ds) here)
      (all-events members P ds (λ q u. later q (r.order.receiver d.message == q) (each q u)) (All-tail (λ m. is_ours members (r.order.receiver m) ≡ true) d.message (messages_of ds) home))
    where
      later : (q : ℕ) (b : Bool) → All P (cond b (d ∷ done_events_at r.order q ds) (done_events_at r.order q ds)) → All P (done_events_at r.order q ds)
      later q true a = All-tail P d (done_events_at r.order q ds) a
      later q false a = a

  -- what holds of the messages of events holds of those of their rows
  rows-by : (Q : Message → Type 0) (ds : List (DoneEvent K)) → All (IsOfEvent r.order) ds → All Q (messages_of ds) → All (λ row. Q row.message) (rows_in ds)
  rows-by Q [] a b = All-nil (λ (row : Row). Q row.message)
  rows-by Q (d ∷ ds) a b =
      let q = All-head Q d.message (messages_of ds) b in
      All-append (λ row. Q row.message) d.rows (rows_in ds)
      (All-weaker (λ row. (row.message ≡ d.message) × (row.place ≡ r.order.receiver d.message)) (λ row. Q row.message) (λ row e. subst Q (sym e.0) q) d.rows (All-head (IsOfEvent r.order) d ds a))
      (rows-by Q ds (All-tail (IsOfEvent r.order) d ds a) (All-tail Q d.message (messages_of ds) b))

  rows-placed : (ds : List (DoneEvent K)) → All (IsOfEvent r.order) ds → All (λ row. row.place ≡ r.order.receiver row.message) (rows_in ds)
  rows-placed [] a = All-nil (λ (row : Row). row.place ≡ r.order.receiver row.message)
  rows-placed (d ∷ ds) a =
      All-append (λ row. row.place ≡ r.order.receiver row.message) d.rows (rows_in ds)
      (All-weaker (λ row. (row.message ≡ d.message) × (row.place ≡ r.order.receiver d.message)) (λ row. row.place ≡ r.order.receiver row.message) (λ row e. e.1 ∙ ap r.order.receiver (sym e.0)) d.rows
      (All-head (IsOfEvent r.order) d ds a))
      (rows-placed ds (All-tail (IsOfEvent r.order) d ds a))

  rows-ascend : IsOrder r.order → (ds : List (DoneEvent K)) → All (IsOfEvent r.order) ds → IsAscending r.order (messages_of ds) → AreInOrder r.order (rows_in ds)
  rows-ascend O [] a up = tt
  rows-ascend O (d ∷ ds) a up =
      let P : Row → Type 0 = λ row. (row.message ≡ d.message) × (row.place ≡ r.order.receiver d.message) in
      let mine = All-head (IsOfEvent r.order) d ds a in
      let rest = All-tail (IsOfEvent r.order) d ds a in
      let behind = rows-by (λ m. r.order.less d.message m ≡ true) ds rest (each-message r.order O (λ m. r.order.less d.message m ≡ true) (messages_of ds) up.0) in
      ordered-append r.order O d.rows (rows_in ds) (of-one-event r.order O d.message d.rows mine) (rows-ascend O ds rest up.1)
      (All-weaker P (λ z. All (λ y. r.order.less y.message z.message ≡ false) (rows_in ds))
      (λ z e. All-weaker (λ y. r.order.less d.message y.message ≡ true) (λ y. r.order.less y.message z.message ≡ false)
      (λ y l. ap (r.order.less y.message) e.0 ∙ less-asym r.order O d.message y.message l) (rows_in ds) behind) d.rows mine)

-- the front of a list
all-front : {X : Type 0} (P : X → Type 0) (xs ys : List X) → All P (xs ++ ys) → All P xs
all-front P [] ys a = All-nil P
all-front P (x ∷ xs) ys a = All-cons P x xs (All-head P x (xs ++ ys) a) (all-front P xs ys (All-tail P x (xs ++ ys) a))

-- an earlier message does not come after
not-before : (o : Order Message) (O : IsOrder o) (a b : Message) → o.time a < o.time b → o.less b a ≡ false
not-before o O a b l = go (o.less b a) refl
  where
    go : (c : Bool) → o.less b a ≡ c → c ≡ false
    go true e = absurd (let t = less-time o O b a e in omega arith)
    go false e = refl

module _ {S K : Type 0} {r : Rules Message S K Note} (O : IsOrder r.order) {V : S → Message → Type 0} {x : Setting S} {v : World Message S} {owners : List ℕ} {g seen gone : ℕ} {h : Held S K}
    (stands : StandsForGroup r V x v h) (mine : (p : ℕ) → is_ours h.members p ≡ is_of owners g p) (k : KeepsRows r owners g seen gone h) (new : Held S K) where
  -- done events are committed, all that are earlier than the GVT that the group saw
  pub rows-committed : (ds : List (DoneEvent K)) → h.done ≡ ds ++ new.done → new.rows ≡ record h.rows { all = h.rows.all ++ rows_in ds } → All (λ m. r.order.time m < seen) (messages_of ds) →
      All (λ m. seen ≤ r.order.time m) (messages_of new.done) → KeepsRows r owners g seen gone new
  rows-committed ds done rows early late =
      let o = r.order in
      let ms = map-append (λ (d : DoneEvent K). d.message) ds new.done in
      let home : All (λ m. is_ours h.members (o.receiver m) ≡ true) (messages_of h.done) =
      each-message o O (λ m. is_ours h.members (o.receiver m) ≡ true) (messages_of h.done) (λ m i. stands.home m (let a = times-append o O m h.flow.queue (messages_of h.done) in omega arith)) in
      let events : All (IsOfEvent o) h.done = all-events r h.members (IsOfEvent o) h.done (λ p t.
      let at = held-is (slice_get h.members p) t in
      subst (All (IsOfEvent o)) (sym (stands.members p at.0 at.1).done) (events-rows r O (reached r (x.opening p) (v.parts p).committed) (v.parts p).done)) home in
      let these : All (IsOfEvent o) ds = all-front (IsOfEvent o) ds new.done (subst (All (IsOfEvent o)) done events) in
      let split : messages_of h.done ≡ messages_of ds ++ messages_of new.done = ap messages_of done ∙ ms in
      let front : (P : Message → Type 0) → All P (messages_of h.done) → All P (messages_of ds) = λ P a. all-front P (messages_of ds) (messages_of new.done) (subst (All P) split a) in
      let up = ascending-left o O (messages_of ds) (messages_of new.done) (subst (IsAscending o) split stands.ascending) in
      let more = rows_in ds in
      let ours = front (λ m. is_of owners g (o.receiver m) ≡ true) (All-weaker (λ m. is_ours h.members (o.receiver m) ≡ true) (λ m. is_of owners g (o.receiver m) ≡ true) (λ m e. sym (mine (o.receiver m)) ∙ e) (messages_of h.done) home) in
      let placed = rows-placed r ds these in
      let from = rows-by r (λ m. k.sealed ≤ o.time m) ds these (front (λ m. k.sealed ≤ o.time m) k.done_late) in
      let homes : All (λ row. is_of owners g row.place ≡ true) more = both more placed (rows-by r (λ m. is_of owners g (o.receiver m) ≡ true) ds these ours) in
      record {
        at_receivers = subst (λ z. All (λ row. row.place ≡ o.receiver row.message) z.all) (sym rows) (All-append (λ row. row.place ≡ o.receiver row.message) h.rows.all more k.at_receivers placed);
        home = subst (λ z. All (λ row. is_of owners g row.place ≡ true) z.all) (sym rows) (All-append (λ row. is_of owners g row.place ≡ true) h.rows.all more k.home homes);
        ordered = subst (λ z. AreInOrder o z.all) (sym rows) (ordered-append o O h.rows.all more k.ordered (rows-ascend r O ds these up)
            (All-weaker (λ row. o.time row.message < k.sealed) (λ z. All (λ y. o.less y.message z.message ≡ false) more)
            (λ z e. All-weaker (λ row. k.sealed ≤ o.time row.message) (λ y. o.less y.message z.message ≡ false) (λ y l. not-before o O z.message y.message (omega arith)) more from) h.rows.all k.early));
        sealed = seen;
        sealed_seen = omega arith;
        early = subst (λ z. All (λ row. o.time row.message < seen) z.all) (sym rows) (All-append (λ row. o.time row.message < seen) h.rows.all more
            (All-weaker (λ row. o.time row.message < k.sealed) (λ row. o.time row.message < seen) (λ row e. let a = k.sealed_seen in omega arith) h.rows.all k.early)
            (rows-by r (λ m. o.time m < seen) ds these early));
        done_late = late;
        left_within = subst (λ z. z.left ≤ length z.all) (sym rows) (let a = k.left_within in let b = length-append h.rows.all more in omega arith);
        gone_early = subst (λ z. All (λ row. o.time row.message < gone) (take z.left z.all)) (sym rows)
            (subst (All (λ row. o.time row.message < gone)) (sym (take-append-le h.rows.left h.rows.all more k.left_within)) k.gone_early);
      }
    where
      both : (rows : List Row) → All (λ row. row.place ≡ r.order.receiver row.message) rows → All (λ row. is_of owners g (r.order.receiver row.message) ≡ true) rows →
          All (λ row. is_of owners g row.place ≡ true) rows
      both [] a b = All-nil (λ (row : Row). is_of owners g row.place ≡ true)
      both (y ∷ ys) a b =
          All-cons (λ (row : Row). is_of owners g row.place ≡ true) y ys
          (ap (is_of owners g) (All-head (λ row. row.place ≡ r.order.receiver row.message) y ys a) ∙ All-head (λ row. is_of owners g (r.order.receiver row.message) ≡ true) y ys b)
          (both ys (All-tail (λ row. row.place ≡ r.order.receiver row.message) y ys a) (All-tail (λ row. is_of owners g (r.order.receiver row.message) ≡ true) y ys b))

-- a group that has done nothing
pub rows-opened : {S K : Type 0} (r : Rules Message S K Note) (owners : List ℕ) (g seen gone : ℕ) (h : Held S K) → h.rows ≡ record { all = []; left = 0 } → h.done ≡ [] → KeepsRows r owners g seen gone h
rows-opened r owners g seen gone h rows done = record {
  at_receivers = subst (λ z. All (λ row. row.place ≡ r.order.receiver row.message) z.all) (sym rows) (All-nil (λ (row : Row). row.place ≡ r.order.receiver row.message));
  home = subst (λ z. All (λ row. is_of owners g row.place ≡ true) z.all) (sym rows) (All-nil (λ (row : Row). is_of owners g row.place ≡ true));
  ordered = subst (λ z. AreInOrder r.order z.all) (sym rows) tt;
  sealed = 0;
  sealed_seen = omega arith;
  early = subst (λ z. All (λ row. r.order.time row.message < 0) z.all) (sym rows) (All-nil (λ (row : Row). r.order.time row.message < 0));
  done_late = subst (λ ds. All (λ m. 0 ≤ r.order.time m) (messages_of ds)) (sym done) (All-nil (λ (m : Message). 0 ≤ r.order.time m));
  left_within = subst (λ z. z.left ≤ length z.all) (sym rows) (omega arith);
  gone_early = subst (λ z. All (λ row. r.order.time row.message < gone) (take z.left z.all)) (sym rows) (All-nil (λ (row : Row). r.order.time row.message < gone));
}
