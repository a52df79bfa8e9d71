-- A block goes to the journal, and an outbox to the mail.
use Rattle.std.proofs.Common.{◌≡◌, ℕ, Bool, ◌+◌, ◌<◌, ◌≤◌, All, List, [], ◌∷◌, ◌++◌, map, length, slice_get, Option, Some, refl, sym, ap, ◌∙◌, subst, arith, length-append, set}
use Rattle.std.proofs.lemmas.List.{length-map}
use Rattle.std.proofs.lemmas.List.Elements.{All-nil, All-cons}
use Rattle.vlink.specs.declared.message.Message.{Message}
use Rattle.vlink.specs.declared.note.Note.{Note}
use Rattle.vlink.specs.Letters.{Letter}
use Rattle.virtual_time.specs.Law.{Rules, IsOrder, Simulation, Laws, put, IsNamed, received_by, Part, opened, emptied, floor_of, World, start, run, Act, after_moves, Emptying, IsSafePart, Posted, Entry, own_in, step_by, acts_of, steps_of, steps, reach, after_own, delivered_block}
use Rattle.virtual_time.specs.declared.step.Step.{Step}
use Rattle.virtual_time.specs.declared.moved.Move.{Move}
use Rattle.virtual_time.proofs.Letters.{named-head}
use Rattle.virtual_time.proofs.Reading.{reached-keeps}
use Rattle.virtual_time.proofs.Kept.{put_elim}
use Rattle.virtual_time.proofs.Safety.{outboxes}
use Rattle.virtual_time.proofs.SafePart.{acted-safe}
use Rattle.virtual_time.proofs.Journal.{put_here, local-append, run-then, moves, posts, emptied-last}
use Rattle.reverse.specs.Setting.{Setting, simulation_of}
use Rattle.antimessages.specs.Letters.{Store}
use Rattle.antimessages.specs.Mailing.{letters_for}
use Rattle.gvt.specs.Horizon.{Floors}
use Rattle.process_queues.specs.Queues.{Queues, StandsFor, Does}
use Rattle.journal.specs.Deeds.{entry_by}
use Rattle.process_exchange.specs.declared.mark.Standing.{Standing}
use Rattle.process_exchange.specs.Views.{Ledger, HeldState, marks_in, place_of, own_of}
use Rattle.process_exchange.specs.Keeps.{IsRecorded, Holds}
use Rattle.process_exchange.specs.Effects.{mark_at, posts as posts-effect}
use Rattle.process_exchange.proofs.Gone.{gone-stays}
use Rattle.process_exchange.proofs.Growth.{marks-set, kept-more}
use Rattle.process_exchange.proofs.Holding.{Joined}
use Rattle.process_exchange.proofs.Moves.{in_hand}
use Rattle.process_exchange.proofs.Entered.{Entered, own-more, ledger-now, held-now}

-- letters to processes of which there are so many
letters-go : {S K : Type 0} (r : Rules Message S K Note) (O : IsOrder r.order) (n : ℕ) (ls : List Letter) → ((m : Message) → IsNamed r.order m ls → r.order.receiver m < n) →
    All (λ l. r.order.receiver l.message < n) ls
letters-go r O n [] h = All-nil (λ l. r.order.receiver l.message < n)
letters-go r O n (l ∷ ls) h =
    All-cons (λ z. r.order.receiver z.message < n) l ls (h l.message (named-head r.order O l ls)) (letters-go r O n ls (λ m k. h m (let a = k in omega arith)))

-- the actor of a process is told the end time of the run
end-told : {S K : Type 0} (r : Rules Message S K Note) (is_value : S → Message → Type 0) (opening : S) (part : Part Message S) (q : Queues S K) → StandsFor r is_value opening part q → IsOrder r.order →
    (end : S → ℕ) → ((s : S) (m : Message) → end (r.after s m) ≡ end s) → (until : ℕ) → end opening ≡ until → end q.past.state ≡ until
end-told r is_value opening part q h O end stays until is =
    subst (λ s. end s ≡ until) (sym (sym h.past.state ∙ h.well.state_is))
    (reached-keeps r O (λ s. end s ≡ until) (λ s m e. stays s m ∙ e) opening (part.committed ++ part.done) is)

-- a process alone, when its block is in the journal
part-posted : {S K : Type 0} (f : Simulation Message S K Note) (p : ℕ) (own own' : List (Act Message)) (block : List Move) → own' ≡ own ++ acts_of (Posted block) →
    after_own f p own' ≡ emptied (after_moves f.rules (f.opening p) block (after_own f p own))
part-posted f p own own' block more =
    ap (after_own f p) more ∙ (local-append f (f.opening p) own (acts_of (Posted block)) (opened (f.opening p)) ∙ emptied-last f (f.opening p) block (after_own f p own))

module _ {S K : Type 0} {r : Rules Message S K Note} {number end : S → ℕ} {is_placed : S → Type 0} {x : Setting S} {es : List (Entry Message)} {mail : List Store} {floors : Floors}
    {gvt count : ℕ} {standings : List Standing} (k : IsRecorded r number end is_placed x es mail floors gvt count standings)
    {is_value : S → Message → Type 0} {p seen gone : ℕ} {block : List Move} {own : List (Act Message)} {q : Queues S K}
    (h : Holds r number end is_placed x is_value p seen gone block own q) (L : Laws (simulation_of r x)) where
  module _ (j : Joined (simulation_of r x) es p block own) where
    -- what is in its outbox goes to processes
    pub outbox-goes : All (λ l. r.order.receiver l.message < length mail) q.outbox
    outbox-goes =
        let f = simulation_of r x in
        let w = reach f es in
        let xs = steps es ++ map (step_by p) block in
        let done = after_moves r (x.opening p) block (w.parts p) in
        let there : (run f xs (start f)).parts p ≡ done =
        ap (λ (z : World Message S). z.parts p) (run-then f (steps es) (map (step_by p) block) (start f) ∙ moves f p h.number_is block w j.enabled) ∙ put_here p done w.parts in
        let same : q.outbox ≡ ((run f xs (start f)).parts p).outbox = h.stands.outbox ∙ ap (λ (z : Part Message S). z.outbox) (j.part ∙ sym there) in
        letters-go r L.order (length mail) q.outbox (λ m n. subst (λ b. r.order.receiver m < b) (sym k.boxes) (outboxes f L xs p m (subst (λ z. IsNamed r.order m z) same n)))

  module _ {prior : Option ℕ} {es' : List (Entry Message)} {standings' : List Standing} {now : Standing} (w : Entered es standings p prior own (Posted block) es' standings' now) (sees : now.seen ≡ seen)
      {q' : Queues S K} (does : Does r is_value (λ opening. emptied) q q') where
    -- what the Exchange keeps
    pub kept-posted : Joined (simulation_of r x) es p block own → seen ≤ gvt → ((s : S) (m : Message) → end (r.after s m) ≡ end s) →
        (mail' : List Store) → length mail' ≡ length mail → ((n : ℕ) → letters_for n mail' ≡ letters_for n mail ++ received_by r.order n q.outbox) →
        (floors' : Floors) → length floors'.floors ≡ length floors.floors → floors'.until ≡ floors.until →
        (floor : ℕ) → ((opening : S) (part : Part Message S) → StandsFor r is_value opening part q' → floor ≡ floor_of r.order (end q'.past.state) part) →
        slice_get floors'.floors p ≡ Some floor → ((n : ℕ) → (n ≡ p → ⊥) → slice_get floors'.floors n ≡ slice_get floors.floors n) →
        (count' : ℕ) → count' ≡ count + (length block + 1) → IsRecorded r number end is_placed x es' mail' floors' gvt count' standings'
    kept-posted j low stays mail' boxes letters floors' floor_count until floor floor-is here others count' counts =
        let f = simulation_of r x in
        let i = h.number_is in
        let world = reach f es in
        let part = after_moves r (x.opening p) block (after_own f p own) in
        let stands = does (x.opening p) part h.stands in
        let end-is = end-told r is_value (x.opening p) (emptied part) q' stands L.order end stays x.until (k.laid.end_is p i) in
        let at-end : floor ≡ floor_of r.order x.until part = floor-is (x.opening p) (emptied part) stands ∙ ap (λ n. floor_of r.order n (emptied part)) end-is in
        let many : length (steps_of {M = Message} p (Posted block)) ≡ length block + 1 =
        length-append (map (step_by p) block) (Step.Post p ∷ []) ∙ ap (λ n. n + 1) (length-map block (step_by p)) in
        subst (λ us. IsRecorded r number end is_placed x us mail' floors' gvt count' standings') (sym w.journal)
        (subst (λ bs. IsRecorded r number end is_placed x (es ++ entry_by p prior (Posted block) ∷ []) mail' floors' gvt count' bs) (sym w.marked)
        (kept-more k (entry_by p prior (Posted block)) (delivered_block f p block world) (posts f p i block world j.enabled) (ap (λ z. put p z world.parts) (sym (emptied-last f (x.opening p) block (world.parts p))))
        mail' boxes (λ n b. letters n ∙ (λ m. k.mail_is n b m ++ received_by r.order n ((h.stands.outbox ∙ ap (λ (z : Part Message S). z.outbox) j.part) m)))
        floors' floor_count until
        (put_elim (λ n d. n < x.processes → slice_get floors'.floors n ≡ Some d) p (floor_of r.order x.until (after_moves r (x.opening p) block (world.parts p))) world.floors
        (λ b. here ∙ ap (λ z. Some z) (at-end ∙ ap (floor_of r.order x.until) j.part)) (λ n other b. others n other ∙ k.floors_is n b))
        gvt k.gvt_is count' (counts ∙ ap (λ n. count + n) (sym many)) (omega arith)
        (set standings p now) (marks-set es (entry_by p prior (Posted block)) k.marked (λ n. refl) i now w.place (w.told ∙ ap (own_in p) w.journal) (subst (λ n. n ≤ gvt) (sym sees) low))))

    -- what the Held keeps
    pub holds-posted : q'.left ≡ q.left → (block' : List Move) → block' ≡ [] →
        Holds r number end is_placed x is_value p now.seen gone block' (own_of p now.last) q'
    holds-posted left block' none =
        let f = simulation_of r x in
        let part = after_moves r (x.opening p) block (after_own f p own) in
        let next = part-posted f p own (own_of p now.last) block (own-more w) in
        subst (λ b. Holds r number end is_placed x is_value p now.seen gone b (own_of p now.last) q') (sym none) (subst (λ n. Holds r number end is_placed x is_value p n gone [] (own_of p now.last) q') (sym sees) (record {
          laid = h.laid;
          number_is = h.number_is;
          stands = subst (λ z. StandsFor r is_value (x.opening p) z q') (sym next) (does (x.opening p) part h.stands);
          safe = subst (λ z. IsSafePart f p seen z) (sym next) (acted-safe f L p seen h.number_is Emptying part h.safe tt);
          gone_early = gone-stays r (x.opening p) part q h.stands gone h.gone_early (Emptying ∷ []) _ next q' left;
          enabled = tt;
        }))

module _ {S K : Type 0} (f : Simulation Message S K Note) (x : Ledger) (h : HeldState S) (y : Ledger) (k : HeldState S) where
  posts-some : (ms : List Move) → 0 < length ms →
      y ≡ record { entries = x.entries ++ entry_by h.number h.mark.place (Posted ms) ∷ []; marks = set x.marks h.number (mark_at (Some (length x.entries)) h.mark.seen); shared = x.shared; limit = x.limit } →
      k ≡ record h { part = emptied h.part; block = []; own = h.own ++ acts_of (Posted ms); mark = mark_at (Some (length x.entries)) h.mark.seen } →
      posts-effect f ms x h y k
  posts-some [] some a b = absurd (omega arith)
  posts-some (m ∷ ms) some a b = (a, b)

  -- an empty block
  pub posts-none : (ms : List Move) → length ms ≡ 0 → y ≡ x → k ≡ h → posts-effect f ms x h y k
  posts-none [] none a b = (a, b)
  posts-none (m ∷ ms) none a b = absurd (omega arith)

-- what was done
pub block-posted : {S K : Type 0} (f : Simulation Message S K Note) {es : List (Entry Message)} {standings : List Standing} {p seen : ℕ} {own : List (Act Message)} {prior : Option ℕ} {block : List Move} {es' : List (Entry Message)}
    {standings' : List Standing} {now : Standing} → Entered es standings p prior own (Posted block) es' standings' now → now.seen ≡ seen → 0 < length block → (shared shared' : Bool) → shared' ≡ shared → (limit gone : ℕ) (block' : List Move) → block' ≡ [] →
    posts-effect f block
    (record { entries = es; marks = marks_in standings; shared = shared; limit = limit }) (in_hand f p own prior seen gone block)
    (record { entries = es'; marks = marks_in standings'; shared = shared'; limit = limit }) (in_hand f p (own_of p now.last) (place_of now.last) now.seen gone block')
block-posted f {p = p} {seen = seen} {own = own} {block = block} {now = now} w sees some shared shared' same limit gone block' none =
    let part-is = part-posted f p own (own_of p now.last) block (own-more w) in
    posts-some f _ _ _ _ block some (ledger-now w seen sees shared shared' same limit) (held-now w seen sees f _ part-is block' none gone)
