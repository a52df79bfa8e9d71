-- A group posts: its block goes to the journal, and its letters to others on their way.
use Rattle.std.proofs.Common.{◌≡◌, ℕ, suc, ◌+◌, ◌<◌, ◌≤◌, inl, inr, Bool, true, false, All, cond, List, [], ◌∷◌, ◌++◌, map, length, slice_get, Some, refl, sym, ap, ◌∙◌, subst, arith, append-nil, set}
use Rattle.std.proofs.lemmas.Bool.{both_ways, cases_eq}
use Rattle.std.proofs.lemmas.List.Elements.{All-append, All-cons, All-filter, All-get_or, All-nil, All-weaker, filter_passes}
use Rattle.std.proofs.lemmas.Option.{get_or_from_slice_get, slice_get_within}
use Rattle.vlink.specs.declared.message.Message.{Message}
use Rattle.vlink.specs.declared.note.Note.{Note}
use Rattle.vlink.specs.Letters.{Letter}
use Rattle.virtual_time.specs.Law.{Rules, Order, IsOrder, Simulation, Laws, World, Part, AreBy, AreDone, IsNamed, IsSafePart, behind, done_by, in_hand, joined, received_by, run, start, waiting_in}
use Rattle.virtual_time.specs.declared.step.Step.{Step}
use Rattle.virtual_time.specs.declared.step.Step.TheVariants.{Take, Arrive, Run, Post, Gvt, Commit}
use Rattle.virtual_time.proofs.Groups.{blocks}
use Rattle.virtual_time.proofs.GroupSteps.{run-done}
use Rattle.virtual_time.proofs.Journal.{run-then}
use Rattle.virtual_time.proofs.Letters.{named-head, pluses-append, minuses-append, received-mine}
use Rattle.reverse.specs.Setting.{Setting, simulation_of}
use Rattle.gvt.specs.Horizon.{Floors}
use Rattle.group_queues.specs.Block.{steps_told}
use Rattle.group_hand.specs.Hands.{Held, StandsForGroup, is_ours}
use Rattle.group_hand.proofs.Going.{received-append}
use Rattle.group_exchange.specs.declared.mark.Standing.{Standing}
use Rattle.group_exchange.specs.Views.{Boxes, box_of, for_group, is_of, last_in, world_after}
use Rattle.group_exchange.specs.Keeps.{AreAsIn, AreGrouped, Holds, IsLeastFloor, IsMarked, IsRecorded}
use Rattle.group_exchange.proofs.Owners.{of-other, owner-is, received-group}
use Rattle.group_exchange.proofs.Alike.{are-done-same, done-same, in-hand-same, stands-alike}
use Rattle.group_exchange.proofs.Enabled.{block-done, done-then}
use Rattle.group_exchange.proofs.Marks.{marks-set}
use Rattle.group_exchange.proofs.Holding.{holds-empty}
use Rattle.group_exchange.proofs.InTime.{letters-lawful}

-- the same letters wait for the processes of the block
pub behind-same : (ours : ℕ → Bool) (a b : ℕ → ℕ) → ((p : ℕ) → ours p ≡ true → a p ≡ b p) → (xs : List Step) → AreBy ours xs → map (behind a) xs ≡ map (behind b) xs
behind-same ours a b same [] o = refl
behind-same ours a b same (Take p i ∷ xs) o = λ j. Take p (same p o.0 j + i) ∷ behind-same ours a b same xs o.1 j
behind-same ours a b same (Arrive p ∷ xs) o = ap (λ z. Arrive p ∷ z) (behind-same ours a b same xs o.1)
behind-same ours a b same (Run p ∷ xs) o = ap (λ z. Run p ∷ z) (behind-same ours a b same xs o.1)
behind-same ours a b same (Post p ∷ xs) o = ap (λ z. Post p ∷ z) (behind-same ours a b same xs o.1)
behind-same ours a b same (Gvt ∷ xs) o = absurd (both_ways false refl o.0)
behind-same ours a b same (Commit p ∷ xs) o = ap (λ z. Commit p ∷ z) (behind-same ours a b same xs o.1)

-- the number of the group of a process is one of so many
pub of-group : {processes groups : ℕ} {owners : List ℕ} → AreGrouped processes groups owners → (g p : ℕ) → is_of owners g p ≡ true → g < groups
of-group {groups = groups} {owners = owners} k g p o =
    let e = owner-is owners g p o in
    subst (λ n. n < groups) (get_or_from_slice_get owners p g 0 e) (All-get_or (λ n. n < groups) owners p 0 (slice_get_within owners p g e) k.within)

-- what holds of each message that is named in a list
each-named : (o : Order Message) (O : IsOrder o) (P : Message → Type 0) (ls : List Letter) → ((m : Message) → IsNamed o m ls → P m) → All (λ l. P l.message) ls
each-named o O P [] h = All-nil (λ l. P l.message)
each-named o O P (l ∷ ls) h = All-cons (λ z. P z.message) l ls (h l.message (named-head o O l ls)) (each-named o O P ls (λ m k. h m (let a = k in omega arith)))

module _ {S K : Type 0} (f : Simulation Message S K Note) (ours : ℕ → Bool) where
  -- the group is as it was in hand, all others stay, and what it sent is behind the letters that waited
  pub record PostsAll (v w w' : World Message S) : Type 0 where
    pub parts : (q : ℕ) → ours q ≡ true → w'.parts q ≡ v.parts q
    pub floors : (q : ℕ) → ours q ≡ true → w'.floors q ≡ v.floors q
    pub other_parts : (q : ℕ) → ours q ≡ false → w'.parts q ≡ w.parts q
    pub other_floors : (q : ℕ) → ours q ≡ false → w'.floors q ≡ w.floors q
    pub mail : (q : ℕ) → w'.mail q ≡ w.mail q ++ v.mail q
    pub gvt : w'.gvt ≡ w.gvt

  -- a block that was begun in another world, which had the same of the group
  pub posts-all : (seen : ℕ) (block : List Step) (u w : World Message S) → AreAsIn ours u w → seen ≤ w.gvt → AreBy ours block → AreDone f block (in_hand f seen u) →
      PostsAll (done_by f block (in_hand f seen u)) w (run f (map (behind (waiting_in f w)) block) w)
  posts-all seen block u w a low by done =
      let begun = in-hand-same f ours seen u w a in
      let here = are-done-same f ours block (in_hand f seen u) (in_hand f seen w) begun by done in
      let end = done-same f ours block (in_hand f seen u) (in_hand f seen w) begun by in
      let e = blocks f ours seen block w low by here ∙ ap (λ z. joined f ours z w) (run-done f ours block (in_hand f seen w) here) in
      subst (λ z. PostsAll (done_by f block (in_hand f seen u)) w z) (sym e) (record {
        parts = λ q o. ap (λ b. cond b ((done_by f block (in_hand f seen w)).parts q) (w.parts q)) o ∙ sym (end.alike.parts q o);
        floors = λ q o. ap (λ b. cond b ((done_by f block (in_hand f seen w)).floors q) (w.floors q)) o ∙ sym (end.floors q o);
        other_parts = λ q n. ap (λ b. cond b ((done_by f block (in_hand f seen w)).parts q) (w.parts q)) n;
        other_floors = λ q n. ap (λ b. cond b ((done_by f block (in_hand f seen w)).floors q) (w.floors q)) n;
        mail = λ q. ap (λ ls. w.mail q ++ ls) (sym (end.alike.mail q));
        gvt = refl;
      })

module _ {S K : Type 0} {r : Rules Message S K Note} {number end : S → ℕ} {is_placed : S → Type 0} {x : Setting S} {owners : List ℕ} {groups : ℕ} {steps : List Step} {mail : Boxes} {floors : Floors}
    {gvt : ℕ} {standings : List Standing} (k : IsRecorded r number end is_placed x owners groups steps mail floors gvt standings) (g : ℕ) {s : Standing}
    (m : IsMarked r number end is_placed x owners steps gvt g s) {V : S → Message → Type 0} {h : Held S K} (old : Holds r number end is_placed x owners V groups g s.seen (last_in s) h)
    (steps' : List Step) (more : steps' ≡ steps ++ map (behind (waiting_in (simulation_of r x) (world_after (simulation_of r x) steps))) (steps_told h.flow.words)) where
  -- what the group had in hand
  abbrev in_its_hand : World Message S
  in_its_hand = done_by (simulation_of r x) (steps_told h.flow.words) (in_hand (simulation_of r x) s.seen (world_after (simulation_of r x) (last_in s)))

  -- the world after these steps
  pub posted : PostsAll (simulation_of r x) (is_of owners g) in_its_hand (world_after (simulation_of r x) steps) (world_after (simulation_of r x) steps')
  posted =
      let f = simulation_of r x in
      let w = world_after f steps in
      let block = steps_told h.flow.words in
      subst (λ z. PostsAll f (is_of owners g) in_its_hand w z) (sym (ap (world_after f) more ∙ run-then f steps (map (behind (waiting_in f w)) block) (start f)))
      (posts-all f (is_of owners g) s.seen block (world_after f (last_in s)) w m.same (let a = m.seen_low in let b = k.gvt_is in omega arith) old.by old.enabled)

  -- each process's letters
  mail-grows : (q : ℕ) → (world_after (simulation_of r x) steps').mail q ≡ (world_after (simulation_of r x) steps).mail q ++ received_by r.order q h.flow.abroad
  mail-grows q =
      posted.mail q ∙ ap (λ ls. (world_after (simulation_of r x) steps).mail q ++ ls) (old.stands.mail q ∙ ap (received_by r.order q) (append-nil h.flow.abroad))

  -- each step can be done where it stands
  pub posted-done : AreDone (simulation_of r x) steps' (start (simulation_of r x))
  posted-done =
      let f = simulation_of r x in
      let w = world_after f steps in
      subst (λ ss. AreDone f ss (start f)) (sym more) (done-then f steps (map (behind (waiting_in f w)) (steps_told h.flow.words)) (start f) k.enabled
      (block-done f (is_of owners g) s.seen (steps_told h.flow.words) (world_after f (last_in s)) w m.same (let a = m.seen_low in let b = k.gvt_is in omega arith) old.by old.enabled))

  -- letters to others go to processes, and are not after the end
  pub abroad-lawful : Laws (simulation_of r x) → All (λ l. (r.order.receiver l.message < x.processes) × (r.order.time l.message ≤ x.until)) h.flow.abroad
  abroad-lawful L =
      each-named r.order L.order (λ z. (r.order.receiver z < x.processes) × (r.order.time z ≤ x.until)) h.flow.abroad (λ z n.
      letters-lawful (simulation_of r x) L steps' (r.order.receiver z) z (
      let q = r.order.receiver z in
      let w = world_after (simulation_of r x) steps in
      let mine = received-mine r.order L.order q z refl h.flow.abroad in
      let a = pluses-append r.order L.order z (w.mail q) (received_by r.order q h.flow.abroad) in
      let b = minuses-append r.order L.order z (w.mail q) (received_by r.order q h.flow.abroad) in
      subst (λ ls. IsNamed r.order z ls) (sym (mail-grows q)) (let c = mine.0 in let d = mine.1 in omega arith)))

  -- other groups stay
  others-stay : (i : ℕ) → (i ≡ g → ⊥) → AreAsIn (is_of owners i) (world_after (simulation_of r x) steps) (world_after (simulation_of r x) steps')
  others-stay i n = record {
    parts = λ p o. sym (posted.other_parts p (of-other owners g i p n o));
    floors = λ p o. sym (posted.other_floors p (of-other owners g i p n o));
  }

  -- what the exchange keeps
  pub kept-posted : Laws (simulation_of r x) → (mail' : Boxes) → mail'.owners ≡ mail.owners → length mail'.boxes ≡ length mail.boxes →
      ((i : ℕ) → i < groups → box_of mail'.boxes i ≡ box_of mail.boxes i ++ for_group r.order owners i h.flow.abroad) →
      (floors' : Floors) → length floors'.floors ≡ length floors.floors → floors'.until ≡ floors.until →
      (d : ℕ) → IsLeastFloor (is_ours h.members) (suc x.until) in_its_hand.floors d → slice_get floors'.floors g ≡ Some d →
      ((i : ℕ) → (i ≡ g → ⊥) → slice_get floors'.floors i ≡ slice_get floors.floors i) →
      (now : Standing) → last_in now ≡ steps' → now.steps ≡ length steps' → now.seen ≡ s.seen → (standings' : List Standing) → standings' ≡ set standings g now →
      IsRecorded r number end is_placed x owners groups steps' mail' floors' gvt standings'
  kept-posted L mail' owners-is count grows floors' floor_count until d least here others now last place sees standings' told =
      let f = simulation_of r x in
      record {
        laid = k.laid;
        grouped = k.grouped;
        owners_is = owners-is ∙ k.owners_is;
        boxes = count ∙ k.boxes;
        home = λ i j. subst (λ ls. All (λ l. is_of owners i (r.order.receiver l.message) ≡ true) ls) (sym (grows i j))
            (All-append (λ l. is_of owners i (r.order.receiver l.message) ≡ true) (box_of mail.boxes i) (for_group r.order owners i h.flow.abroad) (k.home i j)
            (filter_passes (λ l. is_of owners i (r.order.receiver l.message)) h.flow.abroad));
        in_time = λ i j. subst (λ ls. All (λ l. r.order.time l.message ≤ x.until) ls) (sym (grows i j))
            (All-append (λ l. r.order.time l.message ≤ x.until) (box_of mail.boxes i) (for_group r.order owners i h.flow.abroad) (k.in_time i j)
            (All-filter (λ l. is_of owners i (r.order.receiver l.message)) (λ l. r.order.time l.message ≤ x.until) h.flow.abroad
            (All-weaker (λ l. (r.order.receiver l.message < x.processes) × (r.order.time l.message ≤ x.until)) (λ l. r.order.time l.message ≤ x.until) (λ l e. e.1) h.flow.abroad (abroad-lawful L))));
        mail_is = λ i p o.
            mail-grows p ∙
            ((λ j. k.mail_is i p o j ++ sym (received-group r.order owners i p o h.flow.abroad) j) ∙
            (sym (received-append r.order p (box_of mail.boxes i) (for_group r.order owners i h.flow.abroad)) ∙ ap (received_by r.order p) (sym (grows i (of-group k.grouped i p o)))));
        floor_count = floor_count ∙ k.floor_count;
        until = until ∙ k.until;
        floors_is = λ i c e. elim (cases_eq i g) [
          | inl j ↦ (
              let same : d ≡ c = (let a : Some d ≡ Some c = sym here ∙ (ap (slice_get floors'.floors) (sym j) ∙ e) in cc) in
              subst (λ z. IsLeastFloor (is_of owners z) (suc x.until) (world_after f steps').floors c) (sym j)
              (subst (λ z. IsLeastFloor (is_of owners g) (suc x.until) (world_after f steps').floors z) same (record {
                bound = λ p o. let a = least.bound p (old.ours p ∙ o) in let b = posted.floors p o in omega arith;
                reached = elim least.reached [
                  | inl a ↦ inl a
                  | inr a ↦ (let o = sym (old.ours a.0) ∙ a.1 in inr (a.0, o, posted.floors a.0 o ∙ a.2))
                ];
              })))
          | inr n ↦ (let was = k.floors_is i c (sym (others i n) ∙ e) in let stay = others-stay i n in record {
            bound = λ p o. let a = was.bound p o in let b = stay.floors p o in omega arith;
            reached = elim was.reached [ inl a ↦ inl a | inr a ↦ inr (a.0, a.1, sym (stay.floors a.0 a.1) ∙ a.2) ];
          })
        ];
        gvt_is = k.gvt_is ∙ sym posted.gvt;
        enabled = posted-done;
        marked = marks-set k.marked steps' g others-stay now last place (let a = m.seen_low in omega arith) standings' told;
      }

  -- what the group keeps, whose letters and block left
  pub holds-posted : (new : Held S K) → new.members ≡ h.members → new.flow.words ≡ [] →
      ((v : World Message S) → StandsForGroup r V x v h → StandsForGroup r V x (in_hand (simulation_of r x) v.gvt v) new) →
      Holds r number end is_placed x owners V groups g s.seen steps' new
  holds-posted new members empty stands =
      let f = simulation_of r x in
      let w' = world_after f steps' in
      let ours : (p : ℕ) → is_ours new.members p ≡ is_of owners g p = λ p. ap (λ z. is_ours z p) members ∙ old.ours p in
      holds-empty k.laid k.grouped old.number_is new ours empty
      (stands-alike r V x (is_of owners g) (in_hand f in_its_hand.gvt in_its_hand) (in_hand f s.seen w') new ours
      (record { parts = λ p o. sym (posted.parts p o); floors = λ p o. sym (posted.floors p o) }) (λ q. refl) (stands in_its_hand old.stands))
      (record {
        parts = λ p o. subst (λ z. IsSafePart f p s.seen z) (sym (posted.parts p o)) (old.safe.parts p o);
        outboxes = λ p o z n. old.safe.outboxes p o z (subst (λ (y : Part Message S). IsNamed r.order z y.outbox) (posted.parts p o) n);
        mail = λ p z n. absurd (omega arith);
        seen = refl;
      })
