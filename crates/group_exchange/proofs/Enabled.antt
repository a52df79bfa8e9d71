-- Each step of the journal could be done where it stands.
use Rattle.std.proofs.Common.{◌≡◌, ℕ, ◌+◌, ◌<◌, ◌≤◌, Bool, true, false, cond, List, [], ◌∷◌, ◌++◌, All, map, length, nat_lt, ◌&&◌, refl, sym, ap, ◌∙◌, subst, arith, append-nil, length-append, lt-ltb, ltb-true}
use Rattle.std.proofs.lemmas.Bool.{and_parts, both_ways}
use Rattle.std.proofs.lemmas.List.Elements.{All-head, All-tail}
use Rattle.vlink.specs.declared.message.Message.{Message}
use Rattle.vlink.specs.declared.note.Note.{Note}
use Rattle.vlink.specs.Letters.{Letter}
use Rattle.virtual_time.specs.Law.{Simulation, World, AreBy, AreDone, behind, can_commit, fetched, in_hand, is_by, is_early, is_enabled, joined, received_by, run, step, waiting_in}
use Rattle.virtual_time.specs.declared.step.Step.{Step}
use Rattle.virtual_time.specs.declared.step.Step.TheVariants.{Take, Arrive, Run, Post, Gvt, Commit}
use Rattle.virtual_time.proofs.Groups.{effect-gvt, joins, step-does}
use Rattle.virtual_time.proofs.Journal.{early-later, takes}
use Rattle.virtual_time.proofs.Kept.{put_elim}
use Rattle.group_hand.proofs.Going.{received-first, received-skip}
use Rattle.group_exchange.specs.Keeps.{AreAsIn}
use Rattle.group_exchange.specs.Effects.{takes_of}
use Rattle.group_exchange.proofs.Alike.{are-done-same, in-hand-same}

module _ {S K : Type 0} (f : Simulation Message S K Note) where
  -- steps, and then others
  pub done-then : (xs ys : List Step) (v : World Message S) → AreDone f xs v → AreDone f ys (run f xs v) → AreDone f (xs ++ ys) v
  unfolding run
  done-then [] ys v a b = b
  done-then (x ∷ xs) ys v a b = (a.0, done-then xs ys (step f x v) a.1 b)

  -- GVT can be set at any time
  pub gvt-done : (v : World Message S) → AreDone f (Gvt ∷ []) v
  unfolding is_enabled
  gvt-done v = (refl, tt)

  module _ (ours : ℕ → Bool) where
    its-part : {X : Type 0} (p : ℕ) (g h : ℕ → X) → ours p ≡ true → cond (ours p) (g p) (h p) ≡ g p
    its-part p g h o = ap (λ b. cond b (g p) (h p)) o

    -- a step of the group, in hand and in the world
    enabled-behind : (v w : World Message S) (x : Step) → v.gvt ≤ w.gvt → is_by ours x ≡ true → is_enabled f x v ≡ true → is_enabled f (behind (waiting_in f w) x) (joined f ours v w) ≡ true
    unfolding is_enabled
    enabled-behind v w (Take p i) l o e =
        let a = and_parts (nat_lt p f.processes) (nat_lt i (length (v.mail p))) e in
        let b = ltb-true i (length (v.mail p)) a.1 in
        let c = length-append (w.mail p) (v.mail p) in
        rw a.0 (lt-ltb (length (w.mail p) + i) (length (w.mail p ++ v.mail p)) (omega arith))
    enabled-behind v w (Arrive p) l o e = rw (its-part p v.parts w.parts o) e
    enabled-behind v w (Run p) l o e = rw (its-part p v.parts w.parts o) e
    enabled-behind v w (Post p) l o e = e
    enabled-behind v w Gvt l o e = absurd (both_ways false refl o)
    enabled-behind v w (Commit p) l o e =
        let a = and_parts (nat_lt p f.processes) (is_early f v.gvt (v.parts p).done && can_commit f.rules.order (v.parts p) (v.parts p).done) e in
        let b = and_parts (is_early f v.gvt (v.parts p).done) (can_commit f.rules.order (v.parts p) (v.parts p).done) a.1 in
        rw (its-part p v.parts w.parts o) (rw a.0 (rw (early-later f v.gvt w.gvt l (v.parts p).done b.0) b.1))

    block-joined : (xs : List Step) (v w : World Message S) → v.gvt ≤ w.gvt → AreBy ours xs → AreDone f xs v → AreDone f (map (behind (waiting_in f w)) xs) (joined f ours v w)
    unfolding run
    block-joined [] v w l o d = tt
    block-joined (x ∷ xs) v w l o d = (
      enabled-behind v w x l o.0 d.0,
      subst (λ z. AreDone f (map (behind (waiting_in f w)) xs) z) (sym (joins f ours (x ∷ []) v w l (o.0, tt) (d.0, tt)))
          (block-joined xs (step f x v) w (let a = ap (λ (z : World Message S). z.gvt) (step-does f ours x v d.0) ∙ effect-gvt f ours x v o.0 in omega arith) o.1 d.1),
    )

    -- before its block the group is that of the world
    hand-joined : (seen : ℕ) (w : World Message S) → joined f ours (in_hand f seen w) w ≡ w
    hand-joined seen w = λ j. record {
      parts = λ q. same (ours q) (w.parts q) j;
      mail = λ q. append-nil (w.mail q) j;
      floors = λ q. same (ours q) (w.floors q) j;
      gvt = w.gvt;
    }
      where
        same : {X : Type 0} (b : Bool) (x : X) → cond b x x ≡ x
        same true x = refl
        same false x = refl

    -- a block that was begun in another world, which had the same of the group
    pub block-done : (seen : ℕ) (block : List Step) (u w : World Message S) → AreAsIn ours u w → seen ≤ w.gvt → AreBy ours block → AreDone f block (in_hand f seen u) →
        AreDone f (map (behind (waiting_in f w)) block) w
    block-done seen block u w a low by done =
        let here = are-done-same f ours block (in_hand f seen u) (in_hand f seen w) (in-hand-same f ours seen u w a) by done in
        subst (λ z. AreDone f (map (behind (waiting_in f w)) block) z) (hand-joined seen w) (block-joined block (in_hand f seen w) w low by here)

    -- each letter is there when it is taken
    take-done : (p : ℕ) (w : World Message S) (l : Letter) (rest : List Letter) → p < f.processes → w.mail p ≡ l ∷ rest → is_enabled f (Take p 0) w ≡ true
    unfolding is_enabled
    take-done p w l rest inside e = rw (lt-ltb p f.processes inside) (lt-ltb 0 (length (w.mail p)) (let a = ap length e in omega arith))

    pub takes-done : (ls : List Letter) (w : World Message S) → All (λ l. ours (f.rules.order.receiver l.message) ≡ true) ls → All (λ l. f.rules.order.receiver l.message < f.processes) ls →
        ((q : ℕ) → ours q ≡ true → w.mail q ≡ received_by f.rules.order q ls) → AreDone f (takes_of f.rules.order ls) w
    unfolding run
    takes-done [] w home within mail = tt
    takes-done (l ∷ ls) w home within mail =
        let o = f.rules.order in
        let p = o.receiver l.message in
        let rest = received_by o p ls in
        let mine = All-head (λ l. ours (o.receiver l.message) ≡ true) l ls home in
        let inside = All-head (λ l. o.receiver l.message < f.processes) l ls within in
        let first = mail p mine ∙ received-first o p l ls refl in
        let next = fetched f p (l ∷ []) rest w in (
          take-done p w l rest inside first,
          subst (λ z. AreDone f (takes_of o ls) z) (sym (takes f p inside (l ∷ []) rest w first))
              (takes-done ls next (All-tail (λ l. ours (o.receiver l.message) ≡ true) l ls home) (All-tail (λ l. o.receiver l.message < f.processes) l ls within)
              (put_elim (λ q m. ours q ≡ true → m ≡ received_by o q ls) p rest w.mail (λ h. refl) (λ q n h. mail q h ∙ received-skip o q l ls (λ e. n (sym e))))),
        )
