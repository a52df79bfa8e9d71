-- The halves of marks, in lists; and that both halves of a group's mark tell one thing.
use Rattle.std.proofs.Common.{◌≡◌, ℕ, zero, suc, ◌<◌, ◌≤◌, true, ◌++◌, List, [], ◌∷◌, All, map, set, replicate, length, slice_get, get_or, Some, refl, sym, ap, ◌∙◌, subst, arith}
use Rattle.vlink.specs.declared.message.Message.{Message}
use Rattle.vlink.specs.declared.note.Note.{Note}
use Rattle.virtual_time.specs.Law.{Rules, AreDone, done_by, in_hand, behind, waiting_in}
use Rattle.virtual_time.specs.declared.step.Step.{Step}
use Rattle.reverse.specs.Setting.{Setting, simulation_of}
use Rattle.gvt.specs.Horizon.{Floors}
use Rattle.halves.specs.declared.LeftHalf.{LeftHalf}
use Rattle.group_queues.specs.Block.{steps_told}
use Rattle.group_hand.specs.Hands.{Held}
use Rattle.group_exchange.specs.declared.mark.Standing.{Standing}
use Rattle.group_exchange.specs.Views.{Boxes, IsUnplaced, blank, is_of, last_in, mark_in, mark_of, marks_in, world_after}
use Rattle.group_exchange.specs.Keeps.{AreAsIn, Holds, IsMarked, IsRecorded}
use Rattle.group_exchange.proofs.Alike.{are-done-same, in-hand-same}
use Rattle.group_exchange.proofs.Posted.{posted}

value-there : (marks : List (LeftHalf Standing)) (g : ℕ) (b : LeftHalf Standing) → g < length marks → b ≡ get_or marks g b → slice_get (map (λ b. b.value) marks) g ≡ Some b.value
value-there [] g b h e = absurd (omega arith)
value-there (m ∷ ms) zero b h e = ap (λ (z : LeftHalf Standing). Some z.value) (sym e)
value-there (m ∷ ms) (suc g) b h e = value-there ms g b (omega arith) e

-- the half at place g tells where group g stands
pub half-told : (marks : List (LeftHalf Standing)) (n g : ℕ) → n ≡ g → (b : LeftHalf Standing) (s : Standing) → g < length marks → b ≡ get_or marks n b → b.value ≡ s →
    slice_get (map (λ b. b.value) marks) g ≡ Some s
half-told marks n g is b s within at tells =
    value-there marks g b within (at ∙ ap (λ i. get_or marks i b) is) ∙ ap (λ z. Some z) tells

-- the mark of a group that stands there
pub mark-told : (standings : List Standing) (g : ℕ) (s : Standing) → slice_get standings g ≡ Some s → s.steps ≡ length (last_in s) →
    mark_of (marks_in standings) g ≡ record { steps = length (last_in s); seen = s.seen }
mark-told [] g s e p = absurd (let k : ⊥ = cc in k)
mark-told (z ∷ zs) zero s e p =
    let k : z ≡ s = cc in
    let a : z.steps ≡ length (last_in s) = ap (λ (y : Standing). y.steps) k ∙ p in
    let b : z.seen ≡ s.seen = ap (λ (y : Standing). y.seen) k in
    λ i. record { steps = a i; seen = b i }
mark-told (z ∷ zs) (suc g) s e p = mark-told zs g s e p

module _ {S K : Type 0} {r : Rules Message S K Note} {number end : S → ℕ} {is_placed : S → Type 0} {x : Setting S} {owners : List ℕ} {groups : ℕ} {steps : List Step} {mail : Boxes} {floors : Floors}
    {gvt : ℕ} {standings : List Standing} (k : IsRecorded r number end is_placed x owners groups steps mail floors gvt standings) (g : ℕ) (s : Standing)
    (told : slice_get standings g ≡ Some s) where
  -- where it stands
  pub it-stands : IsMarked r number end is_placed x owners steps gvt g s
  it-stands = k.marked.each g s told

  pub seen-low : s.seen ≤ (world_after (simulation_of r x) steps).gvt
  seen-low = let a = it-stands.seen_low in let b = k.gvt_is in omega arith

  module _ {V : S → Message → Type 0} {h : Held S K} (old : Holds r number end is_placed x owners V groups g s.seen (last_in s) h) where
    -- its block can be done where the journal is now
    pub enabled-now : AreDone (simulation_of r x) (steps_told h.flow.words) (in_hand (simulation_of r x) s.seen (world_after (simulation_of r x) steps))
    enabled-now =
        let f = simulation_of r x in
        are-done-same f (is_of owners g) (steps_told h.flow.words) (in_hand f s.seen (world_after f (last_in s))) (in_hand f s.seen (world_after f steps))
        (in-hand-same f (is_of owners g) s.seen (world_after f (last_in s)) (world_after f steps) it-stands.same) old.by old.enabled

    -- the journal and then its block make of its processes what it has in hand
    pub parts-now : (p : ℕ) → is_of owners g p ≡ true →
        (world_after (simulation_of r x) (steps ++ map (behind (waiting_in (simulation_of r x) (world_after (simulation_of r x) steps))) (steps_told h.flow.words))).parts p
        ≡ (done_by (simulation_of r x) (steps_told h.flow.words) (in_hand (simulation_of r x) s.seen (world_after (simulation_of r x) (last_in s)))).parts p
    parts-now p o = (posted k g it-stands old _ refl).parts p o

-- the same steps, as they are seen elsewhere
pub recorded-as : {S K : Type 0} {r : Rules Message S K Note} {number end : S → ℕ} {is_placed : S → Type 0} {x : Setting S} {owners : List ℕ} {groups : ℕ} {steps : List Step} {mail : Boxes} {floors : Floors}
    {gvt : ℕ} {standings : List Standing} → IsRecorded r number end is_placed x owners groups steps mail floors gvt standings → (steps' : List Step) → steps' ≡ steps →
    IsRecorded r number end is_placed x owners groups steps' mail floors gvt standings
recorded-as {r = r} {number = number} {end = end} {is_placed = is_placed} {x = x} {owners = owners} {groups = groups} {mail = mail} {floors = floors} {gvt = gvt} {standings = standings} k steps' e =
    subst (λ ss. IsRecorded r number end is_placed x owners groups ss mail floors gvt standings) (sym e) k

-- one standing more that tells of nothing
pub blanks-set : (standings : List Standing) (i : ℕ) (s : Standing) → All IsUnplaced standings → IsUnplaced s → All IsUnplaced (set standings i s)
blanks-set [] i s all u k d h = absurd (omega arith)
blanks-set (z ∷ zs) zero s all u zero d h = u
blanks-set (z ∷ zs) zero s all u (suc k) d h = all (suc k) d (omega arith)
blanks-set (z ∷ zs) (suc i) s all u zero d h = all 0 d (omega arith)
blanks-set (z ∷ zs) (suc i) s all u (suc k) d h = blanks-set zs i s (λ j e v. all (suc j) e (omega arith)) u k d (omega arith)

-- none of them has a step yet
pub marks-blank : (standings : List Standing) (n : ℕ) → length standings ≡ n → All IsUnplaced standings → marks_in standings ≡ replicate n blank
marks-blank [] zero e all = refl
marks-blank [] (suc n) e all = absurd (omega arith)
marks-blank (z ∷ zs) zero e all = absurd (omega arith)
marks-blank (z ∷ zs) (suc n) e all =
    let u = all 0 z (omega arith) in
    let first : mark_in z ≡ blank = (let a = u.1 in let b = u.2 in λ i. record { steps = a i; seen = b i }) in
    let rest = marks-blank zs n (omega arith) (λ k d h. all (suc k) d (omega arith)) in
    λ i. first i ∷ rest i

-- each standing tells of nothing
pub each-blank : (standings : List Standing) → All IsUnplaced standings → (g : ℕ) (s : Standing) → slice_get standings g ≡ Some s → IsUnplaced s
each-blank [] all g s e = absurd (let k : ⊥ = cc in k)
each-blank (z ∷ zs) all zero s e = let k : z ≡ s = cc in subst IsUnplaced k (all 0 z (omega arith))
each-blank (z ∷ zs) all (suc g) s e = each-blank zs (λ k d h. all (suc k) d (omega arith)) g s e

-- where a group stands, as both halves of its mark tell it
pub marked-by : {S K : Type 0} {r : Rules Message S K Note} {number end : S → ℕ} {is_placed : S → Type 0} {x : Setting S} {owners : List ℕ} {groups : ℕ} {steps : List Step} {mail : Boxes} {floors : Floors}
    {gvt : ℕ} {standings : List Standing} → IsRecorded r number end is_placed x owners groups steps mail floors gvt standings → (g : ℕ) (s : Standing) →
    AreAsIn (is_of owners g) (world_after (simulation_of r x) (last_in s)) (world_after (simulation_of r x) steps) → s.steps ≡ length (last_in s) → s.seen ≤ (world_after (simulation_of r x) steps).gvt →
    IsMarked r number end is_placed x owners steps gvt g s
marked-by k g s a place low = record { same = a; place = place; seen_low = let e = k.gvt_is in omega arith }
