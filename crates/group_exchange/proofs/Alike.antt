-- What a group does in hand is told by its own processes, their floors, and the letters that it sent: two worlds that have the same of these go on
-- the same.
use Rattle.std.proofs.Common.{◌≡◌, ℕ, min, Bool, true, false, List, [], ◌∷◌, Option, Some, None, refl, sym, ap, ◌∙◌, subst, nat_lt, ◌&&◌, length, is_some, slice_get}
use Rattle.std.proofs.lemmas.Bool.{both_ways}
use Rattle.vlink.specs.declared.message.Message.{Message}
use Rattle.vlink.specs.declared.note.Note.{Note}
use Rattle.vlink.specs.Letters.{Letter}
use Rattle.virtual_time.specs.Law.{Rules, Simulation, World, Part, AreAlike, AreBy, AreDone, can_commit, done_by, effect, floor_of, in_hand, is_by, is_early, is_enabled, next_of, taken}
use Rattle.virtual_time.specs.declared.step.Step.{Step}
use Rattle.virtual_time.specs.declared.step.Step.TheVariants.{Take, Arrive, Run, Post, Gvt, Commit}
use Rattle.virtual_time.proofs.Kept.{put_elim₂}
use Rattle.virtual_time.proofs.Groups.{step-does, effect-gvt}
use Rattle.virtual_time.proofs.GroupSteps.{done-alike}
use Rattle.reverse.specs.Setting.{Setting}
use Rattle.group_hand.specs.Hands.{Held, IsMember, StandsForGroup, is_held, is_ours}
use Rattle.group_exchange.specs.Keeps.{AreAsIn}

-- both have the same of these processes, of their floors, of the letters on their way, and GVT
pub record IsSame {S K : Type 0} (f : Simulation Message S K Note) (ours : ℕ → Bool) (v w : World Message S) : Type 0 where
  pub alike : AreAlike f ours v w
  pub floors : (q : ℕ) → ours q ≡ true → v.floors q ≡ w.floors q
  pub gvt : v.gvt ≡ w.gvt

module _ {S K : Type 0} (f : Simulation Message S K Note) (ours : ℕ → Bool) where
  -- a group in hand, which has no letter on its way
  pub in-hand-same : (g : ℕ) (v w : World Message S) → AreAsIn ours v w → IsSame f ours (in_hand f g v) (in_hand f g w)
  in-hand-same g v w a = record { alike = record { parts = a.parts; mail = λ q. refl }; floors = a.floors; gvt = refl }

  effect-floors : (x : Step) (v w : World Message S) → IsSame f ours v w → is_by ours x ≡ true → (q : ℕ) → ours q ≡ true → (effect f x v).floors q ≡ (effect f x w).floors q
  unfolding effect
  effect-floors (Take p i) v w a o q h =
      go (slice_get (v.mail p) i) ∙ ap (λ ls. (taken f p i w (slice_get ls i)).floors q) (a.alike.mail p)
    where
      go : (l : Option Letter) → (taken f p i v l).floors q ≡ (taken f p i w l).floors q
      go None = a.floors q h
      go (Some l) = put_elim₂ (λ z x y. ours z ≡ true → x ≡ y) p (min (f.rules.order.time l.message) (v.floors p)) (min (f.rules.order.time l.message) (w.floors p)) v.floors w.floors
          (λ j. ap (min (f.rules.order.time l.message)) (a.floors p o)) (λ z n. a.floors z) q h
  effect-floors (Arrive p) v w a o q h = a.floors q h
  effect-floors (Run p) v w a o q h = a.floors q h
  effect-floors (Post p) v w a o q h =
      put_elim₂ (λ z x y. ours z ≡ true → x ≡ y) p (floor_of f.rules.order f.until (v.parts p)) (floor_of f.rules.order f.until (w.parts p)) v.floors w.floors
      (λ j. ap (floor_of f.rules.order f.until) (a.alike.parts p o)) (λ z n. a.floors z) q h
  effect-floors Gvt v w a o q h = absurd (both_ways false refl o)
  effect-floors (Commit p) v w a o q h = a.floors q h

  effect-same : (x : Step) (v w : World Message S) → IsSame f ours v w → is_by ours x ≡ true → IsSame f ours (effect f x v) (effect f x w)
  effect-same x v w a o = record {
    alike = done-alike f ours (x ∷ []) v w a.alike (o, tt);
    floors = effect-floors x v w a o;
    gvt = effect-gvt f ours x v o ∙ (a.gvt ∙ sym (effect-gvt f ours x w o));
  }

  enabled-same : (x : Step) (v w : World Message S) → IsSame f ours v w → is_by ours x ≡ true → is_enabled f x v ≡ is_enabled f x w
  unfolding is_enabled
  enabled-same (Take p i) v w a o = ap (λ (ls : List Letter). nat_lt p f.processes && nat_lt i (length ls)) (a.alike.mail p)
  enabled-same (Arrive p) v w a o = ap (λ (z : Part Message S). nat_lt p f.processes && nat_lt 0 (length z.tray)) (a.alike.parts p o)
  enabled-same (Run p) v w a o = ap (λ (z : Part Message S). nat_lt p f.processes && is_some (next_of f.rules.order z)) (a.alike.parts p o)
  enabled-same (Post p) v w a o = refl
  enabled-same Gvt v w a o = refl
  enabled-same (Commit p) v w a o = λ j.
      nat_lt p f.processes && (is_early f (a.gvt j) (a.alike.parts p o j).done && can_commit f.rules.order (a.alike.parts p o j) (a.alike.parts p o j).done)

  -- steps of the group lead on to the same, and can be done in both
  pub done-same : (xs : List Step) (v w : World Message S) → IsSame f ours v w → AreBy ours xs → IsSame f ours (done_by f xs v) (done_by f xs w)
  done-same [] v w a o = a
  done-same (x ∷ xs) v w a o = done-same xs (effect f x v) (effect f x w) (effect-same x v w a o.0) o.1

  pub are-done-same : (xs : List Step) (v w : World Message S) → IsSame f ours v w → AreBy ours xs → AreDone f xs v → AreDone f xs w
  are-done-same [] v w a o d = tt
  are-done-same (x ∷ xs) v w a o d =
      let e : is_enabled f x w ≡ true = sym (enabled-same x v w a o.0) ∙ d.0 in (
        e,
        subst (λ z. AreDone f xs z) (sym (step-does f ours x w e))
            (are-done-same xs (effect f x v) (effect f x w) (effect-same x v w a o.0) o.1 (subst (λ z. AreDone f xs z) (step-does f ours x v d.0) d.1)),
      )

-- what is held of one stands for the other; GVT plays no part
pub stands-alike : {S K : Type 0} (r : Rules Message S K Note) (V : S → Message → Type 0) (x : Setting S) (ours : ℕ → Bool) (v w : World Message S) (h : Held S K) →
    ((p : ℕ) → is_ours h.members p ≡ ours p) → AreAsIn ours v w → ((q : ℕ) → v.mail q ≡ w.mail q) → StandsForGroup r V x v h → StandsForGroup r V x w h
stands-alike {S = S} r V x ours v w h same a mail g = record {
  count = g.count;
  members = λ p s e. subst (λ z. IsMember r V (x.opening p) p z s h) (a.parts p (sym (same p) ∙ held-here p s e)) (g.members p s e);
  mail = λ q. sym (mail q) ∙ g.mail q;
  elsewhere = g.elsewhere;
  tray_home = g.tray_home;
  tray_in_time = g.tray_in_time;
  home = g.home;
  in_time = g.in_time;
  beside = g.beside;
  ascending = g.ascending;
  settled = λ p o.
      sym (a.floors p (sym (same p) ∙ o)) ∙ (g.settled p o ∙ ap (λ z. floor_of r.order x.until z) (a.parts p (sym (same p) ∙ o)));
}
  where
    held-here : (p : ℕ) (s : S) → slice_get h.members p ≡ Some (Some s) → is_ours h.members p ≡ true
    held-here p s e = ap is_held e
