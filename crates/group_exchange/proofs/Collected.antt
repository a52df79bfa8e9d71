-- A group without a block collects: all letters of its box go to its tray.
use Rattle.std.proofs.Common.{◌≡◌, ℕ, suc, ◌<◌, ◌≤◌, inl, inr, true, All, List, [], ◌++◌, length, slice_get, Option, Some, None, option_map, refl, sym, ap, ◌∙◌, subst, arith, set}
use Rattle.std.proofs.lemmas.Bool.{cases_eq}
use Rattle.std.proofs.lemmas.List.Elements.{All-nil, All-weaker}
use Rattle.vlink.specs.declared.message.Message.{Message}
use Rattle.vlink.specs.declared.note.Note.{Note}
use Rattle.virtual_time.specs.Law.{Rules, Laws, World, AreDone, done_by, in_hand, lowest, received_by, start, times_of}
use Rattle.virtual_time.specs.declared.step.Step.{Step}
use Rattle.virtual_time.proofs.Journal.{run-then}
use Rattle.reverse.specs.Setting.{Setting, simulation_of}
use Rattle.gvt.specs.Horizon.{Floors}
use Rattle.group_queues.specs.Block.{steps_told}
use Rattle.group_hand.specs.Hands.{Held, StandsForGroup, is_ours}
use Rattle.group_exchange.specs.declared.mark.Standing.{Standing}
use Rattle.group_exchange.specs.Views.{Boxes, box_of, is_of, last_in, with_letters, world_after}
use Rattle.group_exchange.specs.Keeps.{AreAsIn, AreGrouped, Holds, IsLeastFloor, IsMarked, IsRecorded}
use Rattle.group_exchange.specs.Effects.{takes_of}
use Rattle.group_exchange.proofs.Owners.{of-other, of-within}
use Rattle.group_exchange.proofs.Alike.{stands-alike}
use Rattle.group_exchange.proofs.Marks.{marks-set}
use Rattle.group_exchange.proofs.Enabled.{done-then, takes-done}
use Rattle.group_exchange.proofs.Taken.{TakesAll, takes-all, with-alike, with-floor, with-mail, with-others}
use Rattle.group_exchange.proofs.SafeNow.{safe-now}
use Rattle.group_exchange.proofs.Holding.{holds-empty}

-- a process of a group is a process
pub of-process : {processes groups : ℕ} {owners : List ℕ} → AreGrouped processes groups owners → (g p : ℕ) → is_of owners g p ≡ true → p < processes
of-process {owners = owners} k g p e = let a = of-within owners g p e in let b = k.each in omega arith

module _ {S K : Type 0} {r : Rules Message S K Note} {number end : S → ℕ} {is_placed : S → Type 0} {x : Setting S} {owners : List ℕ} {groups : ℕ} {steps : List Step} {mail : Boxes} {floors : Floors}
    {gvt : ℕ} {standings : List Standing} (k : IsRecorded r number end is_placed x owners groups steps mail floors gvt standings) (g : ℕ) (within : g < groups)
    (steps' : List Step) (more : steps' ≡ steps ++ takes_of r.order (box_of mail.boxes g)) where
  -- the world after these steps
  pub taken : TakesAll (simulation_of r x) (is_of owners g) (box_of mail.boxes g) (world_after (simulation_of r x) steps) (world_after (simulation_of r x) steps')
  taken =
      let f = simulation_of r x in
      let ls = box_of mail.boxes g in
      subst (λ z. TakesAll f (is_of owners g) ls (world_after f steps) z) (sym (ap (world_after f) more ∙ run-then f steps (takes_of r.order ls) (start f)))
      (takes-all f (is_of owners g) ls (world_after f steps) (k.home g within)
      (All-weaker (λ l. is_of owners g (r.order.receiver l.message) ≡ true) (λ l. r.order.receiver l.message < x.processes) (λ l e. of-process k.grouped g (r.order.receiver l.message) e) ls (k.home g within))
      (λ p e. k.mail_is g p e))

  -- each step can be done where it stands
  pub collected-done : AreDone (simulation_of r x) steps' (start (simulation_of r x))
  collected-done =
      let f = simulation_of r x in
      let ls = box_of mail.boxes g in
      subst (λ ss. AreDone f ss (start f)) (sym more) (done-then f steps (takes_of r.order ls) (start f) k.enabled
      (takes-done f (is_of owners g) ls (world_after f steps) (k.home g within)
      (All-weaker (λ l. is_of owners g (r.order.receiver l.message) ≡ true) (λ l. r.order.receiver l.message < x.processes) (λ l e. of-process k.grouped g (r.order.receiver l.message) e) ls (k.home g within))
      (λ p e. k.mail_is g p e)))

  -- other groups stay
  others-stay : (h : ℕ) → (h ≡ g → ⊥) → AreAsIn (is_of owners h) (world_after (simulation_of r x) steps) (world_after (simulation_of r x) steps')
  others-stay h n =
      let w = world_after (simulation_of r x) steps in
      let ls = box_of mail.boxes g in
      record {
        parts = λ p o. sym (taken.parts p ∙ (with-others r.order (is_of owners g) ls w (k.home g within) p (of-other owners g h p n o)).0);
        floors = λ p o. sym (taken.floors p ∙ (with-others r.order (is_of owners g) ls w (k.home g within) p (of-other owners g h p n o)).1);
      }

  least-taken : (h d : ℕ) → (now old : Option ℕ) → now ≡ option_map (λ d. lowest d (times_of r.order (box_of mail.boxes g))) old →
      ((d : ℕ) → old ≡ Some d → IsLeastFloor (is_of owners g) (suc x.until) (world_after (simulation_of r x) steps).floors d) →
      now ≡ Some d → IsLeastFloor (is_of owners g) (suc x.until) (world_after (simulation_of r x) steps').floors d
  least-taken h d now None e old is = absurd (let a : None ≡ Some d = sym e ∙ is in cc)
  least-taken h d now (Some c) e old is =
      let w = world_after (simulation_of r x) steps in
      let ls = box_of mail.boxes g in
      let a : Some (lowest c (times_of r.order ls)) ≡ Some d = sym e ∙ is in
      let b : lowest c (times_of r.order ls) ≡ d = cc in
      let t = taken in
      let fallen = with-floor r.order (is_of owners g) (suc x.until) c ls w (k.home g within) (old c refl) in
      subst (λ n. IsLeastFloor (is_of owners g) (suc x.until) (world_after (simulation_of r x) steps').floors n) b (record {
        bound = λ p o. let i = fallen.bound p o in let j = t.floors p in omega arith;
        reached = elim fallen.reached [ inl i ↦ inl i | inr i ↦ inr (i.0, i.1, t.floors i.0 ∙ i.2) ];
      })

  -- what the exchange keeps
  pub kept-collected : (mail' : Boxes) → mail'.owners ≡ mail.owners → length mail'.boxes ≡ length mail.boxes → box_of mail'.boxes g ≡ [] →
      ((h : ℕ) → (h ≡ g → ⊥) → box_of mail'.boxes h ≡ box_of mail.boxes h) →
      (floors' : Floors) → length floors'.floors ≡ length floors.floors → floors'.until ≡ floors.until →
      slice_get floors'.floors g ≡ option_map (λ d. lowest d (times_of r.order (box_of mail.boxes g))) (slice_get floors.floors g) →
      ((h : ℕ) → (h ≡ g → ⊥) → slice_get floors'.floors h ≡ slice_get floors.floors h) →
      (now : Standing) → last_in now ≡ steps' → now.steps ≡ length steps' → now.seen ≡ gvt → (standings' : List Standing) → standings' ≡ set standings g now →
      IsRecorded r number end is_placed x owners groups steps' mail' floors' gvt standings'
  kept-collected mail' owners-is count empty rest floors' floor_count until here others now last place sees standings' told =
      let f = simulation_of r x in
      let w = world_after f steps in
      record {
        laid = k.laid;
        grouped = k.grouped;
        owners_is = owners-is ∙ k.owners_is;
        boxes = count ∙ k.boxes;
        home = λ h i. elim (cases_eq h g) [
          | inl e ↦ subst (λ ls. All (λ l. is_of owners h (r.order.receiver l.message) ≡ true) ls) (sym (ap (box_of mail'.boxes) e ∙ empty)) (All-nil (λ l. is_of owners h (r.order.receiver l.message) ≡ true))
          | inr n ↦ subst (λ ls. All (λ l. is_of owners h (r.order.receiver l.message) ≡ true) ls) (sym (rest h n)) (k.home h i)
        ];
        in_time = λ h i. elim (cases_eq h g) [
          | inl e ↦ subst (λ ls. All (λ l. r.order.time l.message ≤ x.until) ls) (sym (ap (box_of mail'.boxes) e ∙ empty)) (All-nil (λ l. r.order.time l.message ≤ x.until))
          | inr n ↦ subst (λ ls. All (λ l. r.order.time l.message ≤ x.until) ls) (sym (rest h n)) (k.in_time h i)
        ];
        mail_is = λ h p o. elim (cases_eq h g) [
          | inl e ↦ taken.mail p (ap (λ z. is_of owners z p) (sym e) ∙ o) ∙ ap (received_by r.order p) (sym (ap (box_of mail'.boxes) e ∙ empty))
          | inr n ↦ taken.elsewhere p (of-other owners g h p n o) ∙ (k.mail_is h p o ∙ ap (received_by r.order p) (sym (rest h n)))
        ];
        floor_count = floor_count ∙ k.floor_count;
        until = until ∙ k.until;
        floors_is = λ h d e. elim (cases_eq h g) [
          | inl i ↦ subst (λ z. IsLeastFloor (is_of owners z) (suc x.until) (world_after f steps').floors d) (sym i)
              (least-taken h d (slice_get floors'.floors g) (slice_get floors.floors g) here (λ c j. k.floors_is g c j) (ap (slice_get floors'.floors) (sym i) ∙ e))
          | inr n ↦ (let old = k.floors_is h d (sym (others h n) ∙ e) in let stay = others-stay h n in record {
            bound = λ p o. let a = old.bound p o in let b = stay.floors p o in omega arith;
            reached = elim old.reached [ inl i ↦ inl i | inr i ↦ inr (i.0, i.1, sym (stay.floors i.0 i.1) ∙ i.2) ];
          })
        ];
        gvt_is = k.gvt_is ∙ sym taken.gvt;
        enabled = collected-done;
        marked = marks-set k.marked steps' g others-stay now last place (omega arith) standings' told;
      }

  -- what the group keeps, whose tray has the letters now
  pub holds-collected : {V : S → Message → Type 0} {seen : ℕ} {s : Standing} {h : Held S K} → Laws (simulation_of r x) → IsMarked r number end is_placed x owners steps gvt g s →
      Holds r number end is_placed x owners V groups g seen (last_in s) h → h.flow.words ≡ [] →
      (new : Held S K) → new.members ≡ h.members → new.flow.words ≡ [] →
      ((v : World Message S) → StandsForGroup r V x v h → StandsForGroup r V x (with_letters r.order (box_of mail.boxes g) v) new) →
      Holds r number end is_placed x owners V groups g gvt steps' new
  holds-collected {V = V} {seen = seen} {s = s} {h = h} L m old none new members empty stands =
      let f = simulation_of r x in
      let w = world_after f steps in
      let ls = box_of mail.boxes g in
      let v = in_hand f seen (world_after f (last_in s)) in
      let w' = world_after f steps' in
      let ours : (p : ℕ) → is_ours new.members p ≡ is_of owners g p = λ p. ap (λ z. is_ours z p) members ∙ old.ours p in
      let stood : StandsForGroup r V x v h = subst (λ ds. StandsForGroup r V x (done_by f (steps_told ds) v) h) none old.stands in
      let begun : AreAsIn (is_of owners g) v w = record { parts = m.same.parts; floors = m.same.floors } in
      let both = with-alike r.order (is_of owners g) ls v w begun in
      let there : AreAsIn (is_of owners g) (with_letters r.order ls v) (in_hand f gvt w') =
      record { parts = λ p o. both.parts p o ∙ sym (taken.parts p); floors = λ p o. both.floors p o ∙ sym (taken.floors p) } in
      holds-empty k.laid k.grouped within new ours empty
      (stands-alike r V x (is_of owners g) (with_letters r.order ls v) (in_hand f gvt w') new ours there (λ q. ap (λ z. z q) (with-mail r.order ls v)) (stands v stood))
      (safe-now f L (is_of owners g) (λ p o. of-process k.grouped g p o) steps' gvt (k.gvt_is ∙ sym taken.gvt))
