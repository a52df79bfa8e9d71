-- A journal with one entry more.
use Rattle.std.proofs.Common.{◌≡◌, ℕ, suc, ◌+◌, ◌<◌, ◌≤◌, ◌==◌, inl, inr, Bool, true, false, cond, List, [], ◌∷◌, ◌++◌, length, slice_get, Option, Some, None, refl, sym, ap, ◌∙◌, subst, arith, append-nil, length-append, eq-eqb, ne_eqb, get_or-set_same, get_or-set_other, set, length-set}
use Rattle.std.proofs.lemmas.Bool.{cases_eq}
use Rattle.vlink.specs.declared.message.Message.{Message}
use Rattle.vlink.specs.declared.note.Note.{Note}
use Rattle.virtual_time.specs.Law.{Rules, put, World, run, Act, local, Entry, steps_of, steps, acts_of, own_in, reach, is_of, last_from, last_place}
use Rattle.virtual_time.proofs.Journal.{steps-append, reach-push, own-append, parts-push}
use Rattle.reverse.specs.Setting.{Setting, simulation_of}
use Rattle.antimessages.specs.Letters.{Store}
use Rattle.antimessages.specs.Mailing.{letters_for}
use Rattle.gvt.specs.Horizon.{Floors}
use Rattle.process_exchange.specs.declared.mark.Standing.{Standing}
use Rattle.process_exchange.specs.Views.{unplaced, standing_of, place_of, own_of}
use Rattle.process_exchange.specs.Keeps.{AreMarked, IsRecorded}

last_from-push : (n q : ℕ) (ls : List (Entry Message)) (e : Entry Message) (o : Option ℕ) →
    last_from n q (ls ++ e ∷ []) o ≡ cond (is_of q e.process e.deed) (Some (n + length ls)) (last_from n q ls o)
last_from-push n q [] e o = ap (λ k. cond (is_of q e.process e.deed) (Some k) o) (let a : n ≡ n + 0 = omega arith in a)
last_from-push n q (l ∷ ls) e o =
    let next = cond (is_of q l.process l.deed) (Some n) o in
    last_from-push (suc n) q ls e next ∙
    ap (λ k. cond (is_of q e.process e.deed) (Some k) (last_from (suc n) q ls next)) (let a : suc n + length ls ≡ n + length (l ∷ ls) = omega arith in a)

last-push : (q : ℕ) (ls : List (Entry Message)) (e : Entry Message) → last_place q (ls ++ e ∷ []) ≡ cond (is_of q e.process e.deed) (Some (length ls)) (last_place q ls)
last-push q ls e = last_from-push 0 q ls e None ∙ ap (λ k. cond (is_of q e.process e.deed) (Some k) (last_place q ls)) (let a : 0 + length ls ≡ length ls = omega arith in a)

module _ (es : List (Entry Message)) (e : Entry Message) where
  own-push : (q : ℕ) → own_in q (es ++ e ∷ []) ≡ own_in q es ++ cond (q == e.process) (acts_of e.deed) []
  own-push q = own-append q es (e ∷ []) ∙ ap (λ z. own_in q es ++ z) (append-nil (cond (q == e.process) (acts_of e.deed) []))

  -- the entry tells nothing of process q
  own-same : (q : ℕ) → cond (q == e.process) (acts_of e.deed) [] ≡ [] → own_in q (es ++ e ∷ []) ≡ own_in q es
  own-same q none = own-push q ∙ (ap (λ z. own_in q es ++ z) none ∙ append-nil (own_in q es))

  -- it tells its deed of its process
  pub own-mine : own_in e.process (es ++ e ∷ []) ≡ own_in e.process es ++ acts_of e.deed
  own-mine = own-push e.process ∙ ap (λ b. own_in e.process es ++ cond b (acts_of e.deed) []) (eq-eqb e.process e.process refl)

module _ {processes gvt : ℕ} (es : List (Entry Message)) (e : Entry Message) {standings : List Standing} (old : AreMarked processes es gvt standings) where
  -- an entry that is no process's
  pub marks-stay : ((q : ℕ) → is_of q e.process e.deed ≡ false) → acts_of e.deed ≡ [] → (gvt' : ℕ) → gvt ≤ gvt' → AreMarked processes (es ++ e ∷ []) gvt' standings
  marks-stay none nothing gvt' rises = record {
    count = old.count;
    place_is = λ q i.
        old.place_is q i ∙
        sym (last-push q es e ∙ ap (λ b. cond b (Some (length es)) (last_place q es)) (none q));
    told = λ q i. old.told q i ∙ sym (own-same es e q (ap (λ z. cond (q == e.process) z []) nothing ∙ cond-same (q == e.process)));
    seen_low = λ q i. let a = old.seen_low q i in omega arith;
  }
    where
      cond-same : (b : Bool) → cond {A = List (Act Message)} b [] [] ≡ []
      cond-same true = refl
      cond-same false = refl

  -- an entry of one process, which stands there now
  pub marks-set : ((q : ℕ) → is_of q e.process e.deed ≡ (q == e.process)) → e.process < processes →
      (s : Standing) → place_of s.last ≡ Some (length es) → own_of e.process s.last ≡ own_in e.process (es ++ e ∷ []) → s.seen ≤ gvt →
      AreMarked processes (es ++ e ∷ []) gvt (set standings e.process s)
  marks-set mine here s placed tells low = record {
    count = length-set standings e.process s ∙ old.count;
    place_is = λ q i. elim (cases_eq q e.process) [
      | inl d ↦ ap (λ (z : Standing). place_of z.last) (at-here q d) ∙ (placed ∙ sym (last-is q ∙ ap (λ b. cond b (Some (length es)) (last_place q es)) (eq-eqb q e.process d)))
      | inr n ↦ ap (λ (z : Standing). place_of z.last) (elsewhere q n) ∙ (old.place_is q i ∙ sym (last-is q ∙ ap (λ b. cond b (Some (length es)) (last_place q es)) (ne_eqb q e.process n)))
    ];
    told = λ q i. elim (cases_eq q e.process) [
      | inl d ↦ ap (λ (z : Standing). own_of q z.last) (at-here q d) ∙ (ap (λ z. own_of z s.last) d ∙ (tells ∙ ap (λ z. own_in z (es ++ e ∷ [])) (sym d)))
      | inr n ↦ ap (λ (z : Standing). own_of q z.last) (elsewhere q n) ∙ (old.told q i ∙ sym (own-same es e q (ap (λ b. cond b (acts_of e.deed) []) (ne_eqb q e.process n))))
    ];
    seen_low = λ q i. elim (cases_eq q e.process) [
      | inl d ↦ subst (λ (z : Standing). z.seen ≤ gvt) (sym (at-here q d)) low
      | inr n ↦ subst (λ (z : Standing). z.seen ≤ gvt) (sym (elsewhere q n)) (old.seen_low q i)
    ];
  }
    where
      at-here : (q : ℕ) → q ≡ e.process → standing_of (set standings e.process s) q ≡ s
      at-here q d = ap (standing_of (set standings e.process s)) d ∙ get_or-set_same standings e.process s unplaced (let a = old.count in omega arith)

      elsewhere : (q : ℕ) → (q ≡ e.process → ⊥) → standing_of (set standings e.process s) q ≡ standing_of standings q
      elsewhere q n = get_or-set_other standings e.process q s unplaced n

      last-is : (q : ℕ) → last_place q (es ++ e ∷ []) ≡ cond (q == e.process) (Some (length es)) (last_place q es)
      last-is q = last-push q es e ∙ ap (λ b. cond b (Some (length es)) (last_place q es)) (mine q)

module _ {S K : Type 0} {r : Rules Message S K Note} {number end : S → ℕ} {is_placed : S → Type 0} {x : Setting S} {es : List (Entry Message)} {mail : List Store} {floors : Floors}
    {gvt count : ℕ} {standings : List Standing} (k : IsRecorded r number end is_placed x es mail floors gvt count standings)
    (e : Entry Message) where
  -- the world after the entry
  reach-more : (w : World Message S) → run (simulation_of r x) (steps_of e.process e.deed) (reach (simulation_of r x) es) ≡ w →
      reach (simulation_of r x) (es ++ e ∷ []) ≡ w
  reach-more w is = reach-push (simulation_of r x) es e ∙ is

  -- it is kept, where mail, floors and GVT are those of the world after the entry
  pub kept-more : (w : World Message S) → run (simulation_of r x) (steps_of e.process e.deed) (reach (simulation_of r x) es) ≡ w →
      w.parts ≡ put e.process (local r (x.opening e.process) (acts_of e.deed) ((reach (simulation_of r x) es).parts e.process)) (reach (simulation_of r x) es).parts →
      (mail' : List Store) → length mail' ≡ length mail → ((q : ℕ) → q < x.processes → letters_for q mail' ≡ w.mail q) →
      (floors' : Floors) → length floors'.floors ≡ length floors.floors → floors'.until ≡ floors.until →
      ((q : ℕ) → q < x.processes → slice_get floors'.floors q ≡ Some (w.floors q)) →
      (gvt' : ℕ) → gvt' ≡ w.gvt → (count' : ℕ) → count' ≡ count + length (steps_of {M = Message} e.process e.deed) → 0 < length (steps_of {M = Message} e.process e.deed) →
      (standings' : List Standing) → AreMarked x.processes (es ++ e ∷ []) gvt' standings' →
      IsRecorded r number end is_placed x (es ++ e ∷ []) mail' floors' gvt' count' standings'
  kept-more w is parts mail' boxes letters floors' floor_count until each gvt' gvt-is count' counts some standings' marked =
      let f = simulation_of r x in
      let world = reach-more w is in
      record {
        laid = k.laid;
        boxes = boxes ∙ k.boxes;
        floor_count = floor_count ∙ k.floor_count;
        until = until ∙ k.until;
        mail_is = λ q i. letters q i ∙ ap (λ (z : World Message S). z.mail q) (sym world);
        floors_is = λ q i. each q i ∙ ap (λ (z : World Message S). Some (z.floors q)) (sym world);
        gvt_is = gvt-is ∙ ap (λ (z : World Message S). z.gvt) (sym world);
        count_is = counts ∙ (ap (λ n. n + length (steps_of {M = Message} e.process e.deed)) k.count_is ∙ sym steps-count);
        enough = let a = k.enough in let b = length-append es (e ∷ []) in omega arith;
        parts_is = parts-push f es e (ap (λ (z : World Message S). z.parts) (reach-push f es e ∙ is) ∙ parts) k.parts_is;
        marked = marked;
      }
    where
      steps-count : length (steps (es ++ e ∷ [])) ≡ length (steps es) + length (steps_of {M = Message} e.process e.deed)
      steps-count =
          ap length (steps-append es (e ∷ []) ∙ ap (λ z. steps es ++ z) (append-nil (steps_of e.process e.deed))) ∙
          length-append (steps es) (steps_of {M = Message} e.process e.deed)
