-- The least of numbers, one after another; and the horizon as the least of a world.
use Rattle.std.proofs.Common.{◌≡◌, ℕ, zero, suc, ◌+◌, ◌<◌, ◌≤◌, min, List, [], ◌∷◌, ◌++◌, length, take, slice_get, get_or, Option, Some, None, refl, sym, ap, ◌∙◌, arith, append-nil}
use Rattle.std.proofs.Math.Seq.{take-length}
use Rattle.std.proofs.lemmas.Grind.{flat_map-append}
use Rattle.std.proofs.lemmas.List.{take_more, map-append}
use Rattle.std.proofs.lemmas.Option.{get_or_from_slice_get}
use Rattle.vlink.specs.declared.message.Message.{Message}
use Rattle.virtual_time.specs.Law.{Rules, Simulation, lowest, times_of, World, gvt_over}
use Rattle.antimessages.specs.Letters.{Store}
use Rattle.vlink.specs.Order.{message_order}
use Rattle.vlink.specs.Letters.{Letter}
use Rattle.antimessages.specs.Mailing.{letters_for}
use Rattle.gvt.specs.Horizon.{Floors, all_letters, horizon_over}

-- the least also of x
lowest-min : (x d : ℕ) (ys : List ℕ) → lowest (min x d) ys ≡ min x (lowest d ys)
lowest-min x d [] = refl
lowest-min x d (y ∷ ys) = let a = lowest-min x d ys in omega arith

-- the least of two lists: that of the second, begun with that of the first
pub lowest-append : (d : ℕ) (xs ys : List ℕ) → lowest d (xs ++ ys) ≡ lowest (lowest d xs) ys
lowest-append d [] ys = refl
lowest-append d (x ∷ xs) ys = ap (min x) (lowest-append d xs ys) ∙ sym (lowest-min x (lowest d xs) ys)

-- the least of the first numbers and of the one behind them
pub lowest-more : (d : ℕ) (xs : List ℕ) (i x : ℕ) → i < length xs → slice_get xs i ≡ Some x → lowest d (take (i + 1) xs) ≡ min x (lowest d (take i xs))
lowest-more d xs i x h e =
    ap (lowest d) (take_more xs i x h ∙ ap (λ z. take i xs ++ z ∷ []) (get_or_from_slice_get xs i x x e)) ∙ lowest-append d (take i xs) (x ∷ [])

-- the least time of the first letters and of the one behind them
pub times-more : (d : ℕ) (ls : List Letter) (i : ℕ) (l : Letter) → i < length ls → slice_get ls i ≡ Some l →
    lowest d (times_of message_order (take (i + 1) ls)) ≡ min l.message.time (lowest d (times_of message_order (take i ls)))
times-more d ls i l h e =
    ap (λ z. lowest d (times_of message_order z)) (take_more ls i l h ∙ ap (λ z. take i ls ++ z ∷ []) (get_or_from_slice_get ls i l l e)) ∙
    (ap (lowest d) (map-append (λ (x : Letter). x.message.time) (take i ls) (l ∷ [])) ∙
    lowest-append d (times_of message_order (take i ls)) (l.message.time ∷ []))

-- the letters of the first boxes and of the one behind them
no_box : Store
no_box = record { letters = []; room = 0 }

letters-at : (mail : List Store) (p : ℕ) → (get_or mail p no_box).letters ≡ letters_for p mail
unfolding no_box
letters-at [] p = refl
letters-at (b ∷ bs) zero = refl
letters-at (b ∷ bs) (suc p) = letters-at bs p

pub boxes-more : (d : ℕ) (mail : List Store) (p : ℕ) → p < length mail →
    lowest d (times_of message_order (all_letters (take (p + 1) mail))) ≡ lowest (lowest d (times_of message_order (all_letters (take p mail)))) (times_of message_order (letters_for p mail))
boxes-more d mail p h =
    let box : all_letters (get_or mail p no_box ∷ []) ≡ letters_for p mail = append-nil _ ∙ letters-at mail p in
    let boxes : all_letters (take (p + 1) mail) ≡ all_letters (take p mail) ++ letters_for p mail =
    ap all_letters (take_more mail p no_box h) ∙ (flat_map-append (λ (b : Store). b.letters) (take p mail) (get_or mail p no_box ∷ []) ∙
    ap (λ z. all_letters (take p mail) ++ z) box) in
    ap (λ z. lowest d (times_of message_order z)) boxes ∙
    (ap (lowest d) (map-append (λ (x : Letter). x.message.time) (all_letters (take p mail)) (letters_for p mail)) ∙
    lowest-append d (times_of message_order (all_letters (take p mail))) (times_of message_order (letters_for p mail)))

-- at a place of the list there is a letter
pub some-within : (ls : List Letter) (i : ℕ) (o : Option Letter) → o ≡ slice_get ls i → i < length ls → o ≡ None → ⊥
some-within [] i o e h n = absurd (omega arith)
some-within (l ∷ ls) zero o e h n = let k : None ≡ Some l = sym n ∙ e in cc
some-within (l ∷ ls) (suc i) o e h n = some-within ls i o e (omega arith) n

-- rules that read the time of a message read the times of letters
pub times-same : {S K N : Type 0} (r : Rules Message S K N) → ((m : Message) → r.order.time m ≡ m.time) → (ls : List Letter) →
    times_of message_order ls ≡ times_of r.order ls
times-same r t [] = refl
times-same r t (l ∷ ls) = ap (λ z. z ∷ times_of message_order ls) (sym (t l.message)) ∙ ap (λ zs. r.order.time l.message ∷ zs) (times-same r t ls)

module _ {S K N : Type 0} (f : Simulation Message S K N) (t : (m : Message) → f.rules.order.time m ≡ m.time) (w : World Message S) (floors : Floors) (mail : List Store)
    (until : f.until ≡ floors.until) (total : ℕ) (count : total ≡ length floors.floors) (boxes : total ≡ length mail)
    (floors_are : (p : ℕ) → p < total → slice_get floors.floors p ≡ Some (w.floors p))
    (mail_is : (p : ℕ) → p < total → letters_for p mail ≡ w.mail p) where
  -- the floors and the boxes of the first n processes
  first-gvt : (n : ℕ) → n ≤ total →
      lowest (lowest (floors.until + 1) (take n floors.floors)) (times_of message_order (all_letters (take n mail))) ≡ gvt_over f n w
  first-gvt zero h = omega arith
  first-gvt (suc p) h =
      let base = lowest (floors.until + 1) (take p floors.floors) in
      let earlier_boxes = times_of message_order (all_letters (take p mail)) in
      let floor : lowest (floors.until + 1) (take (p + 1) floors.floors) ≡ min (w.floors p) base =
      lowest-more (floors.until + 1) floors.floors p (w.floors p) (omega arith) (floors_are p (omega arith)) in
      let letters : times_of message_order (letters_for p mail) ≡ times_of f.rules.order (w.mail p) = ap (times_of message_order) (mail_is p (omega arith)) ∙ times-same f.rules t (w.mail p) in
      let next : suc p ≡ p + 1 = omega arith in
      ap (λ n. lowest (lowest (floors.until + 1) (take n floors.floors)) (times_of message_order (all_letters (take n mail)))) next ∙
      (ap (λ d. lowest d (times_of message_order (all_letters (take (p + 1) mail)))) floor ∙
      (boxes-more (min (w.floors p) base) mail p (omega arith) ∙
      (ap (λ d. lowest d (times_of message_order (letters_for p mail))) (lowest-min (w.floors p) base earlier_boxes) ∙
      (lowest-min (w.floors p) (lowest base earlier_boxes) (times_of message_order (letters_for p mail)) ∙
      ap (min (w.floors p)) (ap (λ ts. lowest (lowest base earlier_boxes) ts) letters ∙ ap (λ d. lowest d (times_of f.rules.order (w.mail p))) (first-gvt p (omega arith)))))))

  -- of all of them
  pub horizon-gvt : horizon_over floors mail ≡ gvt_over f total w
  horizon-gvt =
      let all_floors : take total floors.floors ≡ floors.floors = ap (λ n. take n floors.floors) count ∙ take-length floors.floors in
      let all_boxes : take total mail ≡ mail = ap (λ n. take n mail) boxes ∙ take-length mail in
      lowest-append (floors.until + 1) floors.floors (times_of message_order (all_letters mail)) ∙
      (sym (ap (λ fs. lowest (lowest (floors.until + 1) fs) (times_of message_order (all_letters (take total mail)))) all_floors ∙
      ap (λ bs. lowest (lowest (floors.until + 1) floors.floors) (times_of message_order (all_letters bs))) all_boxes) ∙
      first-gvt total (omega arith))
