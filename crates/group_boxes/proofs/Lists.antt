-- Boxes of letters, one of them changed; and the letters that go to a group.
use Rattle.std.proofs.Common.{◌≡◌, ◌≢◌, ℕ, zero, suc, ◌+◌, ◌<◌, ◌≤◌, ◌^◌, ◌==◌, inl, inr, cond, min, List, [], ◌∷◌, ◌++◌, map, flat_map, set, get_or, length, take, slice_get, All, IfSome, Option, Some, None, option_map, refl, sym, ap, ◌∙◌, subst, arith, append_assoc, append-nil, eq-eqb, ne_eqb}
use Rattle.std.proofs.lemmas.Bool.{cases_eq}
use Rattle.std.proofs.lemmas.Grind.{flat_map-append}
use Rattle.std.proofs.lemmas.List.{take_more, map-append}
use Rattle.std.proofs.lemmas.List.Elements.{filter-append}
use Rattle.std.proofs.lemmas.Option.{slice_get-get_or, get_or_from_slice_get}
use Rattle.vlink.specs.Letters.{Letter}
use Rattle.vlink.specs.Order.{message_order}
use Rattle.vlink.specs.declared.message.Message.{Message}
use Rattle.virtual_time.specs.Law.{Order, lowest, times_of}
use Rattle.group_boxes.specs.Boxing.{is_of, is_number, for_group, box_of, AreShort, HasRoom}

module _ {X : Type 0} (f : X → List Letter) where
  -- the changed box
  pub box-here : (xs : List X) (i : ℕ) (x : X) → i < length xs → box_of (map f (set xs i x)) i ≡ f x
  box-here [] i x h = absurd (omega arith)
  box-here (y ∷ ys) zero x h = refl
  box-here (y ∷ ys) (suc i) x h = box-here ys i x (omega arith)

  -- any other
  pub box-other : (xs : List X) (i g : ℕ) (x : X) → g ≢ i → box_of (map f (set xs i x)) g ≡ box_of (map f xs) g
  box-other [] i g x n = refl
  box-other (y ∷ ys) zero zero x n = absurd (n refl)
  box-other (y ∷ ys) zero (suc g) x n = refl
  box-other (y ∷ ys) (suc i) zero x n = refl
  box-other (y ∷ ys) (suc i) (suc g) x n = box-other ys i g x (λ e. n (ap suc e))

  -- the box as it was
  pub box-at : (xs : List X) (i : ℕ) (x : X) → i < length xs → x ≡ get_or xs i x → box_of (map f xs) i ≡ f x
  box-at [] i x h e = absurd (omega arith)
  box-at (y ∷ ys) zero x h e = ap f (sym e)
  box-at (y ∷ ys) (suc i) x h e = box-at ys i x (omega arith) e

  -- a box that keeps its letters
  pub box-same : (xs : List X) (i : ℕ) (x y : X) → x ≡ get_or xs i x → f y ≡ f x → map f (set xs i y) ≡ map f xs
  box-same [] i x y h e = refl
  box-same (z ∷ zs) zero x y h e = ap (λ u. u ∷ map f zs) (e ∙ ap f h)
  box-same (z ∷ zs) (suc i) x y h e = ap (λ u. f z ∷ u) (box-same zs i x y h e)

  -- a box that is short comes in the place of another one
  pub short-set : (xs : List X) (i : ℕ) (x : X) → length (f x) < 2 ^ 32 → AreShort (map f xs) → AreShort (map f (set xs i x))
  short-set [] i x h short k d w = short k d w
  short-set (y ∷ ys) zero x h short zero d w = h
  short-set (y ∷ ys) zero x h short (suc k) d w = short (suc k) d (omega arith)
  short-set (y ∷ ys) (suc i) x h short zero d w = short 0 d (omega arith)
  short-set (y ∷ ys) (suc i) x h short (suc k) d w = short-set ys i x h (λ j e v. short (suc j) e (omega arith)) k d (omega arith)

-- empty boxes are short
pub short-none : (boxes : List (List Letter)) → ((g : ℕ) → box_of boxes g ≡ []) → AreShort boxes
short-none [] none k d w = absurd (omega arith)
short-none (b ∷ bs) none zero d w = let e = ap length (none 0) in omega arith
short-none (b ∷ bs) none (suc k) d w = short-none bs (λ g. none (suc g)) k d (omega arith)

module _ {X : Type 0} (r : X → ℕ) where
  -- the first boxes, and this one, have so much room
  pub room-more : (xs : List X) (i : ℕ) (x : X) (n : ℕ) → n ≤ r x → ((g d : ℕ) → g < i → g < length xs → n ≤ get_or (map r xs) g d) →
      (g d : ℕ) → g < i + 1 → g < length xs → n ≤ get_or (map r (set xs i x)) g d
  room-more [] i x n h before g d below within = absurd (omega arith)
  room-more (y ∷ ys) zero x n h before zero d below within = h
  room-more (y ∷ ys) zero x n h before (suc g) d below within = absurd (omega arith)
  room-more (y ∷ ys) (suc i) x n h before zero d below within = before zero d (omega arith) (omega arith)
  room-more (y ∷ ys) (suc i) x n h before (suc g) d below within =
      room-more ys i x n h (λ k e a b. before (suc k) e (omega arith) (omega arith)) g d (omega arith) (omega arith)

  -- the room of one of them
  pub room-at : (xs : List X) (i : ℕ) (x : X) (n : ℕ) → i < length xs → x ≡ get_or xs i x → HasRoom n (map r xs) → n ≤ r x
  room-at [] i x n h e room = absurd (omega arith)
  room-at (y ∷ ys) zero x n h e room = subst (λ z. n ≤ r z) (sym e) (room 0 0 (omega arith))
  room-at (y ∷ ys) (suc i) x n h e room = room-at ys i x n (omega arith) e (λ k d w. room (suc k) d (omega arith))

  -- one of them has one place less
  pub room-less : (xs : List X) (i : ℕ) (x : X) (m n : ℕ) → m ≤ n → m ≤ r x → HasRoom n (map r xs) → HasRoom m (map r (set xs i x))
  room-less [] i x m n less h room k d w = absurd (omega arith)
  room-less (y ∷ ys) zero x m n less h room zero d w = h
  room-less (y ∷ ys) zero x m n less h room (suc k) d w = let a = room (suc k) d (omega arith) in omega arith
  room-less (y ∷ ys) (suc i) x m n less h room zero d w = let a = room 0 d (omega arith) in omega arith
  room-less (y ∷ ys) (suc i) x m n less h room (suc k) d w = room-less ys i x m n less h (λ j e v. room (suc j) e (omega arith)) k d (omega arith)

module _ (owners : List ℕ) (l : Letter) (i : ℕ) (owned : slice_get owners l.message.receiver ≡ Some i) where
  -- of one letter more
  pub for-more : (g : ℕ) (before : List Letter) →
      for_group message_order owners g (before ++ l ∷ []) ≡ for_group message_order owners g before ++ cond (i == g) (l ∷ []) []
  for-more g before =
      filter-append (λ (x : Letter). is_of owners g x.message.receiver) before (l ∷ []) ∙
      ap (λ o. for_group message_order owners g before ++ cond (is_number g o) (l ∷ []) []) owned

  -- a letter goes to the back of the box of its receiver's group
  pub box-put : {X : Type 0} (f : X → List Letter) (first : List (List Letter)) (xs : List X) (old new : X) (before after : List Letter) →
      i < length xs → old ≡ get_or xs i old → f new ≡ f old ++ l ∷ [] → after ≡ before ++ l ∷ [] → (g : ℕ) →
      box_of (map f xs) g ≡ box_of first g ++ for_group message_order owners g before →
      box_of (map f (set xs i new)) g ≡ box_of first g ++ for_group message_order owners g after
  box-put f first xs old new before after h at put more g so =
      let all : for_group message_order owners g after ≡ for_group message_order owners g before ++ cond (i == g) (l ∷ []) [] =
      ap (for_group message_order owners g) more ∙ for-more g before in
      elim (cases_eq g i) [
        | inl a ↦
            let here : box_of (map f (set xs i new)) g ≡ f new = ap (box_of (map f (set xs i new))) a ∙ box-here f xs i new h in
            let was : f old ≡ box_of first g ++ for_group message_order owners g before = sym (box-at f xs i old h at) ∙ (ap (box_of (map f xs)) (sym a) ∙ so) in
            let goes : for_group message_order owners g after ≡ for_group message_order owners g before ++ l ∷ [] =
            all ∙ ap (λ b. for_group message_order owners g before ++ cond b (l ∷ []) []) (eq-eqb i g (sym a)) in
            here ∙ (put ∙ (ap (λ z. z ++ l ∷ []) was ∙ (append_assoc (box_of first g) _ _ ∙ ap (λ z. box_of first g ++ z) (sym goes))))
        | inr n ↦
            let stays : for_group message_order owners g after ≡ for_group message_order owners g before =
            all ∙ (ap (λ b. for_group message_order owners g before ++ cond b (l ∷ []) []) (ne_eqb i g (λ e. n (sym e))) ∙ append-nil _) in
            box-other f xs i g new n ∙ (so ∙ ap (λ z. box_of first g ++ z) (sym stays))
      ]

-- the least of two lists: that of the second, begun with that of the first
lowest-min : (x d : ℕ) (ys : List ℕ) → lowest (min x d) ys ≡ min x (lowest d ys)
lowest-min x d [] = refl
lowest-min x d (y ∷ ys) = let a = lowest-min x d ys in omega arith

pub lowest-append : (d : ℕ) (xs ys : List ℕ) → lowest d (xs ++ ys) ≡ lowest (lowest d xs) ys
lowest-append d [] ys = refl
lowest-append d (x ∷ xs) ys = ap (min x) (lowest-append d xs ys) ∙ sym (lowest-min x (lowest d xs) ys)

-- the least time of the first letters and of more letters behind them
pub times-append : (d : ℕ) (ls more : List Letter) → lowest d (times_of message_order (ls ++ more)) ≡ lowest (lowest d (times_of message_order ls)) (times_of message_order more)
times-append d ls more =
    ap (lowest d) (map-append (λ (x : Letter). x.message.time) ls more) ∙ lowest-append d (times_of message_order ls) (times_of message_order more)

-- of the first letters and of the one behind them
pub times-more : (d : ℕ) (ls : List Letter) (i : ℕ) (l : Letter) → i < length ls → l ≡ get_or ls i l →
    lowest d (times_of message_order (take (i + 1) ls)) ≡ min l.message.time (lowest d (times_of message_order (take i ls)))
times-more d ls i l h e =
    ap (λ z. lowest d (times_of message_order z)) (take_more ls i l h ∙ ap (λ z. take i ls ++ z ∷ []) (sym e)) ∙ times-append d (take i ls) (l ∷ [])

-- of the first boxes and of the one behind them
pub boxes-more : {X : Type 0} (f : X → List Letter) (d : ℕ) (xs : List X) (i : ℕ) (x : X) → i < length xs → x ≡ get_or xs i x →
    lowest d (times_of message_order (flat_map (λ box. box) (map f (take (i + 1) xs))))
    ≡ lowest (lowest d (times_of message_order (flat_map (λ box. box) (map f (take i xs))))) (times_of message_order (f x))
boxes-more f d xs i x h e =
    let taken : map f (take (i + 1) xs) ≡ map f (take i xs) ++ f x ∷ [] =
    ap (map f) (take_more xs i x h ∙ ap (λ z. take i xs ++ z ∷ []) (sym e)) ∙ map-append f (take i xs) (x ∷ []) in
    let all : flat_map (λ (box : List Letter). box) (map f (take (i + 1) xs)) ≡ flat_map (λ (box : List Letter). box) (map f (take i xs)) ++ f x =
    ap (flat_map (λ (box : List Letter). box)) taken ∙ (flat_map-append (λ (box : List Letter). box) (map f (take i xs)) (f x ∷ []) ∙
    ap (λ z. flat_map (λ (box : List Letter). box) (map f (take i xs)) ++ z) (append-nil (f x))) in
    ap (λ z. lowest d (times_of message_order z)) all ∙ times-append d (flat_map (λ box. box) (map f (take i xs))) (f x)

-- the number of the group of process p, read at q, which is p
pub owner-of : (owners : List ℕ) (n p q i : ℕ) → All (λ o. o < n) owners → p < length owners → q ≡ p → i ≡ get_or owners q 0 → (slice_get owners p ≡ Some i) × (i < n)
owner-of owners n p q i all h a b =
    let c = all p 0 h in
    let e : i ≡ get_or owners p 0 = b ∙ ap (λ z. get_or owners z 0) a in
    (slice_get-get_or owners p 0 h ∙ ap (λ z. Some z) (sym e), omega arith)

-- an element of a list all of whose elements have a property
pub one-of : {X : Type 0} (P : X → Type 0) (xs : List X) → All P xs → (i : ℕ) (x : X) → i < length xs → x ≡ get_or xs i x → P x
one-of P xs all i x h e = subst P (sym e) (all i x h)

-- the least of the first numbers and of the one behind them
pub lowest-more : (d : ℕ) (xs : List ℕ) (i x : ℕ) → i < length xs → slice_get xs i ≡ Some x → lowest d (take (i + 1) xs) ≡ min x (lowest d (take i xs))
lowest-more d xs i x h e =
    ap (lowest d) (take_more xs i x h ∙ ap (λ z. take i xs ++ z ∷ []) (get_or_from_slice_get xs i x x e)) ∙ lowest-append d (take i xs) (x ∷ [])

-- an element that there is has the property of all
pub some-of : {X : Type 0} (P : X → Type 0) (xs : List X) → All P xs → (i : ℕ) (o : Option X) → o ≡ slice_get xs i → IfSome o P
some-of P [] all i o e = subst (λ z. IfSome z P) (sym e) tt
some-of P (x ∷ xs) all zero o e = subst (λ z. IfSome z P) (sym e) (all 0 x (omega arith))
some-of P (x ∷ xs) all (suc i) o e = some-of P xs (λ k d h. all (suc k) d (omega arith)) i o e

-- a floor that fell to the least of the first letters falls to the one behind them
pub floor-more : (ls : List Letter) (i : ℕ) (l : Letter) → i < length ls → l ≡ get_or ls i l → (first now new : Option ℕ) →
    now ≡ option_map (λ d. lowest d (times_of message_order (take i ls))) first → new ≡ option_map (min l.message.time) now →
    new ≡ option_map (λ d. lowest d (times_of message_order (take (i + 1) ls))) first
floor-more ls i l h e None now new a b = b ∙ ap (option_map (min l.message.time)) a
floor-more ls i l h e (Some d) now new a b = b ∙ (ap (option_map (min l.message.time)) a ∙ ap (λ z. Some z) (sym (times-more d ls i l h e)))

-- no letter lowers a floor
pub none-falls : (o : Order Message) (d : Option ℕ) (ls : List Letter) → ls ≡ [] → d ≡ option_map (λ d. lowest d (times_of o ls)) d
none-falls o d ls e = go d ∙ ap (λ zs. option_map (λ d. lowest d (times_of o zs)) d) (sym e)
  where
    go : (d : Option ℕ) → d ≡ option_map (λ d. lowest d (times_of o [])) d
    go None = refl
    go (Some n) = refl
