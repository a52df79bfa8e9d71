-- The same messages have one order.
use Rattle.std.proofs.Common.{◌≡◌, ◌∙◌, inl, inr, Bool, true, false, cond, List, [], ◌∷◌, Option, Some, None, IfSome, IfNone, All, Contains, IsPermutation, refl, sym, ap, subst, arith}
use Rattle.std.proofs.lemmas.List.Elements.{All-head, All-tail}
use Rattle.std.specs.Bool.{⊤}
use Rattle.std.proofs.lemmas.Bool.{both_ways, false_from_ne_true}
use Rattle.std.proofs.lemmas.List.Sorted.{All-permutation, Contains-permutation, IsPermutation-refl, IsPermutation-sym, IsPermutation-cons, IsPermutation-middle, IsPermutation-trans}
use Rattle.vlink.specs.declared.message.Message.{Message}
use Rattle.vlink.specs.Order.{message_order}
use Rattle.virtual_time.specs.Law.{IsOrder, IsIn, times_in, one_if, same}
use Rattle.virtual_time.proofs.Order.{less-asym, less-not_less}
use Rattle.virtual_time.proofs.Lists.{in-head, in-cons}
use Rattle.reverse.specs.Rules.{is_before}
use Rattle.two_lists.proofs.Counting.{times-permutation}
use Rattle.group_queues.specs.Waiting.{ordered, placed}

placed-permuted : (m : Message) (xs : List Message) → IsPermutation (m ∷ xs) (placed m xs)
placed-permuted m [] = IsPermutation-refl (m ∷ [])
placed-permuted m (x ∷ xs) = go (message_order.less x m) (placed-permuted m xs)
  where
    go : (b : Bool) → IsPermutation (m ∷ xs) (placed m xs) → IsPermutation (m ∷ x ∷ xs) (cond b (x ∷ placed m xs) (m ∷ x ∷ xs))
    go true p = IsPermutation-trans (m ∷ x ∷ xs) (x ∷ m ∷ xs) (x ∷ placed m xs) (IsPermutation-middle (m ∷ []) x xs) (IsPermutation-cons x (m ∷ xs) (placed m xs) p)
    go false p = IsPermutation-refl (m ∷ x ∷ xs)

pub ordered-permuted : (xs : List Message) → IsPermutation xs (ordered xs)
ordered-permuted [] = IsPermutation-refl []
ordered-permuted (x ∷ xs) =
    IsPermutation-trans (x ∷ xs) (x ∷ ordered xs) (placed x (ordered xs)) (IsPermutation-cons x xs (ordered xs) (ordered-permuted xs)) (placed-permuted x (ordered xs))

-- where none comes before it, it is the first
pub placed-first : (m : Message) (xs : List Message) → All (λ x. is_before x m ≡ false) xs → placed m xs ≡ m ∷ xs
placed-first m [] a = refl
placed-first m (x ∷ xs) a = ap (λ b. cond b (x ∷ placed m xs) (m ∷ x ∷ xs)) (All-head (λ x. is_before x m ≡ false) x xs a)

-- none comes before one that is ahead of it
abbrev Rises : List Message → Type 0
Rises [] = ⊤
Rises (x ∷ xs) = ((m : Message) → IsIn message_order m xs → message_order.less m x ≡ false) × Rises xs

module _ (O : IsOrder message_order) where
  placed-rises : (m : Message) (xs : List Message) → Rises xs → Rises (placed m xs)
  placed-rises m [] r = ((λ y i. absurd (omega (arith, i))), tt)
  placed-rises m (x ∷ xs) r = go (message_order.less x m) refl (placed-rises m xs r.1)
    where
      go : (b : Bool) → message_order.less x m ≡ b → Rises (placed m xs) → Rises (cond b (x ∷ placed m xs) (m ∷ x ∷ xs))
      go true e ih = (
        (λ y i. let t = times-permutation message_order y (m ∷ xs) (placed m xs) (placed-permuted m xs) in
            elim (in-cons message_order O y m xs (omega (arith, i, t))) [
              | inl q ↦ subst (λ z. message_order.less z x ≡ false) (sym q) (less-asym message_order O x m e)
              | inr j ↦ r.0 y j
            ]),
        ih,
      )
      go false e ih = (
        (λ y i. elim (in-cons message_order O y x xs i) [
          | inl q ↦ subst (λ z. message_order.less z m ≡ false) (sym q) e
          | inr j ↦ false_from_ne_true _ (λ t. both_ways _ (r.0 y j) (less-not_less message_order O y m x t e))
        ]),
        r,
      )

  ordered-rises : (xs : List Message) → Rises (ordered xs)
  ordered-rises [] = tt
  ordered-rises (x ∷ xs) = placed-rises x (ordered xs) (ordered-rises xs)

  one-order : (xs ys : List Message) → Rises xs → Rises ys → ((m : Message) → times_in message_order m xs ≡ times_in message_order m ys) → xs ≡ ys
  one-order [] [] r s t = refl
  one-order [] (y ∷ ys) r s t = absurd (let a = t y in let b = in-head message_order O y ys in omega (arith, a, b))
  one-order (x ∷ xs) [] r s t = absurd (let a = t x in let b = in-head message_order O x xs in omega (arith, a, b))
  one-order (x ∷ xs) (y ∷ ys) r s t =
      let first : x ≡ y = meets in
      let rest : xs ≡ ys = one-order xs ys r.1 s.1 (λ m. let a = t m in let b = ap (λ z. one_if (same message_order m z)) first in omega (arith, a, b)) in
      ap (λ z. z ∷ xs) first ∙ ap (λ zs. y ∷ zs) rest
    where
      meets : x ≡ y
      meets = elim (in-cons message_order O x y ys (let a = t x in let b = in-head message_order O x xs in omega (arith, a, b))) [
        | inl e ↦ e
        | inr i ↦ elim (in-cons message_order O y x xs (let a = t y in let b = in-head message_order O y ys in omega (arith, a, b))) [
          | inl e ↦ sym e
          | inr j ↦ O.total x y (s.0 x i) (r.0 y j)
        ]
      ]

  pub same-ordered : (xs ys : List Message) → IsPermutation xs ys → ordered xs ≡ ordered ys
  same-ordered xs ys p =
      one-order (ordered xs) (ordered ys) (ordered-rises xs) (ordered-rises ys)
      (λ m. let a = times-permutation message_order m xs (ordered xs) (ordered-permuted xs) in
      let b = times-permutation message_order m ys (ordered ys) (ordered-permuted ys) in
      let c = times-permutation message_order m xs ys p in
      omega (arith, a, b, c))

  -- the first of them is the head
  pub first-ordered : (m : Message) (xs ys : List Message) → IsPermutation xs (m ∷ ys) → All (λ x. is_before x m ≡ false) xs → ordered xs ≡ m ∷ ordered ys
  first-ordered m xs ys p a =
      let P : Message → Type 0 = λ x. is_before x m ≡ false in
      same-ordered xs (m ∷ ys) p ∙ placed-first m (ordered ys) (All-permutation P ys (ordered ys) (ordered-permuted ys) (All-tail P m ys (All-permutation P xs (m ∷ ys) p a)))

  pub if-out : (o : Option Message) (xs ys : List Message) → IfSome o (λ m. IsPermutation xs (m ∷ ys)) → IfSome o (λ m. All (λ x. is_before x m ≡ false) xs) →
      IfSome o (λ m. ordered xs ≡ m ∷ ordered ys)
  if-out None xs ys h a = tt
  if-out (Some m) xs ys h a = first-ordered m xs ys h a

-- what holds of messages in whatever order holds of them in order
pub if-among : (o : Option Message) (xs : List Message) → IfSome o (Contains xs) → IfSome o (Contains (ordered xs))
if-among None xs h = tt
if-among (Some m) xs h = Contains-permutation xs (ordered xs) m (ordered-permuted xs) h

pub if-first : (o : Option Message) (xs : List Message) → IfSome o (λ m. All (λ x. is_before x m ≡ false) xs) → IfSome o (λ m. All (λ x. is_before x m ≡ false) (ordered xs))
if-first None xs h = tt
if-first (Some m) xs h = All-permutation (λ x. is_before x m ≡ false) xs (ordered xs) (ordered-permuted xs) h

pub if-none : (o : Option Message) (xs : List Message) → IfNone o (xs ≡ []) → IfNone o (ordered xs ≡ [])
if-none None xs h = ap ordered h
if-none (Some m) xs h = tt

pub out-ordered : (m : Message) (xs ys : List Message) → IsPermutation xs (m ∷ ys) → IsPermutation (ordered xs) (m ∷ ordered ys)
out-ordered m xs ys p =
    IsPermutation-trans (ordered xs) (m ∷ ys) (m ∷ ordered ys)
    (IsPermutation-trans (ordered xs) xs (m ∷ ys) (IsPermutation-sym xs (ordered xs) (ordered-permuted xs)) p)
    (IsPermutation-cons m ys (ordered ys) (ordered-permuted ys))

pub in-ordered : (m : Message) (xs ys : List Message) → IsPermutation (m ∷ xs) ys → IsPermutation (m ∷ ordered xs) (ordered ys)
in-ordered m xs ys p =
    IsPermutation-sym (ordered ys) (m ∷ ordered xs) (out-ordered m ys xs (IsPermutation-sym (m ∷ xs) ys p))
