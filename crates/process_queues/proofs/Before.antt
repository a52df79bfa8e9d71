-- How many events of a queue come before a message, by those up to a place.
use Rattle.std.proofs.Common.{◌≡◌, ℕ, suc, ◌<◌, inl, inr, true, false, cond, List, [], ◌∷◌, ◌++◌, length, map, take, drop, slice_index_or, sym, ap, ◌∙◌, subst, arith, length-take, take-append-drop}
use Rattle.std.proofs.lemmas.List.{append-nil, map-append, length-map}
use Rattle.std.proofs.lemmas.List.Elements.{filter-append}
use Rattle.vlink.specs.declared.message.Message.{Message}
use Rattle.vlink.specs.Order.{message_order}
use Rattle.virtual_time.specs.Law.{IsOrder, IsIn, IsAscending, before}
use Rattle.virtual_time.proofs.Lists.{in-push, in-head, filter-all}
use Rattle.virtual_time.proofs.Ascending.{ascending-left, ascending-across}
use Rattle.process_steps.specs.declared.event.Event.{Event}
use Rattle.process_queues.proofs.Since.{take-more}

-- the messages of the first ones
abbrev pub firsts : {K : Type 0} → ℕ → List (Event K) → List Message
firsts n es = map (λ e. e.message) (take n es)

module _ (O : IsOrder message_order) (m : Message) {K : Type 0} (es : List (Event K)) (n k : ℕ) (e : Event K) (next : n ≡ suc k) (h : k < length es) (at : e ≡ slice_index_or es k e) where
  one-more : firsts n es ≡ firsts k es ++ e.message ∷ []
  one-more = ap (map (λ (x : Event K). x.message)) (take-more es n k e next h at) ∙ map-append (λ (x : Event K). x.message) (take k es) (e ∷ [])

  -- the last of them comes before it
  pub before-all : IsAscending message_order (map (λ e. e.message) es) → message_order.less e.message m ≡ true → length (before message_order m (firsts n es)) ≡ n
  before-all up early = ap length (filter-all message_order O (λ x. message_order.less x m) (firsts n es) (λ x i. each x (subst (λ ms. IsIn message_order x ms) one-more i))) ∙ as_many
    where
      as_many : length (firsts n es) ≡ n
      as_many = let a = length-map (take n es) (λ (x : Event K). x.message) in let b = length-take n es in omega (arith, a, b)

      first : IsAscending message_order (firsts k es ++ e.message ∷ [])
      first = subst (IsAscending message_order) one-more (ascending-left message_order O (firsts n es) (map (λ (x : Event K). x.message) (drop n es))
          (subst (IsAscending message_order) (ap (map (λ (x : Event K). x.message)) (sym (take-append-drop n es)) ∙ map-append (λ (x : Event K). x.message) (take n es) (drop n es)) up))

      each : (x : Message) → IsIn message_order x (firsts k es ++ e.message ∷ []) → message_order.less x m ≡ true
      each x i = elim (in-push message_order O x e.message (firsts k es) i) [
        | inl j ↦ O.transitive x e.message m (ascending-across message_order O (firsts k es) (e.message ∷ []) first x e.message j (in-head message_order O e.message [])) early
        | inr j ↦ subst (λ z. message_order.less z m ≡ true) (sym j) early
      ]

  -- it does not
  pub before-less : message_order.less e.message m ≡ false → length (before message_order m (firsts n es)) ≡ length (before message_order m (firsts k es))
  before-less late =
      ap (λ ms. length (before message_order m ms)) one-more ∙
      ap length (filter-append (λ x. message_order.less x m) (firsts k es) (e.message ∷ []) ∙
      (ap (λ b. before message_order m (firsts k es) ++ cond b (e.message ∷ []) []) late ∙ append-nil (before message_order m (firsts k es))))
