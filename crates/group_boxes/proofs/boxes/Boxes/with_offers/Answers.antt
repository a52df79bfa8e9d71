use Rattle.std.proofs.Common.{◌≡◌, ℕ, zero, suc, ◌++◌, List, [], ◌∷◌, map, refl, ap, ◌∙◌, arith}
use Rattle.vlink.specs.Letters.{Letter}
use Rattle.vlink.specs.Order.{message_order}
use Rattle.virtual_time.specs.Law.{plus_of}
use Rattle.group_boxes.specs.Boxing.{box_of, for_group}
use Rattle.group_boxes.proofs.Lists.{short-none}
use Rattle.group_boxes.proofs.boxes.Boxes.with_offers.Goals as goal

-- an empty box behind empty ones
boxes-none : {X : Type 0} (f : X → List Letter) (xs : List X) (x : X) → f x ≡ [] → ((g : ℕ) → box_of (map f xs) g ≡ []) → (g : ℕ) → box_of (map f (xs ++ x ∷ [])) g ≡ []
boxes-none f [] x e none zero = e
boxes-none f [] x e none (suc g) = refl
boxes-none f (y ∷ ys) x e none zero = none 0
boxes-none f (y ∷ ys) x e none (suc g) = boxes-none f ys x e (λ k. none (suc k)) g

pub loop-group-preserved : goal.loop-group-preserved
loop-group-preserved c =
    let inv = c.loop-group.invariant in
    let pushed = c.push_reserved.ensures in
    record {
      made = omega (arith, inv.made, pushed.len);
      room = omega (arith, inv.room, pushed.capacity);
      none = λ g. ap (λ xs. box_of (map (λ x. x.items) xs) g) pushed.items ∙ boxes-none (λ x. x.items) c.loop-group.boxes.items c.new.result c.new.ensures.items inv.none g;
    }

pub invariant_of-result : goal.invariant_of-result
invariant_of-result c = (
  λ k d h. (let a = c.requires.each k d h in omega (arith, a, c.in_ok-push_all.ensures.count, c.loop-group.invariant.made, c.loop-group-test.false)),
  c.in_ok-push_all.ensures.short (short-none (map (λ x. x.items) c.loop-group.boxes.items) c.loop-group.invariant.none),
)

pub returns-clause-letters : goal.returns-clause-letters
returns-clause-letters c = λ g h.
    c.in_ok-push_all.ensures.put g (omega (arith, h, c.loop-group.invariant.made, c.loop-group-test.false, c.loop-group.boxes.ok.0)) ∙
    (ap (λ z. z ++ for_group message_order c.deref.result.now g (map plus_of c.args.offers.now)) (c.loop-group.invariant.none g) ∙
    ap (λ (os : List ℕ). for_group message_order os g (map plus_of c.args.offers.now)) c.deref.ensures.value)
