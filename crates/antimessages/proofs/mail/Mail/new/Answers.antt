use Rattle.std.proofs.Common.{◌≡◌, ℕ, zero, suc, List, [], ◌∷◌, ◌++◌, map, Global, refl, ap, ◌∙◌, arith}
use Rattle.std.specs.declared.collections.VecDeque.{VecDeque}
use Rattle.std.proofs.lemmas.List.{length-map}
use Rattle.vlink.specs.Letters.{Letter}
use Rattle.antimessages.specs.Mailing.{store_of, letters_for}
use Rattle.antimessages.proofs.mail.Mail.new.Goals as goal

-- one process more, with no letter
none-more : (boxes : List (VecDeque Letter Global)) (new : VecDeque Letter Global) → new.items ≡ [] →
    ((p : ℕ) → letters_for p (map store_of boxes) ≡ []) → (p : ℕ) → letters_for p (map store_of (boxes ++ new ∷ [])) ≡ []
none-more [] new e h zero = e
none-more [] new e h (suc p) = refl
none-more (b ∷ bs) new e h zero = h zero
none-more (b ∷ bs) new e h (suc p) = none-more bs new e (λ q. h (suc q)) p

pub loop-process-init : goal.loop-process-init
loop-process-init c =
    let made = c.in_ok-reserve.ensures.len ∙ c.new-boxes.ensures.len in
    record {
      made = made;
      room = omega (arith, made, c.in_ok-reserve.ensures.ok, c.from.ensures);
      none = λ p. ap (λ z. letters_for p (map store_of z)) (c.in_ok-reserve.ensures.items ∙ c.new-boxes.ensures.items);
    }

pub push_reserved-requires : goal.push_reserved-requires
push_reserved-requires c = let i = c.loop-process.invariant in omega arith

pub loop-process-preserved : goal.loop-process-preserved
loop-process-preserved c =
    let i = c.loop-process.invariant in
    record {
      made = omega arith;
      room = omega arith;
      none = λ p. ap (λ z. letters_for p (map store_of z)) c.push_reserved.ensures.items
          ∙ none-more c.loop-process.boxes.items c.new.result c.new.ensures.items i.none p;
    }

pub returns-clause-processes : goal.returns-clause-processes
returns-clause-processes c =
    let i = c.loop-process.invariant in
    omega (arith, length-map c.loop-process.boxes.items store_of, c.loop-process.boxes.ok.0)

pub returns-clause-none : goal.returns-clause-none
returns-clause-none c = c.loop-process.invariant.none
