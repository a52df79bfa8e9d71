-- The events of a queue from a place on, and how many of them can be committed.
use Rattle.std.proofs.Common.{◌≡◌, ℕ, suc, ◌+◌, ◌<◌, Bool, if◌then◌else◌, List, ◌∷◌, ◌∙◌, map, take, drop, length, get_or, slice_index_or, sym, ap, arith, length-take, get_or-take, drop-cons}
use Rattle.std.proofs.lemmas.List.{length-map, get_or-map}
use Rattle.vlink.specs.declared.message.Message.{Message}
use Rattle.vlink.specs.Order.{message_order}
use Rattle.vlink.specs.Letters.{Letter}
use Rattle.process_queues.specs.Committing.{is_committable, committable}

-- of the first ones of a list, those from place n on
from-place : {A B : Type 0} (f : A → B) (es : List A) (most n : ℕ) (e : A) → n < most → n < length es → e ≡ slice_index_or es n e →
    drop n (take most (map f es)) ≡ f e ∷ drop (n + 1) (take most (map f es))
from-place f es most n e i h p =
    drop-cons (take most (map f es)) n (f e) within ∙
    ap (λ x. x ∷ drop (suc n) (take most (map f es))) here ∙
    ap (λ k. f e ∷ drop k (take most (map f es))) next
  where
    within : n < length (take most (map f es))
    within = let a = length-take most (map f es) in let b = length-map es f in omega arith

    here : get_or (take most (map f es)) n (f e) ≡ f e
    here = get_or-take most (map f es) n (f e) i ∙ (get_or-map f es n e (f e) h ∙ ap f (sym p))

    next : suc n ≡ n + 1
    next = omega arith

-- how many of the first ones can be committed from place n on, by whether the one at that place can be
pub commits-from : {A : Type 0} (f : A → Message) (g : ℕ) (tally : List Letter) (es : List A) (most n : ℕ) (e : A) → n < most → n < length es → e ≡ slice_index_or es n e →
    (can : Bool) → can ≡ is_committable message_order g tally (f e) →
    committable message_order g tally (drop n (take most (map f es))) ≡ if can then suc (committable message_order g tally (drop (n + 1) (take most (map f es)))) else 0
commits-from f g tally es most n e i h p can c =
    ap (committable message_order g tally) (from-place f es most n e i h p) ∙
    ap (λ can. if can then suc (committable message_order g tally (drop (n + 1) (take most (map f es)))) else 0) (sym c)
