-- For how many steps words stand.
use Rattle.std.proofs.Common.{◌≡◌, ℕ, ◌+◌, ◌≤◌, List, [], ◌∷◌, ◌++◌, length, refl, sym, ap, ◌∙◌, arith, append_assoc, length-append, append-nil}
use Rattle.group_queues.specs.declared.block.Word.{Word}
use Rattle.group_queues.specs.declared.block.Word.TheVariants.{Ran, Home, Taken, Arrived, Committed}
use Rattle.group_queues.specs.Block.{steps_of_word, steps_told}

-- words behind others
pub told-append : (xs ys : List Word) → steps_told (xs ++ ys) ≡ steps_told xs ++ steps_told ys
told-append [] ys = refl
told-append (x ∷ xs) ys = ap (λ z. steps_of_word x ++ z) (told-append xs ys) ∙ sym (append_assoc (steps_of_word x) (steps_told xs) (steps_told ys))

-- one word more
pub steps-push : (ds : List Word) (d : Word) → length (steps_told (ds ++ d ∷ [])) ≡ length (steps_told ds) + length (steps_of_word d)
steps-push ds d =
    ap length (told-append ds (d ∷ [])) ∙ (length-append (steps_told ds) (steps_of_word d ++ []) ∙
    ap (λ xs. length (steps_told ds) + length xs) (append-nil (steps_of_word d)))

word-most : (d : Word) → length (steps_of_word d) ≤ 2
word-most (Ran p) = omega arith
word-most (Home p) = omega arith
word-most (Taken p) = omega arith
word-most (Arrived p) = omega arith
word-most (Committed p) = omega arith

-- at most two each
pub steps-most : (ds : List Word) → length (steps_told ds) ≤ length ds + length ds
steps-most [] = omega arith
steps-most (d ∷ ds) =
    let a = length-append (steps_of_word d) (steps_told ds) in
    let b = word-most d in
    let c = steps-most ds in
    omega arith

-- what that is beside one each: no more than there are words
pub long-few : (ds : List Word) (n long : ℕ) → length ds ≡ n → length (steps_told ds) ≡ n + long → long ≤ n
long-few ds n long e s = let a = steps-most ds in omega arith
