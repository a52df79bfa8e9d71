-- The steps for which words stand.
use Rattle.std.proofs.Common.{◌≡◌, ℕ, zero, suc, ◌+◌, ◌<◌, ◌≤◌, List, [], ◌∷◌, ◌++◌, map, flat_map, get_or, length, take, drop, refl, sym, ap, ◌∙◌, arith, append_assoc, append-nil, length-append}
use Rattle.std.proofs.lemmas.List.{take_more, take-append-drop, length-map}
use Rattle.virtual_time.specs.Law.{behind}
use Rattle.virtual_time.specs.declared.step.Step.{Step}
use Rattle.std.proofs.lemmas.Grind.{flat_map-append}
use Rattle.std.specs.declared.snapshot.Snapshot.{Snapshot}
use Rattle.group_exchange.specs.declared.addition.Addition.{Addition}
use Rattle.group_exchange.specs.Telling.{steps_by}
use Rattle.group_queues.specs.declared.block.Word.{Word}
use Rattle.group_queues.specs.Block.{steps_of_word, steps_told}

pub length_behind : (waiting : ℕ → ℕ) (xs : List Step) → length (map (behind waiting) xs) ≡ length xs
length_behind waiting xs = length-map xs (behind waiting)

-- of words, and then of more
pub told-append : (ws more : List Word) → steps_told (ws ++ more) ≡ steps_told ws ++ steps_told more
told-append [] more = refl
told-append (w ∷ ws) more = ap (λ z. steps_of_word w ++ z) (told-append ws more) ∙ sym (append_assoc (steps_of_word w) (steps_told ws) (steps_told more))

-- of the first words and of the one behind them
pub told-more : (ws : List Word) (k : ℕ) (w : Word) → k < length ws → w ≡ get_or ws k w → steps_told (take (k + 1) ws) ≡ steps_told (take k ws) ++ steps_of_word w
told-more ws k w h e =
    ap steps_told (take_more ws k w h ∙ ap (λ z. take k ws ++ z ∷ []) (sym e)) ∙
    (told-append (take k ws) (w ∷ []) ∙ ap (λ z. steps_told (take k ws) ++ z) (append-nil (steps_of_word w)))

-- the first words stand for no more steps than all
pub told-few : (ws : List Word) (k : ℕ) → length (steps_told (take k ws)) ≤ length (steps_told ws)
told-few ws k =
    let all = ap (λ z. length (steps_told z)) (take-append-drop k ws) in
    let two = ap length (told-append (take k ws) (drop k ws)) in
    let sum = length-append (steps_told (take k ws)) (steps_told (drop k ws)) in
    omega arith

-- the word at a place
pub word-at : (ws : List Word) (k : ℕ) (d : Word) → k < length ws → get_or ws k d ≡ get_or ws k (get_or ws k d)
word-at [] k d h = absurd (omega arith)
word-at (w ∷ ws) zero d h = refl
word-at (w ∷ ws) (suc k) d h = word-at ws k d (omega arith)

-- the journal is told one thing more
pub told-longer : (told : List (Snapshot Addition)) (e : Snapshot Addition) (xs : List Step) → steps_by e.value ≡ xs →
    flat_map (λ t. steps_by t.value) (told ++ e ∷ []) ≡ flat_map (λ t. steps_by t.value) told ++ xs
told-longer told e xs h =
    flat_map-append (λ (t : Snapshot Addition). steps_by t.value) told (e ∷ []) ∙ ap (λ z. flat_map (λ t. steps_by t.value) told ++ z) (append-nil (steps_by e.value) ∙ h)
