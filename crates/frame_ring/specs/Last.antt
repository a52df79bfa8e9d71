-- A list of frames without its last one, as a ring is left after the last frame was removed.
use Rattle.std.proofs.Common.{◌≡◌, ◌++◌, List, [], ◌∷◌, refl, ap}
use Rattle.vlink.specs.declared.frame.Frame.{Frame}

-- all but the last
abbrev pub without_last : List Frame → List Frame
without_last [] = []
without_last (x ∷ []) = []
without_last (x ∷ (y ∷ ys)) = x ∷ without_last (y ∷ ys)

pub without_last-push : (xs : List Frame) (x : Frame) → without_last (xs ++ x ∷ []) ≡ xs
without_last-push [] x = refl
without_last-push (y ∷ []) x = refl
without_last-push (y ∷ (z ∷ zs)) x = ap (λ ws. y ∷ ws) (without_last-push (z ∷ zs) x)
