-- What holds of all messages of a list holds of each message in it.
use Rattle.std.proofs.Common.{inl, inr, List, [], ◌∷◌, All, sym, subst, arith}
use Rattle.std.proofs.lemmas.List.Elements.{All-head, All-tail}
use Rattle.virtual_time.specs.Law.{Order, IsOrder, IsIn}
use Rattle.virtual_time.proofs.Lists.{in-cons}

pub in-all : {M : Type 0} (o : Order M) → IsOrder o → (P : M → Type 0) (m : M) (xs : List M) → All P xs → IsIn o m xs → P m
in-all o O P m [] a i = absurd (omega arith)
in-all o O P m (x ∷ xs) a i = elim (in-cons o O m x xs i) [
  | inl e ↦ subst P (sym e) (All-head P x xs a)
  | inr j ↦ in-all o O P m xs (All-tail P x xs a) j
]
