-- What handling a list of messages makes of a state, of two lists put together; and that undoing gives back the state before.
use Rattle.std.proofs.Common.{◌≡◌, List, [], ◌∷◌, ◌++◌, refl, sym, ap, ◌∙◌, append_assoc}
use Rattle.virtual_time.specs.Law.{Rules, reached, sent, rows_of, rowed, undone, HoldsAlong}

module _ {M S K N : Type 0} (r : Rules M S K N) where
  pub reached-append : (s : S) (xs ys : List M) → reached r s (xs ++ ys) ≡ reached r (reached r s xs) ys
  reached-append s [] ys = refl
  reached-append s (x ∷ xs) ys = reached-append (r.after s x) xs ys

  pub sent-append : (s : S) (xs ys : List M) → sent r s (xs ++ ys) ≡ sent r s xs ++ sent r (reached r s xs) ys
  sent-append s [] ys = refl
  sent-append s (x ∷ xs) ys = ap (λ z. r.sends s x ++ z) (sent-append (r.after s x) xs ys) ∙ sym (append_assoc (r.sends s x) _ _)

  pub rowed-append : (s : S) (xs ys : List M) → rowed r s (xs ++ ys) ≡ rowed r s xs ++ rowed r (reached r s xs) ys
  rowed-append s [] ys = refl
  rowed-append s (x ∷ xs) ys = ap (λ z. rows_of r.order x (r.notes s x) ++ z) (rowed-append (r.after s x) xs ys) ∙ sym (append_assoc (rows_of r.order x (r.notes s x)) _ _)

  -- a fact of each state in which one of two lists' messages was handled

  pub along-halves : (Good : S → Type 0) (s : S) (xs ys : List M) → HoldsAlong r Good s (xs ++ ys) →
      HoldsAlong r Good s xs × HoldsAlong r Good (reached r s xs) ys
  along-halves Good s [] ys h = (tt, h)
  along-halves Good s (x ∷ xs) ys h = let a = along-halves Good (r.after s x) xs ys h.1 in ((h.0, a.0), a.1)

  pub along-append : (Good : S → Type 0) (s : S) (xs ys : List M) → HoldsAlong r Good s xs → HoldsAlong r Good (reached r s xs) ys →
      HoldsAlong r Good s (xs ++ ys)
  along-append Good s [] ys h k = k
  along-append Good s (x ∷ xs) ys h k = (h.0, along-append Good (r.after s x) xs ys h.1 k)

  -- where each was handled in a good state, undoing gives back the state before them
  pub undone-along : (Good : S → Type 0) → ((s : S) (e : M) → Good s → r.undo (r.after s e) e (r.kept s e) ≡ s) →
      (s : S) (ms : List M) → HoldsAlong r Good s ms → undone r s ms (reached r s ms) ≡ s
  undone-along Good law s [] h = refl
  undone-along Good law s (m ∷ ms) h = ap (λ z. r.undo z m (r.kept s m)) (undone-along Good law (r.after s m) ms h.1) ∙ law s m h.0
