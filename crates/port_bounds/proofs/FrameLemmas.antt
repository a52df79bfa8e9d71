-- Lists of frames that are put, with their costs and moments.
use Rattle.std.proofs.Common.{◌≡◌, ℕ, ◌+◌, ◌≤◌, List, [], ◌∷◌, ◌++◌, Some, None, arith, append_assoc}
use Rattle.port_bounds.specs.Frames.{PutFrame, cost_of, IsBetween}

pub cost-append : (xs ys : List PutFrame) → cost_of (xs ++ ys) ≡ cost_of xs + cost_of ys
cost-append [] ys = omega arith
cost-append (x ∷ xs) ys = let e = cost-append xs ys in omega arith

pub between-push : (t u v : ℕ) (xs : List PutFrame) (x : PutFrame) → IsBetween t u xs → u ≤ x.at → x.at ≤ v → IsBetween t v (xs ++ x ∷ [])
between-push t u v [] x h a b = (omega arith, b)
between-push t u v (y ∷ ys) x h a b = (h.0, between-push y.at u v ys x h.1 a b)

-- up to a frame among them
pub between-front : (t u : ℕ) (xs : List PutFrame) (x : PutFrame) (ys : List PutFrame) → IsBetween t u (xs ++ x ∷ ys) → IsBetween t x.at (xs ++ x ∷ [])
between-front t u [] x ys h = (h.0, omega arith)
between-front t u (y ∷ xs) x ys h = (h.0, between-front y.at u xs x ys h.1)

pub between-ends : (t u : ℕ) (xs : List PutFrame) → IsBetween t u xs → t ≤ u
between-ends t u [] h = h
between-ends t u (x ∷ xs) h = let r = between-ends x.at u xs h.1 in omega (arith, h.0)

pub between-later : (t u v : ℕ) (xs : List PutFrame) → u ≤ v → IsBetween t u xs → IsBetween t v xs
between-later t u v [] l h = omega arith
between-later t u v (x ∷ xs) l h = (h.0, between-later x.at u v xs l h.1)

-- what is left of a list from a frame on
pub between-last : (t u : ℕ) (xs : List PutFrame) (x : PutFrame) (ys : List PutFrame) → IsBetween t u (xs ++ x ∷ ys) → (t ≤ x.at) × (x.at ≤ u)
between-last t u [] x ys h = (h.0, between-ends x.at u ys h.1)
between-last t u (y ∷ xs) x ys h = let r = between-last y.at u xs x ys h.1 in (omega (arith, h.0, r.0), r.1)

pub cons_none : (x : PutFrame) (xs : List PutFrame) → x ∷ xs ≡ [] → ⊥
cons_none x xs h = cc

pub none_some : (t : ℕ) → None ≡ Some t → ⊥
none_some t h = cc

-- one frame goes from the third list to the second
pub moved : (xs ys : List PutFrame) (x : PutFrame) (zs : List PutFrame) → (xs ++ ys) ++ (x ∷ zs) ≡ (xs ++ (ys ++ x ∷ [])) ++ zs
moved xs ys x zs = simp append_assoc

-- or from the second to the first
pub gone_on : (xs : List PutFrame) (x : PutFrame) (ys zs : List PutFrame) → (xs ++ (x ∷ ys)) ++ zs ≡ ((xs ++ x ∷ []) ++ ys) ++ zs
gone_on xs x ys zs = simp append_assoc

pub cut : (xs : List PutFrame) (x : PutFrame) (ys zs : List PutFrame) → (xs ++ (x ∷ ys)) ++ zs ≡ (xs ++ x ∷ []) ++ (ys ++ zs)
cut xs x ys zs = simp append_assoc
