-- What one virtual link, or one line, can give a port.
use Rattle.std.specs.Prelude.{◌≡◌, ℕ, ◌+◌, ◌-◌, ◌*◌, ◌≤◌, ◌==◌, Bool, true, if◌then◌else◌, List, [], ◌∷◌, ◌++◌, Option, Some, None, ⊤}
use Rattle.port_bounds.specs.Frames.{PutFrame, IsBetween, link_of}
use Rattle.port_bounds.specs.Sublists.{IsSublist}
use Rattle.port_bounds.specs.Pacing.{IsPaced}

-- the cost of those of these frames that pass a test, and their moments
abbrev pub cost_at : (PutFrame → Bool) → List PutFrame → ℕ
cost_at test [] = 0
cost_at test (x ∷ xs) = (if test x then x.cost else 0) + cost_at test xs

abbrev pub moments_at : (PutFrame → Bool) → List PutFrame → List ℕ
moments_at test [] = []
moments_at test (x ∷ xs) = if test x then x.at ∷ moments_at test xs else moments_at test xs

-- the frame is of this virtual link; it came by this line
abbrev pub is_of_link : ℕ → PutFrame → Bool
is_of_link v x = link_of x == v

abbrev pub is_by_line : ℕ → PutFrame → Bool
is_by_line g x = x.line == g

-- of these frames, those that pass a test have an arrival curve
pub record IsClassWithin (scale burst rate : ℕ) (test : PutFrame → Bool) (fs : List PutFrame) : Type 0 where
  pub bounded : (xs ys zs : List PutFrame) (t u : ℕ) → fs ≡ xs ++ (ys ++ zs) → IsBetween t u ys →
      scale * cost_at test ys ≤ burst + rate * (u - t)

-- no frame that passes the test costs more than this
abbrev pub IsEachAtMost : ℕ → (PutFrame → Bool) → List PutFrame → Type 0
IsEachAtMost most test [] = ⊤
IsEachAtMost most test (x ∷ xs) = (test x ≡ true → x.cost ≤ most) × IsEachAtMost most test xs

-- the frame comes at least its own cost after that moment, if there is one
abbrev pub IsAfter : Option ℕ → PutFrame → Type 0
IsAfter None x = ⊤
IsAfter (Some last) x = last + x.cost ≤ x.at

-- each of these frames that passes the test comes at least its own cost after the one before it, which came at `last`
abbrev pub IsSerial : Option ℕ → (PutFrame → Bool) → List PutFrame → Type 0
IsSerial last test [] = ⊤
IsSerial last test (x ∷ xs) = (test x ≡ true → IsAfter last x) × IsSerial (if test x then Some x.at else last) test xs

-- the curve of paced frames, in units of which a ns has `parts` times the BAG
abbrev pub ArePacedWithin : Type 0
ArePacedWithin =
    (parts bag jitter most : ℕ) (test : PutFrame → Bool) (fs : List PutFrame) → IsPaced bag jitter (moments_at test fs) → IsEachAtMost most test fs →
    IsClassWithin (parts * bag) ((parts * most) * (bag + jitter)) (parts * most) test fs

-- the curve of the same frames by the gap that is left between two of them: one frame, and then one in each gap
abbrev pub AreSpacedWithin : Type 0
AreSpacedWithin =
    (scale rate bag jitter most : ℕ) (test : PutFrame → Bool) (fs : List PutFrame) → IsPaced bag jitter (moments_at test fs) → IsEachAtMost most test fs →
    scale * most ≤ rate * (bag - jitter) → IsClassWithin scale (scale * most) rate test fs

-- the curve of frames that come one after the other, by a line that is no faster than the port's own
abbrev pub AreSerialWithin : Type 0
AreSerialWithin =
    (scale most : ℕ) (first : Option ℕ) (test : PutFrame → Bool) (fs : List PutFrame) → IsSerial first test fs → IsEachAtMost most test fs →
    IsClassWithin scale (scale * most) scale test fs

-- where some of the frames are lost the others come one after the other, too
abbrev pub AreFewerSerial : Type 0
AreFewerSerial = (first : Option ℕ) (test : PutFrame → Bool) (some fs : List PutFrame) → IsSublist some fs → IsSerial first test fs → IsSerial first test some
