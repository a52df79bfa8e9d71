-- Texts that are written one after another.
use Rattle.std.proofs.Common.{◌≡◌, ℕ, ◌+◌, ◌<◌, List, [], ◌∷◌, ◌++◌, length, take, get_or, ap, sym, subst, ◌∙◌, append_assoc, flat_map, Global, Vec, append-nil, Result, Ok, Err, IfOk, IsErr, OnOk, OnErr}
use Rattle.std.proofs.lemmas.List.{take_more}
use Rattle.std.proofs.lemmas.Grind.{flat_map-append}
use Rattle.csv.specs.declared.writer.Writer.{Writer}
use Rattle.trace_segments.specs.Words.{Holds, Adds}

-- a list up to one place more, where this is read
pub take-read : {X : Type 0} (xs : List X) (i : ℕ) (x : X) → i < length xs → x ≡ get_or xs i x → take (i + 1) xs ≡ take i xs ++ x ∷ []
take-read xs i x below at = take_more xs i x below ∙ ap (λ (y : _). take i xs ++ y ∷ []) (sym at)

pub adds-more : (a b c : Writer (Vec ℕ Global)) (xs ys : List ℕ) → Adds a b xs → Adds b c ys → Adds a c (xs ++ ys)
adds-more a b c xs ys f g text h = subst (λ (t : List ℕ). Holds c t) (append_assoc text xs ys) (g (text ++ xs) (f text h))

pub adds-same : (a b : Writer (Vec ℕ Global)) (xs ys : List ℕ) → xs ≡ ys → Adds a b xs → Adds a b ys
adds-same a b xs ys e f = subst (λ (zs : List ℕ). Adds a b zs) e f

-- one more of those that are made one after another
pub flat_map-more : {X Y : Type 0} (f : X → List Y) (xs : List X) (i : ℕ) (x : X) → i < length xs → x ≡ get_or xs i x → flat_map f (take (i + 1) xs) ≡ flat_map f (take i xs) ++ f x
flat_map-more f xs i x below at =
    ap (flat_map f) (take-read xs i x below at) ∙ flat_map-append f (take i xs) (x ∷ []) ∙ ap (λ ys. flat_map f (take i xs) ++ ys) (append-nil (f x))

-- the text that a writer gives up is what was put into it
pub text-put : {X E F : Type 0} (empty full : Writer (Vec ℕ Global)) (text : List ℕ) (put : Result X F) (r : Result (Vec ℕ Global) E) → Holds empty [] →
    OnOk put (Adds empty full text) → OnErr put (IsErr r) → IfOk r (λ bytes. (held : List ℕ) → Holds full held → bytes.items ≡ held) → IfOk r (λ bytes. bytes.items ≡ text)
text-put empty full text (Ok x) (Ok bytes) none adds lost gives = gives text (adds [] none)
text-put empty full text (Err f) (Ok bytes) none adds lost gives = absurd (cc)
text-put empty full text (Ok x) (Err e) none adds lost gives = tt
text-put empty full text (Err f) (Err e) none adds lost gives = tt
