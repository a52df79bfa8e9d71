-- The offers beside the lists: the last of them is first.
use Rattle.std.proofs.Common.{◌≡◌, ℕ, ◌-◌, ◌<◌, ◌↔◌, ◌++◌, inl, inr, List, ◌∷◌, [], false, Option, Some, None, length, slice_get, IfSome, IfNone, IsSome, IsPermutation, MatchOption, subst, sym, refl, ap, ◌∙◌, append-nil, arith, Bor, Contains, option_to_list, option_copied, IsSortedBy}
use Rattle.std.specs.Cmp.{IsTotalOrder}
use Rattle.std.proofs.lemmas.Bool.{both_ways, cases_lt}
use Rattle.std.proofs.lemmas.List.{nil_from_length}
use Rattle.std.proofs.lemmas.List.Elements.{All-append, All-contains, Contains-append_right}
use Rattle.std.proofs.lemmas.List.Sorted.{IsPermutation-append_right, IsPermutation-refl, IsPermutation-to_front, IsPermutation-trans}
use Rattle.std.proofs.lemmas.Option.{get_or_from_slice_get, slice_get_within, slice_get-get_or}
use Rattle.vlink.specs.declared.message.Message.{Message}
use Rattle.vlink.specs.Order.{message_cmp, message_order}
use Rattle.virtual_time.specs.Law.{IsOrder}
use Rattle.reverse.specs.Rules.{is_before}
use Rattle.two_lists.proofs.Firsts.{NoneBefore, last-first, last-is}

pub last-before : IsTotalOrder message_cmp → (offers : List Message) → IsSortedBy (λ x y. is_before y x) offers → (last : Option (Bor Message)) →
    option_copied last ≡ slice_get offers (length offers - 1) → IfSome last (λ m. NoneBefore m.now offers)
last-before o offers falls None e = tt
last-before o offers falls (Some m) e = last-first o offers m.now falls (sym e)

pub last-none : (offers : List Message) (last : Option (Bor Message)) → option_copied last ≡ slice_get offers (length offers - 1) → IfNone last (offers ≡ [])
last-none offers (Some m) e = tt
last-none [] None e = refl
last-none (x ∷ xs) None e = let k = slice_get-get_or (x ∷ xs) (length (x ∷ xs) - 1) x (omega arith) in cc

pub last-in : (offers : List Message) (last : Option (Bor Message)) → option_copied last ≡ slice_get offers (length offers - 1) → IfSome last (λ m. Contains offers m.now)
last-in offers None e = tt
last-in offers (Some m) e =
    (length offers - 1, slice_get_within offers (length offers - 1) m.now (sym e), get_or_from_slice_get offers (length offers - 1) m.now m.now (sym e))

pub last-out : (offers rest : List Message) (taken : Option Message) → offers ≡ rest ++ option_to_list taken → IfSome taken (λ m. IsPermutation offers (m ∷ rest))
last-out offers rest None e = tt
last-out offers rest (Some m) e = subst (λ (xs : List Message). IsPermutation xs (m ∷ rest)) (sym e) (IsPermutation-to_front rest m)

pub last-out-before : IsTotalOrder message_cmp → (offers rest : List Message) (taken : Option Message) → IsSortedBy (λ x y. is_before y x) offers →
    offers ≡ rest ++ option_to_list taken → IfSome taken (λ m. NoneBefore m offers)
last-out-before o offers rest None falls e = tt
last-out-before o offers rest (Some m) falls e = last-first o offers m falls (last-is offers rest m e)

-- the last of the offers, where no message of the lists comes before it
pub last-of-all : IsTotalOrder message_cmp → (lists offers : List Message) → IsSortedBy (λ x y. is_before y x) offers → (last : Option (Bor Message)) →
    option_copied last ≡ slice_get offers (length offers - 1) → MatchOption last (lists ≡ []) (λ r. NoneBefore r.now lists) →
    IfSome (option_copied last) (λ m. NoneBefore m (lists ++ offers))
last-of-all o lists offers falls None e k = tt
last-of-all o lists offers falls (Some m) e k = All-append (λ x. is_before x m.now ≡ false) lists offers k (last-first o offers m.now falls (sym e))

pub last-among : (lists offers : List Message) (last : Option (Bor Message)) → option_copied last ≡ slice_get offers (length offers - 1) →
    IfSome (option_copied last) (Contains (lists ++ offers))
last-among lists offers None e = tt
last-among lists offers (Some m) e = Contains-append_right lists offers m.now (last-in offers (Some m) e)

-- two that are first of a list are one
pub first-out : IsOrder message_order → (old new : List Message) (m : Message) (taken : Option Message) → Contains old m → NoneBefore m old →
    IfSome taken (λ z. old ≡ z ∷ new) → IfSome taken (λ z. NoneBefore z old) → IfNone taken (old ≡ []) → IsPermutation old (m ∷ new)
first-out O old new m None there first p q none = absurd (let k = subst (λ (xs : List Message). Contains xs m) none there in let l = k.1 in omega (arith, l))
first-out O old new m (Some z) there first p q none =
    let inside : Contains old z = subst (λ (xs : List Message). Contains xs z) (sym p) (0, omega arith, refl) in
    let same : z ≡ m = O.total z m (All-contains (λ x. is_before x m ≡ false) old z first inside) (All-contains (λ x. is_before x z ≡ false) old m q there) in
    subst (IsPermutation old) (p ∙ ap (λ (w : Message). w ∷ new) same) (IsPermutation-refl old)

-- all that was in no order lies beside now, in order
pub put-beside : (lists now far put offers : List Message) → offers ≡ [] → IsPermutation lists (now ++ far) → IsPermutation far put → IsPermutation (lists ++ offers) (now ++ put)
put-beside lists now far put offers none p q =
    subst (λ (zs : List Message). IsPermutation zs (now ++ put)) (sym (ap (λ z. lists ++ z) none ∙ append-nil lists))
    (IsPermutation-trans lists (now ++ far) (now ++ put) p (IsPermutation-append_right now far put q))

-- there is none, where no last one is, and the lists are empty
pub none-of-all : (lists offers : List Message) (last : Option (Bor Message)) → option_copied last ≡ slice_get offers (length offers - 1) →
    MatchOption last (lists ≡ []) (λ r. NoneBefore r.now lists) → IfNone (option_copied last) (lists ++ offers ≡ [])
none-of-all lists offers None e k = ap (λ z. z ++ offers) k ∙ last-none offers None e
none-of-all lists offers (Some m) e k = tt

-- the same, where the last one was to be taken out
pub none-out : (lists now offers rest : List Message) (taken : Option Message) (last : Option (Bor Message)) (len : ℕ) → length offers ≡ len → offers ≡ rest ++ option_to_list taken → (IsSome taken ↔ (0 < len)) →
    option_copied last ≡ slice_get offers (length offers - 1) → MatchOption last ((lists ≡ []) × (now ≡ [])) (λ r. NoneBefore r.now lists) →
    IfNone taken (lists ++ offers ≡ []) × IfNone taken (now ++ rest ≡ [])
none-out lists now offers rest (Some m) last len n e v s k = (tt, tt)
none-out lists now offers rest None last len n e v s k =
    let empty : offers ≡ [] = nothing in
    let none : rest ≡ [] = sym (append-nil rest) ∙ (sym e ∙ empty) in
    let both = go last s k in
    (ap (λ z. z ++ offers) both.0 ∙ empty, ap (λ z. z ++ rest) both.1 ∙ none)
  where
    nothing : offers ≡ []
    nothing = nil_from_length offers (elim (cases_lt 0 len) [ inl p ↦ absurd (both_ways false refl (v.1 p)) | inr q ↦ omega (arith, q, n) ])

    go : (l : Option (Bor Message)) → option_copied l ≡ slice_get offers (length offers - 1) → MatchOption l ((lists ≡ []) × (now ≡ [])) (λ r. NoneBefore r.now lists) → (lists ≡ []) × (now ≡ [])
    go None s k = k
    go (Some m) s k = absurd (let w = slice_get_within offers (length offers - 1) m.now (sym s) in let z = ap length nothing in omega (arith, w, z))
