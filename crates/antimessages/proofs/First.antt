-- The first entry with a plus, of those behind all of a message, tells the first present message after it.
use Rattle.std.proofs.Common.{◌≡◌, ℕ, zero, suc, ◌-◌, ◌<◌, ◌≤◌, inl, inr, Bool, true, false, cond, List, [], ◌∷◌, filter, length, slice_get, Option, Some, None, refl, sym, ap, ◌∙◌, subst, arith, find, option_map, nat_cmp, is_eq, is_lt, Ordering, Less, Equal, Greater, lt-ltb}
use Rattle.std.specs.List.{AllByRecursion}
use Rattle.std.specs.List.Sorted.{IsStrictlySortedBy}
use Rattle.std.specs.Ordering.{ordering_then}
use Rattle.std.specs.declared.ops.Bound.TheVariants.{Unbounded}
use Rattle.std.specs.Map.{lookup, keys_of}
use Rattle.std.specs.BTreeMap.{is_at}
use Rattle.std.specs.BTreeMap.Range.{range_contains, entries_between}
use Rattle.std.proofs.lemmas.Bool.{cases_lt}
use Rattle.std.proofs.lemmas.Bool.Decides.{nat_tests}
use Rattle.std.proofs.lemmas.List.Kept.{IsStrictlySortedBy-filter}
use Rattle.std.proofs.lemmas.Map.Entries.{place_from_lookup, lookup-filter-keys}
use Rattle.vlink.specs.declared.message.Message.{Message}
use Rattle.virtual_time.specs.declared.letter.Sign.{Sign}
use Rattle.virtual_time.specs.declared.letter.Sign.TheVariants.{Plus, Minus}
use Rattle.vlink.specs.Order.{message_cmp, message_order}
use Rattle.virtual_time.specs.Law.{IsOrder, IsPresent, pluses, minuses, is_plus}
use Rattle.virtual_time.proofs.Order.{less-asym}
use Rattle.antimessages.specs.declared.occurrence.Occurrence.{Occurrence}
use Rattle.antimessages.specs.Counting.{is_after, present_after}
use Rattle.antimessages.specs.Occurrences.{occurrence_of, occurrence_cmp, letters_of, sign_at, behind, AreTallied}
use Rattle.antimessages.proofs.After.{first_after-is, first_after-from}
use Rattle.antimessages.proofs.Entering.{first-equal}
use Rattle.antimessages.proofs.Last.{within, at-most}

-- what holds of all keys holds of that of an entry
key-at : {K X : Type 0} (P : K → Type 0) (es : List (K × X)) (i : ℕ) (e : K × X) → AllByRecursion P (keys_of es) → slice_get es i ≡ Some e → P e.0
key-at P [] i e h is = cc
key-at P (x ∷ xs) zero e h is = let same : x ≡ e = cc in subst (λ z. P z.0) same h.0
key-at P (x ∷ xs) (suc i) e h is = key-at P xs i e h.1 is

-- where keys are in order, an entry in front of another has the lesser key
pub lesser-key : {K X : Type 0} (c : K → K → Ordering) (es : List (K × X)) (i j : ℕ) (e f : K × X) → IsStrictlySortedBy c (keys_of es) → i < j →
    slice_get es i ≡ Some e → slice_get es j ≡ Some f → c e.0 f.0 ≡ Less
unfolding IsStrictlySortedBy
lesser-key c [] i j e f up w a b = cc
lesser-key c (x ∷ xs) i zero e f up w a b = absurd (omega arith)
lesser-key c (x ∷ xs) zero (suc j) e f up w a b = let same : x ≡ e = cc in subst (λ z. c z.0 f.0 ≡ Less) same (key-at (λ k. c x.0 k ≡ Less) xs j f up.0 b)
lesser-key c (x ∷ xs) (suc i) (suc j) e f up w a b = lesser-key c xs i j e f up.1 (omega arith) a b

-- the keys of the entries whose keys pass
keys-filter : {K X : Type 0} (p : K → Bool) (es : List (K × X)) → keys_of (filter (λ e. p e.0) es) ≡ filter p (keys_of es)
keys-filter p [] = refl
keys-filter p (e ∷ es) = go (p e.0) (keys-filter p es)
  where
    go : (b : Bool) → keys_of (filter (λ e. p e.0) es) ≡ filter p (keys_of es) →
        keys_of (cond b (e ∷ filter (λ e. p e.0) es) (filter (λ e. p e.0) es)) ≡ cond b (e.0 ∷ filter p (keys_of es)) (filter p (keys_of es))
    go true ih = ap (λ ks. e.0 ∷ ks) ih
    go false ih = ih

-- an element of those that pass is one of the list that passes
kept-at : {A : Type 0} (p : A → Bool) (xs : List A) (i : ℕ) (x : A) → slice_get (filter p xs) i ≡ Some x → (p x ≡ true) × (j : ℕ) × (slice_get xs j ≡ Some x)
kept-at p [] i x h = cc
kept-at {A} p (z ∷ zs) i x h = go (p z) refl i h (λ k e. kept-at p zs k x e)
  where
    go : (b : Bool) → p z ≡ b → (i : ℕ) → slice_get (cond b (z ∷ filter p zs) (filter p zs)) i ≡ Some x →
        ((k : ℕ) → slice_get (filter p zs) k ≡ Some x → (p x ≡ true) × (j : ℕ) × (slice_get zs j ≡ Some x)) →
        (p x ≡ true) × (j : ℕ) × (slice_get (z ∷ zs) j ≡ Some x)
    go true e zero is ih = let same : z ≡ x = cc in (subst (λ v. p v ≡ true) same e, 0, ap Some same)
    go true e (suc k) is ih = let t = ih k is in (t.0, suc t.1, t.2)
    go false e k is ih = let t = ih k is in (t.0, suc t.1, t.2)

-- the first of a list that passes, by its place
pub record IsFirst {A : Type 0} (p : A → Bool) (xs : List A) (x : A) : Type 0 where
  pub place : ℕ
  pub at : slice_get xs place ≡ Some x
  pub passes : p x ≡ true
  pub none : (j : ℕ) (y : A) → j < place → slice_get xs j ≡ Some y → p y ≡ false

pub first-is : {A : Type 0} (p : A → Bool) (xs : List A) (x : A) → find p xs ≡ Some x → IsFirst p xs x
first-is p [] x h = cc
first-is {A} p (z ∷ zs) x h = go (p z) refl h (λ k. first-is p zs x k)
  where
    go : (b : Bool) → p z ≡ b → cond b (Some z) (find p zs) ≡ Some x → (find p zs ≡ Some x → IsFirst p zs x) → IsFirst p (z ∷ zs) x
    go true e k ih = let same : z ≡ x = cc in record { place = 0; at = ap Some same; passes = subst (λ y. p y ≡ true) same e; none = λ j y w is. absurd (omega arith) }
    go false e k ih = let first = ih k in record { place = suc first.place; at = first.at; passes = first.passes; none = λ j y w is. others first j y w is }
      where
        others : (f : IsFirst p zs x) (j : ℕ) (y : A) → j < suc f.place → slice_get (z ∷ zs) j ≡ Some y → p y ≡ false
        others f zero y w is = let same : z ≡ y = cc in subst (λ v. p v ≡ false) same e
        others f (suc j) y w is = f.none j y (omega arith) is

pub none-passes : {A : Type 0} (p : A → Bool) (xs : List A) → find p xs ≡ None → (j : ℕ) (y : A) → slice_get xs j ≡ Some y → p y ≡ false
none-passes p [] h j y is = cc
none-passes {A} p (z ∷ zs) h j y is = go (p z) refl h j is (λ k i e. none-passes p zs k i y e)
  where
    go : (b : Bool) → p z ≡ b → cond b (Some z) (find p zs) ≡ None → (j : ℕ) → slice_get (z ∷ zs) j ≡ Some y →
        (find p zs ≡ None → (i : ℕ) → slice_get zs i ≡ Some y → p y ≡ false) → p y ≡ false
    go true e k j is ih = cc
    go false e k zero is ih = let same : z ≡ y = cc in subst (λ v. p v ≡ false) same e
    go false e k (suc j) is ih = ih k j is

-- the first plus of a list, by its first entry
pub plus-head : (e : Occurrence × Sign) (es rest : List (Occurrence × Sign)) → rest ≡ e ∷ es → e.1 ≡ Plus →
    Some e.0.message ≡ option_map (λ x. x.0.message) (find (λ x. is_plus x.1) rest)
plus-head e es rest is plus = sym (ap (λ xs. option_map (λ x. x.0.message) (find (λ x. is_plus x.1) xs)) is ∙
    ap (λ s. option_map (λ x. x.0.message) (cond (is_plus s) (Some e) (find (λ x. is_plus x.1) es))) plus)

pub minus-head : (e : Occurrence × Sign) (es rest : List (Occurrence × Sign)) → rest ≡ e ∷ es → e.1 ≡ Minus →
    option_map (λ x. x.0.message) (find (λ x. is_plus x.1) es) ≡ option_map (λ x. x.0.message) (find (λ x. is_plus x.1) rest)
minus-head e es rest is minus = sym (ap (λ xs. option_map (λ x. x.0.message) (find (λ x. is_plus x.1) xs)) is ∙
    ap (λ s. option_map (λ x. x.0.message) (cond (is_plus s) (Some e) (find (λ x. is_plus x.1) es))) minus)

second-equal : (o p : Ordering) → is_eq (ordering_then o p) ≡ true → p ≡ Equal
second-equal Less p h = cc
second-equal Equal Less h = cc
second-equal Equal Equal h = refl
second-equal Equal Greater h = cc
second-equal Greater p h = cc

-- more plus letters than minus letters, where the first ordinal has a plus, and the other way round
plus-present : (p n k : ℕ) → sign_at p n k ≡ Some Plus → n < p
plus-present p n k h = grind (arith, nat_tests)

present-plus : (p n : ℕ) → n < p → sign_at p n 0 ≡ Some Plus
present-plus p n h = rw (lt-ltb 0 (p - n) (omega arith)) refl

-- an occurrence lies there where its message comes after that message
lies-after : (newest : Option Message) (o : Occurrence) → o.ordinal ≤ 18446744073709551615 →
    range_contains occurrence_cmp (behind newest) Unbounded o ≡ is_after message_order newest o.message
lies-after None o h = refl
lies-after (Some m) o h = grind (arith, nat_tests)

module _ (X : (a b : Message) → message_cmp a b ≡ Equal → a ≡ b) (O : IsOrder message_order) (es : List (Occurrence × Sign)) (st : AreTallied es)
    (up : IsStrictlySortedBy occurrence_cmp (keys_of es)) (small : length es < 9223372036854775808) (newest : Option Message) where
  -- the entries there
  abbrev pub there : List (Occurrence × Sign)
  there = entries_between occurrence_cmp (behind newest) Unbounded es

  up-there : IsStrictlySortedBy occurrence_cmp (keys_of there)
  up-there =
      let p = range_contains occurrence_cmp (behind newest) Unbounded in
      subst (IsStrictlySortedBy occurrence_cmp) (sym (keys-filter p es)) (IsStrictlySortedBy-filter occurrence_cmp p (keys_of es) up)

  -- the message of an occurrence that is equal to another one
  own-message : (x : Message) (k : Occurrence) → is_at (occurrence_cmp (occurrence_of x 0)) k ≡ true → x ≡ k.message
  own-message x k t = X x k.message (first-equal (message_cmp x k.message) (nat_cmp 0 k.ordinal) t)

  -- a present message that comes after the other one has its first occurrence there
  record Stands (x : Message) : Type 0 where
    pub place : ℕ
    pub key : Occurrence
    pub at : slice_get there place ≡ Some (key, Plus)
    pub own : x ≡ key.message

  stands : (x : Message) → IsPresent message_order (letters_of es) x → is_after message_order newest x ≡ true → Stands x
  stands x h a =
      let q = occurrence_of x 0 in
      let here : lookup (is_at (occurrence_cmp q)) es ≡ Some Plus = st.signs x 0 ∙ present-plus _ _ h in
      let found : lookup (is_at (occurrence_cmp q)) there ≡ Some Plus =
      lookup-filter-keys (is_at (occurrence_cmp q)) (range_contains occurrence_cmp (behind newest) Unbounded) true (λ k t. lies k t) es ∙ here in
      let p = place_from_lookup (is_at (occurrence_cmp q)) there Plus found in
      record { place = p.0; key = p.1; at = p.2; own = own-message x p.1 p.3 }
    where
      low : (o p : ℕ) → is_eq (nat_cmp o p) ≡ true → o ≡ p
      low o p t = grind (arith, nat_tests)

      lies : (k : Occurrence) → is_at (occurrence_cmp (occurrence_of x 0)) k ≡ true → range_contains occurrence_cmp (behind newest) Unbounded k ≡ true
      lies k t =
          let zero_is : 0 ≡ k.ordinal = low 0 k.ordinal (ap is_eq (second-equal (message_cmp x k.message) (nat_cmp 0 k.ordinal) t)) in
          lies-after newest k (omega arith) ∙ subst (λ m. is_after message_order newest m ≡ true) (own-message x k t) a

  plus-is : (s : Sign) → is_plus s ≡ true → s ≡ Plus
  plus-is Plus h = refl
  plus-is Minus h = cc

  -- the first plus there
  module _ (e : Occurrence × Sign) (f : IsFirst (λ x. is_plus x.1) there e)
      (at-place : (i : ℕ) → slice_get es i ≡ Some e → lookup (is_at (occurrence_cmp e.0)) es ≡ Some e.1) where
    kept : (range_contains occurrence_cmp (behind newest) Unbounded e.0 ≡ true) × (lookup (is_at (occurrence_cmp e.0)) es ≡ Some e.1)
    kept = let k = kept-at (λ x. range_contains occurrence_cmp (behind newest) Unbounded x.0) es f.place e f.at in (k.0, at-place k.1 k.2)

    sign : sign_at (pluses message_order e.0.message (letters_of es)) (minuses message_order e.0.message (letters_of es)) e.0.ordinal ≡ Some Plus
    sign = sym (st.signs e.0.message e.0.ordinal) ∙ (kept.1 ∙ ap Some (plus-is e.1 f.passes))

    not_before : (x : Message) → Stands x → message_order.less x e.0.message ≡ false
    not_before x s = elim (cases_lt s.place f.place) [
      | inl less ↦ let bad = f.none s.place (s.key, Plus) less s.at in cc
      | inr more ↦ elim (cases_lt f.place s.place) [
        | inl less ↦ behind_it (message_cmp e.0.message s.key.message) refl (lesser-key occurrence_cmp there f.place s.place e (s.key, Plus) up-there less f.at s.at)
        | inr same ↦
            let one : f.place ≡ s.place = omega arith in
            let both : Some e ≡ Some (s.key, Plus) = sym f.at ∙ (ap (slice_get there) one ∙ s.at) in
            let message : e.0.message ≡ x = (let k : e ≡ (s.key, Plus) = cc in ap (λ z. z.0.message) k) ∙ sym s.own in
            subst (λ m. message_order.less x m ≡ false) (sym message) (O.irreflexive x)
      ]
    ]
      where
        behind_it : (o : Ordering) → message_cmp e.0.message s.key.message ≡ o → ordering_then o (nat_cmp e.0.ordinal s.key.ordinal) ≡ Less →
            message_order.less x e.0.message ≡ false
        behind_it Less w t = less-asym message_order O e.0.message x (subst (λ m. message_order.less e.0.message m ≡ true) (sym s.own) (ap is_lt w))
        behind_it Equal w t = subst (λ m. message_order.less x m ≡ false) (s.own ∙ sym (X e.0.message s.key.message w)) (O.irreflexive x)
        behind_it Greater w t = cc

    pub found-first : present_after message_order newest (letters_of es) ≡ Some e.0.message
    found-first = first_after-from message_order O newest (letters_of es) e.0.message (record {
      present = plus-present _ _ e.0.ordinal sign;
      after =
          let a = within Plus _ _ e.0.ordinal sign in
          let b = at-most e.0.message es in
          sym (lies-after newest e.0 (omega arith)) ∙ kept.0;
      first = λ x h a. not_before x (stands x h a);
    })

  -- the first entry of all, where it lies there
  head-there : (e : Occurrence × Sign) → slice_get es 0 ≡ Some e → range_contains occurrence_cmp (behind newest) Unbounded e.0 ≡ true → slice_get there 0 ≡ Some e
  head-there e at passes = go es at
    where
      go : (xs : List (Occurrence × Sign)) → slice_get xs 0 ≡ Some e → slice_get (entries_between occurrence_cmp (behind newest) Unbounded xs) 0 ≡ Some e
      go [] h = cc
      go (x ∷ xs) h = let same : x ≡ e = cc in rw (subst (λ z. range_contains occurrence_cmp (behind newest) Unbounded z.0 ≡ true) (sym same) passes) (ap Some same)

  -- where the first entry of all has a plus and its message comes after, it tells the first present message
  pub found-head : (o : Occurrence) (s : Sign) → slice_get es 0 ≡ Some (o, s) → is_plus s ≡ true → is_after message_order newest o.message ≡ true →
      lookup (is_at (occurrence_cmp o)) es ≡ Some s → present_after message_order newest (letters_of es) ≡ Some o.message
  found-head o s at plus after at-place =
      let low : o.ordinal ≤ 18446744073709551615 =
      let sign = sym (st.signs o.message o.ordinal) ∙ (at-place ∙ ap Some (plus-is s plus)) in
      let a = within Plus _ _ o.ordinal sign in
      let b = at-most o.message es in
      omega arith in
      found-first (o, s)
      (record { place = 0; at = head-there (o, s) at (lies-after newest o low ∙ after); passes = plus; none = λ j y w is. absurd (omega arith) })
      (λ i is. at-place)

  -- no plus there
  pub found-none : find (λ x. is_plus x.1) there ≡ None → present_after message_order newest (letters_of es) ≡ None
  found-none none = go (present_after message_order newest (letters_of es)) refl
    where
      go : (o : Option Message) → present_after message_order newest (letters_of es) ≡ o → o ≡ None
      go None e = refl
      go (Some m) e =
          let f = first_after-is message_order O newest (letters_of es) m e in
          let s = stands m f.present f.after in
          let bad = none-passes (λ x. is_plus x.1) there none s.place (s.key, Plus) s.at in
          cc

  -- the first plus there tells the first present message
  pub found : ((i : ℕ) (k : Occurrence) (s : Sign) → slice_get es i ≡ Some (k, s) → lookup (is_at (occurrence_cmp k)) es ≡ Some s) →
      option_map (λ x. x.0.message) (find (λ x. is_plus x.1) there) ≡ present_after message_order newest (letters_of es)
  found at-place = go (find (λ x. is_plus x.1) there) refl
    where
      go : (o : Option (Occurrence × Sign)) → find (λ x. is_plus x.1) there ≡ o → option_map (λ x. x.0.message) o ≡ present_after message_order newest (letters_of es)
      go None e = sym (found-none e)
      go (Some x) e = sym (found-first x (first-is (λ y. is_plus y.1) there x e) (λ i is. at-place i x.0 x.1 is))
