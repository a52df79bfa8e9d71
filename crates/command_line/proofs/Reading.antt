-- The number that is read of an argument's text.
use Rattle.std.proofs.Common.{◌≡◌, ◌∙◌, ◌≤◌, ℕ, Option, Some, None, Result, Ok, Err, true, refl, sym, ap, subst, IfSome, IsOk, IsSome, is_some, option_map, unwrap_or}
use Rattle.std.specs.Str.Parse.{ParsesUnsigned}
use Rattle.clap.specs.Words.{Text}
use Rattle.clap.specs.Matches.{TriesOne}
use Rattle.command_line.specs.Given.{IsUpTo}
use Rattle.command_line.specs.Meaning.{IsNumberOf, number_in}

pub some_under : {X Y : Type 0} (f : X → Y) (o : Option X) → is_some (option_map f o) ≡ true → IsSome o
some_under f None is = cc
some_under f (Some x) is = refl

-- a text has been read as a number
read_number : (E : Type 0) (G : Text → Result ℕ E → Type 0) (text : Text) (found : Option ℕ) →
    ((t : Text) (x : Result ℕ E) → G t x → ParsesUnsigned 64 10 t x) → TriesOne G text (Ok found) →
    found ≡ Some (number_in text)
read_number E G text None only tries = absurd tries
read_number E G text (Some n) only tries = let is : n ≡ number_in text = (only text (Ok n) tries).1 in cc

-- a text that is a number within limits is read
pub is_read : (E : Type 0) (G : Text → Result ℕ E → Type 0) (word : Option Text) (r : Result (Option ℕ) E) (most : ℕ) →
    ((t : Text) (x : Result ℕ E) → G t x → ParsesUnsigned 64 10 t x) → (word ≡ None → r ≡ Ok None) → ((t : Text) → word ≡ Some t → TriesOne G t r) →
    IsUpTo most word → IsOk r
is_read E G None r most only none some given = subst IsOk (sym (none refl)) refl
is_read E G (Some t) r most only none some given = go r (some t refl)
  where
    go : (x : Result (Option ℕ) E) → TriesOne G t x → IsOk x
    go (Ok found) tries = refl
    go (Err e) tries = absurd (only t (Err e) tries (given.0, given.1))

-- what was read is the number of the argument's text, if it has one
pub read_argument : (E : Type 0) (G : Text → Result ℕ E → Type 0) (word : Option Text) (r : Result (Option ℕ) E) (found : Option ℕ) →
    ((t : Text) (x : Result ℕ E) → G t x → ParsesUnsigned 64 10 t x) → r ≡ Ok found →
    (word ≡ None → r ≡ Ok None) → ((t : Text) → word ≡ Some t → TriesOne G t r) → found ≡ option_map number_in word
read_argument E G None r found only read none some = let h : r ≡ Ok None = none refl in cc
read_argument E G (Some t) r found only read none some = read_number E G t found only (subst (TriesOne G t) read (some t refl))

-- it lies within the limits
pub in_limits : (word : Option Text) (most : ℕ) (found : Option ℕ) → IsUpTo most word → found ≡ option_map number_in word →
    IfSome found (λ n. (1 ≤ n) × (n ≤ most))
in_limits None most found given is = subst (λ o. IfSome o (λ n. (1 ≤ n) × (n ≤ most))) (sym is) tt
in_limits (Some t) most found given is = subst (λ o. IfSome o (λ n. (1 ≤ n) × (n ≤ most))) (sym is) (given.2, given.3)

-- the number of an argument, or the usual one where it has no text
pub or_usual : (word : Option Text) (found : Option ℕ) (usual n : ℕ) → found ≡ option_map number_in word → n ≡ unwrap_or found usual →
    (word ≡ None → n ≡ usual) × IsNumberOf word n
or_usual None found usual n is value = ((λ _. value ∙ ap (λ o. unwrap_or o usual) is), tt)
or_usual (Some t) found usual n is value = ((λ h. cc), value ∙ ap (λ o. unwrap_or o usual) is)

-- it lies within the limits, too
pub usual_in_limits : (most : ℕ) (found : Option ℕ) (usual n : ℕ) → IfSome found (λ n. (1 ≤ n) × (n ≤ most)) → (1 ≤ usual) × (usual ≤ most) →
    n ≡ unwrap_or found usual → (1 ≤ n) × (n ≤ most)
usual_in_limits most None usual n given within value = subst (λ k. (1 ≤ k) × (k ≤ most)) (sym value) within
usual_in_limits most (Some m) usual n given within value = subst (λ k. (1 ≤ k) × (k ≤ most)) (sym value) given
