-- The status of words, by the kind of clap's error.
use Rattle.std.proofs.Common.{◌≡◌, ◌⊎◌, ℕ, inl, inr, List, [], ◌∷◌, arith, subst, sym}
use Rattle.clap.specs.declared.error.kind.ErrorKind.{ErrorKind}
use Rattle.clap.specs.declared.error.kind.ErrorKind.TheVariants.{OutOfMemory}
use Rattle.clap.specs.Words.{IsAmong, Kinds, Text}
use Rattle.commands.specs.Words.{AsksFor, AsksForText}
use Rattle.afdxsim.specs.Performing.{AnswersWords, HasMistake, found_in}

among-mistakes : (kind : ErrorKind) (kinds : Kinds) → IsAmong kind kinds → ¬ (AsksFor kind) → HasMistake kinds
among-mistakes kind [] among is = among
among-mistakes kind (k ∷ ks) (inl same) is = inl (subst (λ x. ¬ (AsksFor x)) same is)
among-mistakes kind (k ∷ ks) (inr later) is = inr (among-mistakes kind ks later is)

among-asks : (kind : ErrorKind) (kinds : Kinds) → IsAmong kind kinds → AsksFor kind → AsksForText kinds
among-asks kind [] among asks = among
among-asks kind (k ∷ ks) (inl same) asks = inl (subst AsksFor same asks)
among-asks kind (k ∷ ks) (inr later) asks = inr (among-asks kind ks later asks)

-- a kind that is the same is as much a mistake
pub same_kind : (words : List Text) (kind k : ErrorKind) → k ≡ kind → (kind ≡ OutOfMemory) ⊎ IsAmong kind (found_in words) → (k ≡ OutOfMemory) ⊎ IsAmong k (found_in words)
same_kind words kind k is has = subst (λ x. (x ≡ OutOfMemory) ⊎ IsAmong x (found_in words)) (sym is) has

-- a kind that asks for no help, where nothing else does
pub asks_none : (words : List Text) (kind : ErrorKind) → (kind ≡ OutOfMemory) ⊎ IsAmong kind (found_in words) → ¬ (AsksForText (found_in words)) → ¬ (AsksFor kind)
asks_none words kind (inl is) none (inl help) = absurd (cc)
asks_none words kind (inl is) none (inr version) = absurd (cc)
asks_none words kind (inr among) none asks = none (among-asks kind (found_in words) among asks)

-- want of memory asks for none
pub memory_asks_none : (kind : ErrorKind) → kind ≡ OutOfMemory → ¬ (AsksFor kind)
memory_asks_none kind is (inl help) = absurd (cc)
memory_asks_none kind is (inr version) = absurd (cc)

-- the answer to words that are accepted
pub obeyed : (words : List Text) (Twice : Type 0) (status : ℕ) → found_in words ≡ [] → (status ≡ 2 → Twice) → AnswersWords words Twice status
obeyed words Twice status none twice =
    record { bad_words = λ two. inr (none, twice two); mistaken = λ some no. absurd (some none); done = λ zero. inl none; asked = λ some no. absurd (some none) }

-- a status that is not that of bad words
pub not_two : (status : ℕ) → (status ≡ 0) ⊎ (status ≡ 3) ⊎ (status ≡ 4) ⊎ (status ≡ 5) → status ≡ 2 → ⊥
not_two status (inl is) two = omega (arith, is, two)
not_two status (inr (inl is)) two = omega (arith, is, two)
not_two status (inr (inr (inl is))) two = omega (arith, is, two)
not_two status (inr (inr (inr is))) two = omega (arith, is, two)

-- the answer to an error
pub answered : (words : List Text) (Twice : Type 0) (kind : ErrorKind) (status : ℕ) → (kind ≡ OutOfMemory) ⊎ IsAmong kind (found_in words) →
    (status ≡ 0) ⊎ (status ≡ 2) ⊎ (status ≡ 4) ⊎ (status ≡ 5) → (kind ≡ OutOfMemory → status ≡ 5) →
    (status ≡ 0 → AsksFor kind) → (status ≡ 4 → AsksFor kind) → (status ≡ 2 → ¬ (AsksFor kind)) → AnswersWords words Twice status
answered words Twice kind status has known memory only_done only_shown only_mistake =
    record {
      bad_words = λ two. elim has [
        | inl e ↦ absurd (let five = memory e in omega arith)
        | inr among ↦ inl (among-mistakes kind (found_in words) among (only_mistake two))
      ];
      mistaken = λ some none. elim has [
        | inl e ↦ inr (memory e)
        | inr among ↦
            let asks : AsksFor kind → AsksForText (found_in words) = among-asks kind (found_in words) among in
            elim known [
              | inl zero ↦ absurd (none (asks (only_done zero)))
              | inr (inl two) ↦ inl two
              | inr (inr (inl four)) ↦ absurd (none (asks (only_shown four)))
              | inr (inr (inr five)) ↦ inr five
            ]
      ];
      done = λ zero. elim has [
        | inl e ↦ absurd (let five = memory e in omega arith)
        | inr among ↦ inr (among-asks kind (found_in words) among (only_done zero))
      ];
      asked = λ some none. elim has [
        | inl e ↦ inr (inr (memory e))
        | inr among ↦ elim known [
          | inl zero ↦ inl zero
          | inr (inl two) ↦ absurd (none (among-mistakes kind (found_in words) among (only_mistake two)))
          | inr (inr (inl four)) ↦ inr (inl four)
          | inr (inr (inr five)) ↦ inr (inr five)
        ]
      ];
    }
