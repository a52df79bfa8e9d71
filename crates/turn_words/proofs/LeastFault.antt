-- The least fault of outcomes that come one after another.
use Rattle.std.proofs.Common.{◌≡◌, ℕ, ◌≤◌, ◌⊎◌, inl, inr, List, [], ◌∷◌, ◌++◌, sym, subst, arith, Result, Ok, Err, IsOk, IfErr, OnOk, All, Contains}
use Rattle.std.specs.Prelude.{⊤}
use Rattle.std.proofs.lemmas.Bool.{false≢true}
use Rattle.std.proofs.lemmas.List.Elements.{All-nil, All-cons, All-append, All-weaker, Contains-append_left, Contains-append_right}
use Rattle.turn_words.specs.Outcomes.{HasNoLesser, IsLeastOf}

module _ {F : Type 0} (number : F → ℕ) where
  -- of none
  pub least-none : IsLeastOf number [] (Ok tt)
  least-none = record { one = tt; least = tt; well = All-nil IsOk }

  -- outcomes without a fault have none with a lesser number, and those of which a lesser one is the least
  well-lesser : (told : F) (outcome : Result ⊤ F) → IsOk outcome → HasNoLesser number told outcome
  well-lesser told (Ok u) ok = tt
  well-lesser told (Err fault) ok = absurd (false≢true ok)

  still-lesser : (told fault : F) → number told ≤ number fault → (outcome : Result ⊤ F) → HasNoLesser number fault outcome → HasNoLesser number told outcome
  still-lesser told fault le (Ok u) h = tt
  still-lesser told fault le (Err other) h = omega arith

  module _ (outcomes : List (Result ⊤ F)) (other : Result ⊤ F) where
    one : (before told : Result ⊤ F) → IsLeastOf number outcomes before → (told ≡ before) ⊎ (told ≡ other) → IfErr told (λ fault. Contains (outcomes ++ other ∷ []) (Err fault))
    one before (Ok u) h either = tt
    one before (Err fault) h (inl e) = Contains-append_left outcomes (other ∷ []) (Err fault) (subst (λ (r : Result ⊤ F). IfErr r (λ f. Contains outcomes (Err f))) (sym e) h.one)
    one before (Err fault) h (inr e) = Contains-append_right outcomes (other ∷ []) (Err fault) (0, omega arith, sym e)

    least : (before told : Result ⊤ F) → IsLeastOf number outcomes before → IfErr before (λ fault. IfErr told (λ t. number t ≤ number fault))
        → IfErr other (λ fault. IfErr told (λ t. number t ≤ number fault)) → IfErr told (λ fault. All (HasNoLesser number fault) (outcomes ++ other ∷ []))
    least before (Ok u) h first second = tt
    least (Ok v) (Err fault) h first second =
        All-append (HasNoLesser number fault) outcomes (other ∷ []) (All-weaker IsOk (HasNoLesser number fault) (well-lesser fault) outcomes h.well)
        (All-cons (HasNoLesser number fault) other [] second (All-nil (HasNoLesser number fault)))
    least (Err earlier) (Err fault) h first second =
        All-append (HasNoLesser number fault) outcomes (other ∷ []) (All-weaker (HasNoLesser number earlier) (HasNoLesser number fault) (still-lesser fault earlier first) outcomes h.least)
        (All-cons (HasNoLesser number fault) other [] second (All-nil (HasNoLesser number fault)))

    well : (before told : Result ⊤ F) → IsLeastOf number outcomes before → OnOk told (IsOk before × IsOk other) → OnOk told (All IsOk (outcomes ++ other ∷ []))
    well before (Err fault) h both = tt
    well (Ok v) (Ok u) h both = All-append IsOk outcomes (other ∷ []) h.well (All-cons IsOk other [] both.1 (All-nil IsOk))
    well (Err earlier) (Ok u) h both = absurd (false≢true both.0)

    -- of one more
    pub least-more : (before told : Result ⊤ F) → IsLeastOf number outcomes before → (told ≡ before) ⊎ (told ≡ other)
        → IfErr before (λ fault. IfErr told (λ t. number t ≤ number fault)) → IfErr other (λ fault. IfErr told (λ t. number t ≤ number fault))
        → OnOk told (IsOk before × IsOk other) → IsLeastOf number (outcomes ++ other ∷ []) told
    least-more before told h either first second both =
        record { one = one before told h either; least = least before told h first second; well = well before told h both }
