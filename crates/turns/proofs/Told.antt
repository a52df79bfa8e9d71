-- What a run by workers reports.
use Rattle.std.proofs.Common.{◌≡◌, ℕ, inl, inr, [], ◌∷◌, Ok, Err, IsOk, refl, sym, arith}
use Rattle.std.proofs.lemmas.List.Elements.{All-cons, All-nil, Contains-push}
use Rattle.turn_words.specs.Outcomes.{HasNoLesser, IsToldByWorkers}

module _ {F : Type 0} (rank : F → ℕ) (is_memory is_unstarted : F → Type 0) where
  -- of a run without workers
  pub no-workers : (workers : ℕ) → workers ≡ 0 → IsToldByWorkers rank is_memory is_unstarted workers (Ok tt)
  no-workers workers none = record {
    start = Ok tt;
    threads = 0;
    why = tt;
    all = sym none;
    least = inr (Ok tt ∷ [], refl, refl, record { one = tt; least = tt; well = All-cons IsOk (Ok tt) [] refl (All-nil IsOk) });
  }

  -- of one that got no memory for its workers
  pub no-memory : (workers : ℕ) (fault : F) → is_memory fault → IsToldByWorkers rank is_memory is_unstarted workers (Err fault)
  no-memory workers fault is = record { start = Err fault; threads = 0; why = inl is; all = tt; least = inl (fault, refl, is) }

  -- of one that could not start its first worker
  pub no-start : (workers : ℕ) (fault : F) → is_unstarted fault → IsToldByWorkers rank is_memory is_unstarted workers (Err fault)
  no-start workers fault is = record {
    start = Err fault;
    threads = 0;
    why = inr is;
    all = tt;
    least = inr (
      Err fault ∷ [],
      refl,
      refl,
      record {
        one = Contains-push [] (Err fault);
        least = All-cons (HasNoLesser rank fault) (Err fault) [] (omega arith) (All-nil (HasNoLesser rank fault));
        well = tt;
      },
    );
  }
