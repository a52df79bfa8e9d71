-- What a run by workers reports, of what each of them ended with. Each fault has a number.
use Rattle.std.specs.Prelude.{◌≡◌, ◌⊎◌, ℕ, ◌+◌, ◌≤◌, List, Result, Err, Some, ⊤, IsOk, IfErr, OnOk, All, Contains, length, slice_get}

module _ {F : Type 0} (number : F → ℕ) where
  -- an outcome without a fault whose number is below that of this one
  abbrev pub HasNoLesser : F → Result ⊤ F → Type 0
  HasNoLesser told outcome = IfErr outcome (λ fault. number told ≤ number fault)

  -- of these outcomes `told` is the fault with the least number, or that it went well, if each went well
  pub record IsLeastOf (outcomes : List (Result ⊤ F)) (told : Result ⊤ F) : Type 0 where
    pub one : IfErr told (λ fault. Contains outcomes (Err fault))
    pub least : IfErr told (λ fault. All (HasNoLesser fault) outcomes)
    pub well : OnOk told (All IsOk outcomes)

  -- the start came to `start`, and so many threads ended somehow: `told` is the least fault of all these outcomes, or want of memory, if they
  -- could not be listed
  abbrev pub IsToldOf : (F → Type 0) → Result ⊤ F → ℕ → Result ⊤ F → Type 0
  IsToldOf is_memory start threads told =
      ((fault : F) × (told ≡ Err fault) × is_memory fault)
      ⊎ ((outcomes : List (Result ⊤ F)) × (length outcomes ≡ threads + 1) × (slice_get outcomes 0 ≡ Some start) × IsLeastOf outcomes told)

  -- what a run by so many workers reports: all of them were started, or memory or a worker's start was refused; and of that start and of what the
  -- threads ended with it is the least fault
  pub record IsToldByWorkers (is_memory is_unstarted : F → Type 0) (workers : ℕ) (told : Result ⊤ F) : Type 0 where
    pub start : Result ⊤ F
    pub threads : ℕ
    pub why : IfErr start (λ fault. is_memory fault ⊎ is_unstarted fault)
    pub all : OnOk start (threads ≡ workers)
    pub least : IsToldOf is_memory start threads told
