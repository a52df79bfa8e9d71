-- Which fault a call tells.
use Rattle.std.proofs.Common.{◌≡◌, ◌⊎◌, Bool, true, inl, inr, Result, Ok, Err, IsErrAnd, IfOk, OnOk, sym, ◌∙◌}
use Rattle.journal.specs.declared.fault.PoolFault.{PoolFault}
use Rattle.journal.specs.declared.fault.PoolFault.TheVariants.{OutOfMemory, Exhausted, JournalFull, Torn}

-- what a growth of the journal is refused for
module _ (fault : PoolFault) (kept shared : Bool) (why : (fault ≡ OutOfMemory) ⊎ ((fault ≡ Torn) × (kept ≡ true) × (shared ≡ true))) where
  -- it is one of the faults that are told, where the run says whether the journal is kept
  pub faults-told : (keeps : Bool) → kept ≡ keeps → (fault ≡ OutOfMemory) ⊎ ((fault ≡ JournalFull) ⊎ ((fault ≡ Torn) × (keeps ≡ true) × (shared ≡ true)))
  faults-told keeps same =
      elim why [
        | inl a ↦ inl a
        | inr t ↦ inr (inr (t.0, sym same ∙ t.1, t.2))
      ]

  -- it is not that there are too many steps
  pub not-full : {T X : Type 0} (r : Result T PoolFault) → r ≡ Err fault → r ≡ Err JournalFull → X
  not-full r is full =
      elim why [
        | inl a ↦ absurd (let e = sym is ∙ full in cc)
        | inr t ↦ absurd (let torn = t.0 in let e = sym is ∙ full in cc)
      ]

-- one answer is not another one
pub not-ok : {X Y Z : Type 0} (a : X) (fault : Y) (r : Result X Y) → r ≡ Ok a → r ≡ Err fault → Z
not-ok a fault r p q = absurd (let e = sym p ∙ q in cc)

pub not-short : {X Z : Type 0} (r : Result X PoolFault) → r ≡ Err OutOfMemory → r ≡ Err Exhausted → Z
not-short r p q = absurd (let e = sym p ∙ q in cc)

-- a fault that is passed on is no success
pub err-if-ok : {T E : Type 0} (P : T → Type 0) (d : E) (r : Result T E) → IsErrAnd r (λ z. z ≡ d) → IfOk r P
err-if-ok P d (Ok v) was = absurd was
err-if-ok P d (Err e) was = tt

pub err-on-ok : {T E : Type 0} (P : Type 0) (d : E) (r : Result T E) → IsErrAnd r (λ z. z ≡ d) → OnOk r P
err-on-ok P d (Ok v) was = absurd was
err-on-ok P d (Err e) was = tt

-- want of memory that is passed on is not that of numbers
pub passed-short : {T X : Type 0} {d : PoolFault} (r : Result T PoolFault) → IsErrAnd r (λ z. z ≡ d) → d ≡ OutOfMemory → r ≡ Err Exhausted → X
passed-short (Ok v) was memory e = absurd was
passed-short (Err z) was memory e = absurd (let m = was ∙ memory in cc)
