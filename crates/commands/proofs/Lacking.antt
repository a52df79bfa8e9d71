-- Why a text is not where it should be, and what is left of it, told of the host.
use Rattle.std.proofs.Common.{◌≡◌, ◌∙◌, ◌⊎◌, ◌≢◌, inl, inr, ℕ, ◌+◌, Bool, true, List, [], take, Option, Some, None, refl, sym, ap, subst, IfSome, Bor, append-nil, arith}
use Rattle.std.specs.Io.KnownBytes.{append_known}
use Rattle.vlink.specs.Letters.{Row}
use Rattle.network.specs.Words.{Plan}
use Rattle.seqsim.specs.Networks.{AreRowsOf}
use Rattle.trace_segments.specs.Words.{IsBeginning, trace_text}
use Rattle.trace_segments.specs.declared.fault.OutFault.{OutFault}
use Rattle.trace_segments.specs.declared.fault.OutFault.TheVariants as out
use Rattle.trace_segments.specs.declared.segment_fault.SegmentFault.TheVariants as segment
use Rattle.trace_segments.specs.declared.trace_fault.TraceFault.{TraceFault}
use Rattle.trace_segments.specs.declared.trace_fault.TraceFault.TheVariants.{Segment, Out}
use Rattle.commands.specs.declared.fault.Fault.{Fault}
use Rattle.commands.specs.declared.fault.Fault.TheVariants.{Description, JournalLine, JournalFull, CannotRead, CannotWriteFile, CannotWrite, Layout, OutOfMemory, Exhausted, Spawn, Torn}
use Rattle.commands.specs.Ending.{IsFaultOfOutput, fault_of_file, fault_of_trace}
use Rattle.commands.specs.Files.{BeginsFile, IsFaultOfMake, IsFront, LacksFile, LacksOutput}
use Rattle.commands.specs.Outside.{IsHost, Outside}
use Rattle.commands.specs.Sequencing.{IsTraceText}
use Rattle.commands.proofs.Leaving.{if_some, stands}

-- a file that is as it was took none of a text
none_taken : (text : List ℕ) (old new : Option (List ℕ)) → new ≡ old → IsBeginning old new text
none_taken text None new same = (0, omega arith, same)
none_taken text (Some bytes) new same = (0, omega arith, same ∙ ap Some (sym (append-nil bytes)))

-- a sink that failed took a beginning, and one that is as it was too
pub began : {F : Type 0} (taken : F → Option (List ℕ)) (text : List ℕ) (old new : F) (why : OutFault) → (why ≡ out.Device → IsBeginning (taken old) (taken new) text) →
    (why ≢ out.Device → new ≡ old) → IsBeginning (taken old) (taken new) text
began taken text old new out.Device device kept = device refl
began taken text old new out.OutOfMemory device kept = none_taken text (taken old) (taken new) (ap taken (kept (λ e. cc)))
began taken text old new out.Layout device kept = none_taken text (taken old) (taken new) (ap taken (kept (λ e. cc)))

module _ {S F O E : Type 0} (outside : Outside S F O E) {taken : F → Option (List ℕ)} {failures : F → ℕ} {shown : O → Option (List ℕ)}
    {output_failures : O → ℕ} {said : E → Option (List ℕ)} {errors_failures : E → ℕ} (law : IsHost outside taken failures shown output_failures said errors_failures) where
  -- standard output was lent and did not take a text
  pub no_output : (has_rows : Bool) (host : S) (lent out : O) (fault : Fault) → lent ≡ outside.output host → IsFaultOfOutput has_rows output_failures lent out fault →
      LacksOutput outside has_rows host (outside.with_output host out) fault
  no_output has_rows host lent out fault from met =
      ((out, refl), subst (λ end. IsFaultOfOutput has_rows outside.output_failures (outside.output host) end fault) (sym (law.output_stays host out)) (of fault met))
    where
      of : (fault : Fault) → IsFaultOfOutput has_rows output_failures lent out fault → IsFaultOfOutput has_rows outside.output_failures (outside.output host) out fault
      of (Description fault) met = met
      of (JournalLine n) met = met
      of JournalFull met = met
      of (CannotRead path) met = met
      of (CannotWriteFile path) met = met
      of CannotWrite met = law.output_failed out ∙ (met ∙ ap (λ n. n + 1) (ap output_failures from ∙ sym (law.output_failed (outside.output host))))
      of Layout met = (met.0, met.1 ∙ from)
      of OutOfMemory met = met ∙ from
      of Exhausted met = met
      of Spawn met = met
      of Torn met = met

  -- a new file with this path was made, took a beginning of a text and was given back
  module _ (path : Bor (List ℕ)) (IsText : List ℕ → Type 0) (old begun new : S) (empty file : F) (text : List ℕ) (opened : begun ≡ outside.made old path.now)
      (none : IfSome (outside.wrote empty) (λ bytes. bytes ≡ [])) (fresh : outside.file_failures empty ≡ 0) (is : IsText text)
      (given : new ≡ outside.closed begun path.now file) (made : outside.makes old path.now true)
      (took : IsBeginning (taken empty) (taken file) text) where
    -- so many writes of it failed
    begins : (n : ℕ) → failures file ≡ failures empty + n → BeginsFile outside n path.now IsText old new
    begins n failed = (
      file,
      subst (λ o. IfSome o (IsFront IsText)) (sym (law.file_took file ∙ (took.2 ∙ ap (λ o. append_known o (take took.0 text)) (sym (law.file_took empty)))))
          (stands (IsFront IsText) (outside.wrote empty) (take took.0 text) none (text, is, (took.0, took.1, refl))),
      (let a = law.file_failed file in let b = law.file_failed empty in omega arith),
      given ∙ ap (λ host. outside.closed host path.now file) opened,
    )

    part : failures file ≡ failures empty → BeginsFile outside 0 path.now IsText old new
    part same = begins 0 (omega (arith, same))

    -- and it is not whole
    pub lacks : (has_rows : Bool) (why : OutFault) → (why ≡ out.Device → failures file ≡ failures empty + 1) →
        (why ≢ out.Device → failures file ≡ failures empty) → (why ≡ out.Layout → has_rows ≡ true) →
        LacksFile outside has_rows path.now IsText old new (fault_of_file path why)
    lacks has_rows out.Device failed kept rows = (refl, inr (made, begins 1 (failed refl)))
    lacks has_rows out.OutOfMemory failed kept rows = (made, inr (part (kept (λ e. cc))))
    lacks has_rows out.Layout failed kept rows = (rows refl, made, part (kept (λ e. cc)))

    -- nor is the trace of a run by workers
    pub lacks_trace : (why : TraceFault) → (why ≡ Out out.Device → failures file ≡ failures empty + 1) → (why ≢ Out out.Device → failures file ≡ failures empty) →
        LacksFile outside true path.now IsText old new (fault_of_trace path why)
        ⊎ ((fault_of_trace path why ≡ Torn) × outside.makes old path.now true × BeginsFile outside 0 path.now IsText old new)
    lacks_trace (Segment segment.Gap) failed kept = inr (refl, made, part (kept (λ e. cc)))
    lacks_trace (Segment segment.Double) failed kept = inr (refl, made, part (kept (λ e. cc)))
    lacks_trace (Segment segment.Stranger) failed kept = inr (refl, made, part (kept (λ e. cc)))
    lacks_trace (Segment segment.OutOfMemory) failed kept = inl (made, inr (part (kept (λ e. cc))))
    lacks_trace (Out why) failed kept =
        inl (lacks true why (λ e. failed (ap Out e)) (λ no. kept (λ e. no (let same : why ≡ out.Device = cc in same))) (λ e. refl))

module _ {S F O E : Type 0} (outside : Outside S F O E) where
  -- a file that was not made has no text
  pub not_made : (has_rows : Bool) (path : Bor (List ℕ)) (IsText : List ℕ → Type 0) (old new : S) (fault : Fault) → IsFaultOfMake outside path old new fault →
      LacksFile outside has_rows path.now IsText old new fault
  not_made has_rows path IsText old new fault (inl (is, refused, missed)) =
      subst (LacksFile outside has_rows path.now IsText old new) (sym is) (refl, inl (refused, missed))
  not_made has_rows path IsText old new fault (inr (is, makes, same)) = subst (LacksFile outside has_rows path.now IsText old new) (sym is) (makes, inl same)

  -- a beginning of a text of another sort
  begins_other : (n : ℕ) (path : List ℕ) (P Q : List ℕ → Type 0) (old new : S) → ((text : List ℕ) → P text → Q text) → BeginsFile outside n path P old new →
      BeginsFile outside n path Q old new
  begins_other n path P Q old new f begun =
      (begun.0, if_some (outside.wrote begun.0) begun.1 (λ bytes front. (front.0, f front.0 front.1, front.2)), begun.2, begun.3)

  pub lacks_other : (has_rows : Bool) (path : List ℕ) (P Q : List ℕ → Type 0) (old new : S) (fault : Fault) → ((text : List ℕ) → P text → Q text) →
      LacksFile outside has_rows path P old new fault → LacksFile outside has_rows path Q old new fault
  lacks_other has_rows path P Q old new (Description fault) f met = met
  lacks_other has_rows path P Q old new (JournalLine n) f met = met
  lacks_other has_rows path P Q old new JournalFull f met = met
  lacks_other has_rows path P Q old new (CannotRead at) f met = met
  lacks_other has_rows path P Q old new (CannotWriteFile at) f met =
      (met.0, elim met.1 [ inl none ↦ inl none | inr some ↦ inr (some.0, begins_other 1 path P Q old new f some.1) ])
  lacks_other has_rows path P Q old new CannotWrite f met = met
  lacks_other has_rows path P Q old new Layout f met = (met.0, met.1, begins_other 0 path P Q old new f met.2)
  lacks_other has_rows path P Q old new OutOfMemory f met =
      (met.0, elim met.1 [ inl none ↦ inl none | inr some ↦ inr (begins_other 0 path P Q old new f some) ])
  lacks_other has_rows path P Q old new Exhausted f met = met
  lacks_other has_rows path P Q old new Spawn f met = met
  lacks_other has_rows path P Q old new Torn f met = met

  -- the trace of a run, of its rows
  pub lacks_rows : (plan : Plan) (rows : List Row) (path : List ℕ) (old new : S) (fault : Fault) → AreRowsOf plan rows →
      LacksFile outside true path (λ text. text ≡ trace_text plan rows) old new fault → LacksFile outside true path (IsTraceText plan) old new fault
  lacks_rows plan rows path old new fault are met =
      lacks_other true path (λ text. text ≡ trace_text plan rows) (IsTraceText plan) old new fault (λ text same. (rows, are, same)) met
