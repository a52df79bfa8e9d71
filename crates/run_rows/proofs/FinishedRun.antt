-- The trace of a run at its end.
use Rattle.std.proofs.Common.{◌≡◌, ◌≢◌, ◌∙◌, ℕ, ◌+◌, ◌-◌, ◌≤◌, ◌==◌, Bool, true, false, cond, List, [], ◌∷◌, ◌++◌, length, take, refl, sym, ap, subst, arith, Option, Some, None, Result, Ok, Err, IsOk, OnOk, IfErr, flat_map, eq-eqb, length-append, length-take-le}
use mathlib.Core.Logic.{∥∥₁_elim, ∥∥₁_map₂}
use Rattle.std.specs.Io.KnownBytes.{append_known}
use Rattle.std.proofs.Props.{props}
use Rattle.std.proofs.lemmas.Grind.{common_steps}
use Rattle.virtual_time.specs.Law.{rows_at}
use Rattle.vlink.specs.Letters.{Row}
use Rattle.network.specs.Words.{Plan, process_count}
use Rattle.trace_segments.specs.declared.fault.OutFault.{OutFault}
use Rattle.trace_segments.specs.declared.fault.OutFault.TheVariants.{Device, OutOfMemory, Layout}
use Rattle.trace_segments.specs.declared.segment_fault.SegmentFault.TheVariants.{Gap}
use Rattle.trace_segments.specs.declared.trace_fault.TraceFault.{TraceFault}
use Rattle.trace_segments.specs.declared.trace_fault.TraceFault.TheVariants.{Segment, Out}
use Rattle.trace_segments.specs.Words.{rows_before, rows_from, IsBeginning, trace_line, trace_text}
use Rattle.trace_writer.specs.WrittenTrace.{WrittenTrace, lacks_head, end_fault}
use Rattle.trace_segments.proofs.TimeLemmas.{all-before}
use Rattle.network_actors.specs.Networks.{AreRowsOf}
use Rattle.run_rows.specs.Traces.{AreLawfulRows, HasLawfulRows, IsTraceOfRun, text_before}
use Rattle.run_rows.proofs.Nothing.{none-of}
use Rattle.run_rows.proofs.TraceText.{known-none, begins-none, begins-first, begins-whole, text-splits}
use Rattle.run_rows.proofs.WrittenRun.{Splits}

-- what nothing is wrong with at its end has come to the moment behind the end of the run, and its sink has not failed
at-end : (trace : WrittenTrace) → end_fault trace ≡ None → lacks_head trace ≡ false → (trace.broken ≡ false) × (trace.end ≡ trace.plan.until + 1)
at-end trace none headed = grind (arith, common_steps)

-- a trace that lacks its first line is of a network without a process, and its sink has not failed
headless : (trace : WrittenTrace) → lacks_head trace ≡ true → (trace.broken ≡ false) × (trace.begun ≡ false) × (process_count trace.plan ≡ 0)
headless trace lacks = grind (arith, common_steps)

-- a sink that failed is told
told-broken : (trace : WrittenTrace) → trace.broken ≡ true → end_fault trace ≡ Some (Out Device)
told-broken trace broken = ap (λ b. cond b (Some (Out Device)) (cond (lacks_head trace) None (cond (trace.end == trace.plan.until + 1) None (Some (Segment Gap))))) broken

-- and one that did not fail is not
told-other : (trace : WrittenTrace) → trace.broken ≡ false → end_fault trace ≡ Some (Out Device) → ⊥
told-other trace whole told = grind (arith, common_steps)

-- a network without a process has no rows
no-rows : (plan : Plan) (rows : List Row) → AreLawfulRows plan rows → process_count plan ≡ 0 → rows ≡ []
no-rows plan [] lawful none = refl
no-rows plan (x ∷ xs) lawful none =
    absurd (
    let rest = rows_at x.place xs in
    let here : x ∷ rest ≡ [] =
    sym (ap (λ b. cond b (x ∷ rest) rest) (eq-eqb x.place x.place refl)) ∙ lawful.none_outside x.place (omega arith) in
    let long = ap length here in
    omega arith
    )

-- faults of the same answer
same-fault : {X : Type 0} (a b : TraceFault) → ◌≡◌ {A = Result X TraceFault} (Err a) (Err b) → a ≡ b
same-fault a b e = cc

-- a sink that took a beginning of a text, where no more is known of it
abbrev grown : List ℕ → Option (List ℕ) → ℕ
grown ks None = 0
grown ks (Some ns) = length ns - length ks

a-beginning : (known new : Option (List ℕ)) (xs : List ℕ) → ∥ IsBeginning known new xs ∥₁ → IsBeginning known new xs
a-beginning None new xs some = (0, omega arith, ∥∥₁_elim some (hlevel props) (λ b. b.2))
a-beginning (Some ks) new xs some = (
  grown ks new,
  ∥∥₁_elim some (hlevel props) (λ b. subst (λ n. n ≤ length xs) (same b) b.1),
  ∥∥₁_elim some (hlevel props) (λ b. subst (λ n. new ≡ append_known (Some ks) (take n xs)) (same b) b.2),
)
  where
    same : (b : IsBeginning (Some ks) new xs) → b.0 ≡ grown ks new
    same b =
        let all = length-append ks (take b.0 xs) in
        let few = length-take-le b.0 xs b.1 in
        let e : length (ks ++ take b.0 xs) - length ks ≡ b.0 = omega arith in
        sym (ap (grown ks) b.2 ∙ e)

-- what `finish` says of a trace: of its answer, of what the sink then has, and of its failures
pub record Finishes {X : Type 0} (old : WrittenTrace) (r : Result X TraceFault) (taken : Option (List ℕ)) (failed : ℕ) : Type 0 where
  pub refused : (fault : TraceFault) → end_fault old ≡ Some fault → r ≡ Err fault
  pub whole : end_fault old ≡ None → lacks_head old ≡ false → IsOk r
  pub same : lacks_head old ≡ false → taken ≡ old.taken
  pub no_failure : lacks_head old ≡ false → failed ≡ old.failures
  pub written : lacks_head old ≡ true → OnOk r (taken ≡ append_known old.taken (trace_text old.plan []))
  pub went_well : OnOk r (failed ≡ old.failures)
  pub out : lacks_head old ≡ true → IfErr r (λ fault. (why : OutFault) × (fault ≡ Out why))
  pub device : lacks_head old ≡ true → IfErr r (λ fault. fault ≡ Out Device → IsBeginning old.taken taken (trace_text old.plan []))
  pub one_failed : lacks_head old ≡ true → IfErr r (λ fault. fault ≡ Out Device → failed ≡ old.failures + 1)
  pub kept : IfErr r (λ fault. fault ≢ Out Device → taken ≡ old.taken)
  pub kept_failures : IfErr r (λ fault. fault ≢ Out Device → failed ≡ old.failures)

module _ {X : Type 0} (old : WrittenTrace) (taken : Option (List ℕ)) (failed : ℕ) where
  -- what is told, where the first line is not lacking
  told : (fault : TraceFault) → Finishes {X = X} old (Err fault) taken failed → lacks_head old ≡ false → end_fault old ≡ Some fault
  told fault F headed = go (end_fault old) refl
    where
      go : (o : Option TraceFault) → end_fault old ≡ o → end_fault old ≡ Some fault
      go None e = absurd (let f = F.whole e headed in cc)
      go (Some g) e = e ∙ ap Some (same-fault g fault (sym (F.refused g e)))

  -- a sink that failed before is told
  failed-before : (r : Result X TraceFault) → Finishes old r taken failed → (r ≡ Err (Out Device) → ⊥) → old.broken ≡ false
  failed-before r F other = go old.broken refl
    where
      go : (b : Bool) → old.broken ≡ b → b ≡ false
      go true e = absurd (other (F.refused (Out Device) (told-broken old e)))
      go false e = refl

-- what follows from two facts
from-both : {A B C : Type 0} → ∥ A ∥₁ → ∥ B ∥₁ → IsProp C → (A → B → C) → C
from-both a b prop f = ∥∥₁_elim a prop (λ x. ∥∥₁_elim b prop (f x))

module _ (plan : Plan) (start : Option (List ℕ)) (failures : ℕ) (H : HasLawfulRows plan) (splits : Splits)
    (old : WrittenTrace) (T : IsTraceOfRun plan start failures old) where
  -- how many writes had failed
  unfailed : old.broken ≡ false → old.failures ≡ failures
  unfailed whole = T.failures_are ∙ ap (λ b. cond b (failures + 1) failures) whole

  module _ (rows : List Row) (r : AreRowsOf plan rows) where
    abbrev whole_text : List ℕ
    whole_text = trace_text plan rows

    split : (moment : ℕ) → trace_text plan rows ≡ trace_text plan (rows_before moment rows) ++ flat_map (trace_line plan) (rows_from moment rows)
    split = text-splits rows (λ moment. splits moment rows (H rows r).ordered) plan

    -- where nothing is wrong the sink took the whole text
    all-taken : end_fault old ≡ None → lacks_head old ≡ false → old.taken ≡ append_known start whole_text
    all-taken none headed = T.sound (at-end old none headed).0 rows r ∙ ap (append_known start) (go old.begun refl)
      where
        last : old.end ≡ plan.until + 1
        last = (at-end old none headed).1 ∙ ap (λ (p : Plan). p.until + 1) T.plan_is

        go : (b : Bool) → old.begun ≡ b → text_before plan b old.end rows ≡ whole_text
        go true e = ap (λ (moment : ℕ). trace_text plan (rows_before moment rows)) last
            ∙ ap (trace_text plan) (all-before (plan.until + 1) rows (λ i d below. let early = (H rows r).in_time i d below in omega arith))
        go false e = absurd (let first = T.opening e in let k = last in omega arith)

    -- and in any case a beginning
    some-taken : IsBeginning start old.taken whole_text
    some-taken = go old.broken refl
      where
        behind : (b : Bool) → IsBeginning start (append_known start (text_before plan b old.end rows)) whole_text
        behind true = subst (IsBeginning start (append_known start (trace_text plan (rows_before old.end rows)))) (sym (split old.end)) (begins-first start _ _)
        behind false = subst (λ (known : Option (List ℕ)). IsBeginning start known whole_text) (sym (known-none start)) (begins-none start whole_text)

        go : (b : Bool) → old.broken ≡ b → IsBeginning start old.taken whole_text
        go true e = T.broken e rows r
        go false e = subst (λ (known : Option (List ℕ)). IsBeginning start known whole_text) (sym (T.sound e rows r)) (behind old.begun)

    -- where the first line is lacking, it is the whole text, and the sink took nothing yet
    module _ (lacks : lacks_head old ≡ true) where
      nothing-taken : old.taken ≡ start
      nothing-taken =
          T.sound (headless old lacks).0 rows r
          ∙ (ap (λ b. append_known start (text_before plan b old.end rows)) (headless old lacks).1 ∙ known-none start)

      line-is-all : trace_text old.plan [] ≡ whole_text
      line-is-all =
          ap (λ (p : Plan). trace_text p []) T.plan_is
          ∙ ap (trace_text plan) (sym (no-rows plan rows (H rows r) (sym (ap process_count T.plan_is) ∙ (headless old lacks).2)))

    module _ {X : Type 0} (taken : Option (List ℕ)) (failed : ℕ) where
      finish-whole : (res : Result X TraceFault) → Finishes old res taken failed → OnOk res (taken ≡ append_known start whole_text)
      finish-whole (Err fault) F = tt
      finish-whole (Ok x) F = go (lacks_head old) refl
        where
          go : (b : Bool) → lacks_head old ≡ b → taken ≡ append_known start whole_text
          go true lacks = F.written lacks ∙ (ap (λ (known : Option (List ℕ)). append_known known (trace_text old.plan [])) (nothing-taken lacks) ∙ ap (append_known start) (line-is-all lacks))
          go false headed = F.same headed ∙ all-taken (none-of (end_fault old) (λ fault e. let f = F.refused fault e in absurd (cc))) headed

      finish-beginning : (res : Result X TraceFault) → Finishes old res taken failed → IsBeginning start taken whole_text
      finish-beginning res F = go (lacks_head old) refl
        where
          as-before : taken ≡ old.taken → IsBeginning start taken whole_text
          as-before e = subst (λ (known : Option (List ℕ)). IsBeginning start known whole_text) (sym e) some-taken

          lacking : (q : Result X TraceFault) → Finishes old q taken failed → lacks_head old ≡ true → IsBeginning start taken whole_text
          lacking (Ok x) G lacks =
              subst (λ (known : Option (List ℕ)). IsBeginning start known whole_text) (sym (finish-whole (Ok x) G)) (begins-whole start whole_text)
          lacking (Err fault) G lacks = told-why (G.out lacks).0 (G.out lacks).1
            where
              told-why : (why : OutFault) → fault ≡ Out why → IsBeginning start taken whole_text
              told-why Device e =
                  subst (λ (known : Option (List ℕ)). IsBeginning known taken whole_text) (nothing-taken lacks)
                  (subst (IsBeginning old.taken taken) (line-is-all lacks) (G.device lacks e))
              told-why OutOfMemory e = as-before (G.kept (λ d. let f = sym e ∙ d in cc))
              told-why Layout e = as-before (G.kept (λ d. let f = sym e ∙ d in cc))

          go : (b : Bool) → lacks_head old ≡ b → IsBeginning start taken whole_text
          go true lacks = lacking res F lacks
          go false headed = as-before (F.same headed)

  module _ {X : Type 0} (taken : Option (List ℕ)) (failed : ℕ) where
    finish-well : (res : Result X TraceFault) → Finishes old res taken failed → OnOk res (failed ≡ failures)
    finish-well (Err fault) F = tt
    finish-well (Ok x) F = F.went_well ∙ unfailed (failed-before old taken failed (Ok x) F (λ e. cc))

    finish-kept : (res : Result X TraceFault) → Finishes old res taken failed → IfErr res (λ fault. fault ≢ Out Device → failed ≡ failures)
    finish-kept (Ok x) F = tt
    finish-kept (Err fault) F = λ n. F.kept_failures n ∙ unfailed (failed-before old taken failed (Err fault) F (λ e. n (same-fault {X = X} fault (Out Device) e)))

    finish-device : (res : Result X TraceFault) → Finishes old res taken failed → IfErr res (λ fault. fault ≡ Out Device → failed ≡ failures + 1)
    finish-device (Ok x) F = tt
    finish-device (Err fault) F = λ e. go (lacks_head old) old.broken refl refl e
      where
        go : (b c : Bool) → lacks_head old ≡ b → old.broken ≡ c → fault ≡ Out Device → failed ≡ failures + 1
        go true c lacks broken e = F.one_failed lacks e ∙ ap (λ n. n + 1) (unfailed (headless old lacks).0)
        go false true headed broken e = F.no_failure headed ∙ (T.failures_are ∙ ap (λ b. cond b (failures + 1) failures) broken)
        go false false headed broken e = absurd (told-other old broken (told old taken failed fault F headed ∙ ap Some e))

-- the same of a trace of which no more is kept than that there are such facts
module _ (plan : Plan) (start : Option (List ℕ)) (failures : ℕ) (splits : Splits) (old : WrittenTrace)
    (lawful : ∥ HasLawfulRows plan ∥₁) (T : ∥ IsTraceOfRun plan start failures old ∥₁)
    {X : Type 0} (res : Result X TraceFault) (taken : Option (List ℕ)) (failed : ℕ) (F : Finishes old res taken failed) where
  pub finished-whole : (rows : List Row) → AreRowsOf plan rows → OnOk res (taken ≡ append_known start (trace_text plan rows))
  finished-whole rows r = from-both lawful T (hlevel props) (λ h t. finish-whole plan start failures h splits old t rows r taken failed res F)

  pub finished-beginning : (rows : List Row) → AreRowsOf plan rows → IsBeginning start taken (trace_text plan rows)
  finished-beginning rows r =
      a-beginning start taken (trace_text plan rows) (∥∥₁_map₂ lawful T (λ h t. finish-beginning plan start failures h splits old t rows r taken failed res F))

  pub finished-well : OnOk res (failed ≡ failures)
  finished-well = from-both lawful T (hlevel props) (λ h t. finish-well plan start failures h splits old t taken failed res F)

  pub finished-device : IfErr res (λ fault. fault ≡ Out Device → failed ≡ failures + 1)
  finished-device = from-both lawful T (hlevel props) (λ h t. finish-device plan start failures h splits old t taken failed res F)

  pub finished-kept : IfErr res (λ fault. fault ≢ Out Device → failed ≡ failures)
  finished-kept = from-both lawful T (hlevel props) (λ h t. finish-kept plan start failures h splits old t taken failed res F)
