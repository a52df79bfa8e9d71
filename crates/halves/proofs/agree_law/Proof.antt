-- Some fraction of the one half and some fraction of the other are looked at together. Assumes `Logic`.
use mathlib.Core.Path.{◌≡◌, refl, sym, subst}
use mathlib.Core.List.{List, [], ◌∷◌}
use Prim.Native.Nat.{ℕ}
use seplogic.Ra.Ura.{Ura}
use mir.Syntax.{Fn, a_type}
use mir.Val.{Val, vunit, vptr}
use mir.MapTy.{inst_fn}
use base.Logic.{SProp, ent, emp, via, fst∗, snd∗}
use base.Fml.{Fml, ftrue, flft, fshr_bor}
use prog.Wp.{WpFn}
use prog.Model.{Model}
use types.Logic.{Logic, sem}
use contract.Monad.{fact, fact_i, fact_use}
use contract.Running.{Running, MachineTables, tables, tables_of}
use sound.WpLaws.{WpFn-mono}
use types.Kit.{‵, raw, ◌⊛◌, given, ◌$◌, ◌∵◌, !, qed, move, keep, drop, split, join, learn, fsplit, fjoin, done, suffices, frame, use0, use2, rewrite, feq_i}
use types.Tokens.{shr_bor-open, obor_close}
use types.Run.{unit_lit, of_opd, returns, enter}
use types.ByLocal.{alloc_all, pass_all, free_all, look_at, sets}
use denote.Exit.{yes}
use denote.RattleType.{RattleType, owns}
use denote.Laws.{Are, Ises, owns_show, showss}
use denote.Signature.{types_at, plain}
use denote.Builtin.{RefOf}
use denote.Steps.{nothing}
use denote.Opens.{unhide}
use denote.Param.{param, layouts}
use denote.Triple.Clauses.{Clauses, closing}
use denote.Triple.Entry.{on_entry, alive}
use denote.Triple.Spec.{Meets, triple_of}
use denote.Triple.Table.{entered}
use denote.Triple.Walked.{Stays, stay_dropped, walk_of, ends_at, Goes-dropped, walk_Meets}
use contract.CodeStep
use Rattle.halves.specs.contracts.LeftHalf as left_half
use Rattle.halves.specs.contracts.RightHalf as right_half
use Rattle.halves.specs.Ownership.{fraction}
use Rattle.halves.proofs.Fractions as fractions
use Rattle.halves.proofs.Walks.{hears, hears_last}
use Rattle.halves.specs.contracts.agree_law.{ended, clauses}
use Rattle.halves.specs.contracts.agree_law.Key.{name as #self}
use Rattle.halves.proofs.agree_law.Statement as stated
use Rattle.halves.proofs.agree_law.Code as code

module _ (Y : RattleType) {M : Type 1} {𝓤 : Ura M} (𝓛 : Logic 𝓤) (𝓜 : Model 𝓤 𝓛.H) (𝓡 : Running 𝓤 𝓛.H 𝓜) where
  open 𝓛 use {H}

  abbrev function : Fn
  function = inst_fn (layouts (a_type ∷ []) (Y, tt)) code.function

  abbrev T : RattleType
  T = param 0 Y

  abbrev A : RattleType
  A = left_half.the_row T

  abbrev B : RattleType
  B = right_half.the_row T

  abbrev stayed : Stays (ended Y).signature.params (ended Y).kept
  stayed = (stay_dropped (RefOf (0 ∷ []) tt (plain (λ _. A)) (λ _. tt)) yes, (stay_dropped (RefOf (1 ∷ []) tt (plain (λ _. B)) (λ _. tt)) yes, tt))

  abbrev 𝓣 : MachineTables 𝓤 H 𝓜
  𝓣 = tables 𝓤 H 𝓜 𝓡 𝓡.env

  abbrev held : Clauses 𝓤 (ended Y)
  held = clauses Y 𝓛 𝓜.mem 𝓡.returns

  module _ (z : (walk_of 𝓛 (ended Y) stayed held).Ghost) where
    abbrev Vss : Type 0
    Vss = List Val × (List Val × Unit {0})

    abbrev At : Vss → (walk_of 𝓛 (ended Y) stayed held).Ghost
    At vss = ((z.0.0, z.0.1, z.0.2, z.0.3, vss), z.1)

    abbrev Goes : Vss → Type 1
    Goes vss = ent 𝓤 ((walk_of 𝓛 (ended Y) stayed held).pre (At vss)) (WpFn 𝓤 H 𝓣.C 𝓣.Λ function ((walk_of 𝓛 (ended Y) stayed held).args (At vss)) ((walk_of 𝓛 (ended Y) stayed held).post (At vss)))

    abbrev a : A.Denot
    a = z.0.3.0.now

    abbrev b : B.Denot
    b = z.0.3.1.0.now

    abbrev u : Val
    u = vptr z.0.3.0.ref_ptr.0 z.0.3.0.ref_ptr.1

    abbrev v : Val
    v = vptr z.0.3.1.0.ref_ptr.0 z.0.3.1.0.ref_ptr.1

    abbrev passed : Vss
    passed = (u ∷ [], (v ∷ [], tt))

    abbrev args : Fml
    args = owns (types_at (ended Y).signature.params z.0.0) z.0.3 passed

    abbrev asked : SProp 𝓤
    asked = (held z.0.0 z.0.3).requires z.1

    walks : Goes passed
    walks =
        let γ : ℕ = a.name in let Q = ‵ (flft z.0.0.0 z.0.1.0) ⊛ ‵ (flft z.0.0.1.0 z.0.1.1.0) ⊛ ‵ (flft z.0.0.1.1.0 z.0.1.1.1.0) ⊛ ‵ ftrue in
        qed 𝓛 ((Q ⊛ ‵ args) ∷ raw asked ∷ []) ∵ move ! (1 ∷ []) $ hears ! (λ _. hears_last ! (λ named. split ! $ move ! (1 ∷ []) $ fsplit ! $ fsplit ! $ drop ! $ unhide ! $ fsplit ! $ drop ! $
        move ! (1 ∷ []) $ fsplit ! $ fsplit ! $ drop ! $ unhide ! $ fsplit ! $ drop ! $ keep ! (3 ∷ 2 ∷ 0 ∷ []) $ split ! $ move ! (1 ∷ []) $ split ! $ move ! (3 ∷ 2 ∷ 4 ∷ 0 ∷ 1 ∷ []) $
        -- [what is shared of the book; a token; what is shared of the share; a token; the others]
        enter ! 𝓣.C 𝓣.Λ function (u ∷ v ∷ []) _ $ alloc_all ! (λ l. pass_all ! refl ((tt, tt), ((tt, tt), tt)) $
        shr_bor-open ! tt (fractions.fraction_halves 𝓛 T γ a.value) (λ q. move ! (2 ∷ 3 ∷ []) $ rewrite ! 0 (λ (c : ℕ). ‵ (fshr_bor z.0.0.1.0 (fraction T c b.value))) (sym named) refl $
        shr_bor-open ! tt (fractions.fraction_halves 𝓛 T γ b.value) (λ r. move ! (3 ∷ 1 ∷ []) $
        use2 𝓛 (given (a.value ≡ b.value) (‵ (fraction T γ a.value q) ⊛ ‵ (fraction T γ b.value r))) (fractions.fraction_agree 𝓛 T γ a.value b.value q r) $ learn ! (λ same. split ! $
        move ! (3 ∷ 0 ∷ []) $ obor_close ! tt $ drop ! $ move ! (2 ∷ 1 ∷ []) $ obor_close ! tt $ drop ! $ move ! (0 ∷ 2 ∷ []) $ join ! $ move ! (1 ∷ 0 ∷ []) $ join ! $
        use0 𝓛 (raw (fact 𝓤 (a.value ≡ b.value))) (fact_i 𝓤 (a.value ≡ b.value) (emp 𝓤) same) $ sets ! (of_opd ! (unit_lit !)) refl (tt, tt) $
        returns ! (look_at ! 0 refl) $ free_all ! refl $ suffices ! _ (ends_at 𝓛 (ended Y) stayed held (At passed) vunit tt (tt, (tt, tt)) (tt, (tt, tt))) $
        nothing ! $ nothing ! $ fjoin ! $ nothing ! $ fjoin ! $ feq_i ! (List Val) (vunit ∷ []) (vunit ∷ []) refl $ move ! (1 ∷ 0 ∷ []) $ join ! $ move ! (2 ∷ 0 ∷ []) $ join ! $ frame ! $ done !))))))

  meets : Meets 𝓛 (ended Y).signature (WpFn 𝓤 H 𝓣.C 𝓣.Λ function) (closing 𝓛 (ended Y) held)
  unfolding tables_of contract.CodeStep.c_Tables
  meets =
      walk_Meets 𝓛 (ended Y) stayed (Goes-dropped 𝓛 3 (RefOf (0 ∷ []) tt (plain (λ _. A)) (λ _. tt)) yes (λ κs x f. refl), (Goes-dropped 𝓛 3 (RefOf (1 ∷ []) tt (plain (λ _. B)) (λ _. tt)) yes (λ κs x f. refl), tt)) held
      (WpFn 𝓤 H 𝓣.C 𝓣.Λ function) (WpFn-mono 𝓤 H 𝓛.laws (tables_of 𝓤 H 𝓜 𝓣) function)
      (λ z. let a = z.0.3 in let vss = z.0.4 in let Rs : List RattleType = types_at (ended Y).signature.params z.0.0 in let On : SProp 𝓤 = on_entry 𝓛 (ended Y).signature z.0.0 z.0.1 a vss in
      fact_use 𝓤 (Are Rs (Ises Rs) a vss) (via 𝓤 (sem 𝓛 (owns Rs a vss)) (via 𝓤 On (fst∗ 𝓤 On (asked z)) (snd∗ 𝓤 (alive 𝓛 (ended Y).signature z.0.0 z.0.1) (sem 𝓛 (owns Rs a vss)))) (owns_show 𝓛 Rs (Ises Rs) (showss 𝓛 Rs) a vss)) (λ are.
      subst (Goes z) (λ i. (sym are.0.0 i, (sym are.1.0.0 i, tt))) (walks z)))

pub agree_law_spec : {M : Type 1} → stated.statement M
agree_law_spec 𝓤 𝓛 𝓜 𝓡 wired Y laws = let 𝓣' = tables 𝓤 𝓛.H 𝓜 𝓡 𝓡.env in
    entered 𝓤 𝓛.H (triple_of 𝓛 (ended Y).signature (closing 𝓛 (ended Y) (held Y 𝓛 𝓜 𝓡))) 𝓣'.C 𝓣'.Λ (#self (layouts (a_type ∷ []) (Y, tt))) (function Y 𝓛 𝓜 𝓡)
    (code.unfolded 𝓤 𝓛.H 𝓜 𝓡 wired (Y, tt)) (meets Y 𝓛 𝓜 𝓡)
