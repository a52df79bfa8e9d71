use Rattle.std.proofs.Common.{◌≡◌, ◌∙◌, None, Some, codes, sym, ap}
use Rattle.std.proofs.lemmas.Option.{none-some, same_Some}
use Rattle.std.proofs.lemmas.Slice.Eq.{bytes_eq-Decides}
use Rattle.clap.specs.Words.{found_of, first_of, rows_of}
use Rattle.clap.proofs.WalkLemmas.{first_value-rows}
use Rattle.command_line.proofs.values.is_named.Goals as goal

pub returns-in-Some : goal.returns-in-Some
returns-in-Some c =
    let first : first_of c.args.id.now (rows_of (found_of c.args.values.now)) ≡ Some c.in-Some.text.now =
    sym (c.in-Some.ensures ∙ first_value-rows (found_of c.args.values.now) c.args.id.now) in
    let same = bytes_eq-Decides c.in-Some.text.now (codes "true") in (
      λ is. first ∙ ap Some (same.0 (sym c.eq.ensures ∙ is)),
      λ is. c.eq.ensures ∙ same.1 (same_Some _ _ (sym first ∙ is)),
    )

pub returns-in-None : goal.returns-in-None
returns-in-None c =
    let none : first_of c.args.id.now (rows_of (found_of c.args.values.now)) ≡ None =
    sym (c.in-None.ensures ∙ first_value-rows (found_of c.args.values.now) c.args.id.now) in
    ((λ is. cc), (λ is. absurd (none-some _ (sym none ∙ is))))
