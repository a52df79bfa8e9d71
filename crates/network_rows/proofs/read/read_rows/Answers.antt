use Rattle.std.proofs.Common.{◌≡◌, Some, List, ℕ, Result, Ok, Err, OnOk, IfOk, [], ◌∷◌, sym, ap, subst}
use Rattle.std.specs.Option.{option_map_or}
use Rattle.std.proofs.lemmas.Result.{IfOk-weaker, IfErr-weaker}
use Rattle.toml.specs.Data.{Members}
use Rattle.toml.specs.Parse.{parse_document}
use Rattle.toml.specs.View.{table_view}
use Rattle.network_rows.specs.declared.fault.DescFault.{DescFault}
use Rattle.network_rows.specs.declared.fault.DescFault.TheVariants.{Syntax}
use Rattle.network_rows.specs.declared.rows.Rows.{Rows}
use Rattle.network_rows.specs.Faults.{faults_of_document, IsFirstFault}
use Rattle.network_rows.specs.Rows.{Means, MeansRows}
use Rattle.network_rows.proofs.Limits.{rows_within}
use Rattle.network_rows.proofs.OneMeaning.{one_meaning}
use Rattle.network_rows.proofs.read.read_rows.Goals as goal

-- the rows that a document without a fault means are those of its text
of_text : (text : List ℕ) (document : Members) (r : Result Rows DescFault) → parse_document text ≡ Some document →
    OnOk r (faults_of_document document ≡ []) → IfOk r (MeansRows document) → IfOk r (Means text)
of_text text document (Ok rows) parsed sound are = record { document = document; parsed = parsed; sound = sound; rows_are = are }
of_text text document (Err fault) parsed sound are = tt

pub returns-in-Ok-clause-rows : goal.returns-in-Ok-clause-rows
returns-in-Ok-clause-rows c =
    of_text c.args.text.now (table_view c.in-Ok.document) c.rows_of.result c.in-Ok.ensures.document c.rows_of.ensures.sound c.rows_of.ensures.rows

pub returns-in-Ok-clause-only : goal.returns-in-Ok-clause-only
returns-in-Ok-clause-only c =
    IfOk-weaker c.rows_of.result (Means c.args.text.now) _ (λ rows mine other means. one_meaning c.args.text.now other rows means mine) (returns-in-Ok-clause-rows c)

pub returns-in-Ok-clause-within : goal.returns-in-Ok-clause-within
returns-in-Ok-clause-within c =
    IfOk-weaker c.rows_of.result (MeansRows (table_view c.in-Ok.document)) _ (λ rows. rows_within (table_view c.in-Ok.document) rows) c.rows_of.ensures.rows

pub returns-in-Ok-clause-fault : goal.returns-in-Ok-clause-fault
returns-in-Ok-clause-fault c =
    IfErr-weaker c.rows_of.result (IsFirstFault (faults_of_document (table_view c.in-Ok.document))) _
    (λ fault. subst (λ faults. IsFirstFault faults fault) (ap (λ parsed. option_map_or faults_of_document parsed (Syntax ∷ [])) (sym c.in-Ok.ensures.document)))
    c.rows_of.ensures.fault
