use Rattle.std.proofs.Common.{List, Some, ℕ, true, inr, refl, subst, string_bytes}
use Rattle.trace_tables.specs.Text.{tables_text}
use Rattle.commands.specs.Files.{LacksOutput, ShowsBoth}
use Rattle.commands.specs.Streams.{Says, Shows}
use Rattle.commands.proofs.Outcomes.{err_then, on_three}
use Rattle.commands.proofs.replaying.replay.Goals as goal

pub returns-clause-done : goal.returns-clause-done
returns-clause-done g c =
    let outside = g.H.Host.outside in
    let before = c.args.host.now in
    let begun = c.conclusion_in.new.host in
    let after = c.show_conclusion-shown.new.host in
    let conclusion = c.in_ok-conclusion.conclusion in
    let told = c.in_ok-conclusion.ensures.told in
    let same = c.in_ok-conclusion.ensures.host in
    let tables = tables_text c.args.network conclusion.tables in
    let line = string_bytes conclusion.line in
    on_three c.show_conclusion-shown.result c.show_conclusion-shown.ensures.left c.show_conclusion-shown.ensures.tables c.show_conclusion-shown.ensures.line (λ left shown spoken. (
      tables,
      line,
      (told.0, conclusion, subst (λ (path : List ℕ). outside.gives before path (Some told.0)) c.as_str.ensures.value told.1, told.2, refl, refl),
      subst (λ host. Shows outside host after tables) same
          (subst (λ plan. Shows outside begun after (tables_text plan conclusion.tables)) c.in_ok-conclusion.ensures.network shown),
      subst (λ host. Says outside host after line) same spoken,
      subst (λ host. ShowsBoth outside host after) same left,
    ))

pub returns-clause-fault : goal.returns-clause-fault
returns-clause-fault g c =
    let outside = g.H.Host.outside in
    let before = c.args.host.now in
    let conclusion = c.in_ok-conclusion.conclusion in
    let told = c.in_ok-conclusion.ensures.told in
    err_then c.show_conclusion-shown.result c.show_conclusion-shown.ensures.fault (λ fault is. inr (
      tables_text c.args.network conclusion.tables,
      string_bytes conclusion.line,
      (told.0, conclusion, subst (λ (path : List ℕ). outside.gives before path (Some told.0)) c.as_str.ensures.value told.1, told.2, refl, refl),
      subst (λ host. LacksOutput outside true host c.show_conclusion-shown.new.host fault) c.in_ok-conclusion.ensures.host is,
    ))
