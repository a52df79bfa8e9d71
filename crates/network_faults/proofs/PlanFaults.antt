-- The faults of rows are unknown keys and names, and then those of the rows with numbers in place of names.
use Rattle.std.proofs.Common.{◌≡◌, ◌∙◌, List, ◌++◌, map, ap, append_assoc}
use Rattle.network_rows.specs.declared.fault.DescFault.{DescFault}
use Rattle.network_rows.specs.declared.rows.Rows.{Rows}
use Rattle.network.specs.Words.{NodePlan, Plan, node_plan, double_names, faults_of, not_links, not_trees, plan_of, too_many}
use Rattle.network.specs.Faults.{unknown_names}
use Rattle.network_faults.specs.RowLists.{RowLists, row_lists_in}

-- the plan of these nodes and rows (its end and its seed do not matter to a fault)
abbrev pub plan_over : List NodePlan → RowLists → Plan
plan_over nodes lists = record { until = 0; seed = 0; nodes = nodes; links = lists.links; outages = lists.outages; vls = lists.vls; streams = lists.streams }

-- the faults of a plan
abbrev pub faults_in : Plan → List DescFault
faults_in plan = double_names plan ++ not_links plan ++ not_trees plan ++ too_many plan

pub faults-split : (rows : Rows) → faults_of rows ≡ unknown_names rows ++ faults_in (plan_over (map node_plan rows.nodes) (row_lists_in rows))
faults-split rows =
    let plan = plan_of rows in
    let unknown = unknown_names rows in
    ap (λ (fs : List DescFault). fs ++ not_trees plan ++ too_many plan) (append_assoc unknown (double_names plan) (not_links plan))
    ∙ ap (λ (fs : List DescFault). fs ++ too_many plan) (append_assoc unknown (double_names plan ++ not_links plan) (not_trees plan))
    ∙ append_assoc unknown (double_names plan ++ not_links plan ++ not_trees plan) (too_many plan)
