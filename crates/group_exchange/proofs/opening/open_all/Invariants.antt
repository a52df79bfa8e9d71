use Rattle.std.proofs.Common.{◌≡◌, ℕ, ◌<◌, ◌≤◌, true, Some, All, map, drop, length, slice_get, vec_len, vec_capacity}
use Rattle.group_exchange.specs.Views.{GroupState, IsUnplaced, is_of}
use Rattle.group_exchange.specs.Opening.{HasOpened}
use Rattle.group_exchange.proofs.opening.open_all.Given as goal

abbrev pub invariant-loop-made : goal.invariant-loop-made
invariant-loop-made g l = record {
  count : vec_len l.groups ≡ l.made;
  all : l.count ≡ length g.J.GroupRun.names;
  room : l.count ≤ vec_capacity l.groups;
  slots : length l.slots.items ≡ g.J.GroupRun.setting.processes;
  there : (p : ℕ) → p < g.J.GroupRun.setting.processes → (h : ℕ) → is_of g.J.GroupRun.owners h p ≡ true → l.made ≤ h →
      slice_get l.slots.items p ≡ Some (Some (g.J.GroupRun.setting.opening p));
  rights : map (λ s. s.name) l.marks.items ≡ drop l.made g.J.GroupRun.names;
  left_names : map (λ b. b.name) l.lefts.items ≡ g.J.GroupRun.names;
  blanks : All IsUnplaced (map (λ b. b.value) l.lefts.items);
  each : (h : ℕ) → h < l.made → (k : GroupState g.row.R.Denot g.row.R-Record.Denot) × (slice_get l.groups.items h ≡ Some k) × HasOpened g.J.GroupRun.setting g.J.GroupRun.owners h k;
}
