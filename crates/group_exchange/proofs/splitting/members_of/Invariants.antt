use Rattle.std.proofs.Common.{◌≡◌, ℕ, ◌<◌, ◌≤◌, true, false, Some, None, length, slice_get, vec_len, vec_capacity}
use Rattle.group_exchange.specs.Views.{is_of}
use Rattle.group_exchange.proofs.splitting.members_of.Given as goal

abbrev pub invariant-loop-process : goal.invariant-loop-process
invariant-loop-process g l = record {
  count : vec_len l.members ≡ l.process;
  room : length l.owners ≤ vec_capacity l.members;
  slots : length l.slots.items ≡ length l.initial.slots.items;
  ours : (p : ℕ) → p < l.process → is_of l.owners l.group p ≡ true → slice_get l.members.items p ≡ slice_get l.initial.slots.items p;
  others : (p : ℕ) → p < l.process → is_of l.owners l.group p ≡ false → slice_get l.members.items p ≡ Some None;
  rest : (p : ℕ) → l.process ≤ p → slice_get l.slots.items p ≡ slice_get l.initial.slots.items p;
  left : (p : ℕ) → is_of l.owners l.group p ≡ false → slice_get l.slots.items p ≡ slice_get l.initial.slots.items p;
}
