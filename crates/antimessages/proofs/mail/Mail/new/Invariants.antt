use Rattle.std.proofs.Common.{◌≡◌, ◌≤◌, ℕ, [], map, vec_len, vec_capacity}
use Rattle.antimessages.specs.Mailing.{store_of, letters_for}
use Rattle.antimessages.proofs.mail.Mail.new.Given as goal

abbrev pub invariant-loop-process : goal.invariant-loop-process
invariant-loop-process l = record {
  made : vec_len l.boxes ≡ l.process;
  room : l.processes ≤ vec_capacity l.boxes;
  none : (p : ℕ) → letters_for p (map store_of l.boxes.items) ≡ [];
}
