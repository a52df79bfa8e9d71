use Rattle.std.proofs.Common.{◌≡◌, ℕ, ◌+◌, ◌≤◌, ◌++◌, take, drop, length, ◌≢◌, deque_len, deque_capacity}
use Rattle.antimessages.specs.Mailing.{letters_for}
use Rattle.process_queues.proofs.process.collect_letters.Given as goal

abbrev pub invariant-loop-taken : goal.invariant-loop-taken
invariant-loop-taken g l = record {
  tray_is : l.tray.items ≡ l.initial.tray.items ++ take l.taken (letters_for l.process l.initial.mail);
  left : letters_for l.process l.mail ≡ drop l.taken (letters_for l.process l.initial.mail);
  others : (q : ℕ) → q ≢ l.process → letters_for q l.mail ≡ letters_for q l.initial.mail;
  processes : length l.mail ≡ length l.initial.mail;
  room : deque_len l.tray + l.count ≤ deque_capacity l.tray + l.taken;
}
