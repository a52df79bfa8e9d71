-- The floors of all processes, and the least moment of floors and mail.
use Rattle.std.specs.Prelude.{ℕ, ◌+◌, List, ◌++◌, flat_map}
use Rattle.virtual_time.specs.Law.{lowest, times_of}
use Rattle.antimessages.specs.Letters.{Store}
use Rattle.vlink.specs.Order.{message_order}
use Rattle.vlink.specs.Letters.{Letter}

-- the floor of each process, and the end time of the run, in ns
pub record Floors : Type 0 where
  pub floors : List ℕ
  pub until : ℕ

-- all letters in the mail, box by box
abbrev pub all_letters : List Store → List Letter
all_letters mail = flat_map (λ box. box.letters) mail

-- the least of all floors and of the times of all letters in the mail, or the moment after the end
abbrev pub horizon_over : Floors → List Store → ℕ
horizon_over f mail = lowest (f.until + 1) (f.floors ++ times_of message_order (all_letters mail))
