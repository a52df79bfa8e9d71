-- What the program prints of an accepted network.
use Rattle.std.specs.Prelude.{ℕ, List, ◌++◌, length, codes, decimal}
use Rattle.network.specs.Words.{Plan, process_count}
use Rattle.traffic.specs.Offers.{offers_of}

-- the line that tells how many processes, virtual links and offers there are
abbrev pub counts_text : ℕ → ℕ → ℕ → List ℕ
counts_text processes vls offers =
    codes "ok: " ++ (decimal processes ++ (codes " processes, " ++ (decimal vls ++ (codes " virtual links, " ++ (decimal offers ++ codes " offers\n")))))

-- that line of a network
abbrev pub check_text : Plan → List ℕ
check_text plan = counts_text (process_count plan) (length plan.vls) (length (offers_of plan))
