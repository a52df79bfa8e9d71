-- The speed of a run by a clock and a count of events.
use Rattle.std.specs.Prelude.{ℕ, ◌/◌, ◌%◌, ◌++◌, List, [], codes, decimal, if◌then◌else◌, nat_le}

-- a count, in millions or thousands where it is great
abbrev pub count_text : ℕ → List ℕ
count_text count =
    if nat_le 1000000 count then decimal (count / 1000000) ++ codes "." ++ decimal (count / 100000 % 10) ++ codes " M"
    else (if nat_le 10000 count then decimal (count / 1000) ++ codes " k" else decimal count)

-- how many events a run handled, where they were counted
abbrev pub events_text : ℕ → List ℕ
events_text events = if nat_le 1 events then codes ", " ++ count_text events ++ codes " events" else []

-- that, and how long it took, of so many ms in seconds
abbrev pub end_text : ℕ → ℕ → List ℕ
end_text events ms = events_text events ++ codes " in " ++ decimal (ms / 1000) ++ codes "." ++ decimal (ms / 100 % 10) ++ codes " s"
