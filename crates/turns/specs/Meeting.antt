-- When a group is due, and when it should meet the others, from how far it is, its least waiting letter, the last GVT, the moment before which events
-- are due, the window and the looks of its worker in vain.
use Rattle.std.specs.Prelude.{◌≡◌, ◌≢◌, ◌⊎◌, ℕ, ◌+◌, ◌<◌, ◌≤◌, true, min}
use Rattle.turns.specs.declared.report.Report.{Report}
use Rattle.turns.specs.declared.TheConstants.{BEHIND_NS, LEAD_NS, LOOKS_BEFORE_POST, MOST_UNPOSTED, MOST_WITH_LETTERS}

-- the moment of what does not exist: no message comes so late
abbrev pub never : ℕ
never = 18446744073709551615

-- the greatest count of looks
abbrev pub most_u32 : ℕ
most_u32 = 4294967295

-- it has letters for others that are not posted
abbrev pub HasLetters : Report → Type 0
HasLetters r = r.letters_ns ≢ never

-- its next event is beyond the window, or it has none
abbrev pub WaitsForGvt : Report → ℕ → Type 0
WaitsForGvt r window = min (r.seen_ns + window) never ≤ r.next_ns

-- its next event is before the limit, and within the window
abbrev pub IsDue : Report → ℕ → ℕ → Type 0
IsDue r limit window = (r.next_ns < limit) × (r.next_ns < min (r.seen_ns + window) never)

-- a letter waits that comes no later than its next event, and is due
abbrev pub IsCalled : Report → ℕ → ℕ → Type 0
IsCalled r letter limit = (letter ≤ r.next_ns) × (letter < limit)

-- to meet the others can help where it waits for GVT: it has something to post, or has not seen the last GVT
abbrev pub CanRaise : Report → ℕ → Type 0
CanRaise r gvt = (r.has_block ≡ true) ⊎ (r.seen_ns < gvt)

-- GVT is much further on than what it saw; or what it did has not been posted for a while
abbrev pub IsBehind : Report → ℕ → ℕ → ℕ → Type 0
IsBehind r gvt window looks = (min (r.seen_ns + BEHIND_NS) never ≤ gvt) ⊎ (((LOOKS_BEFORE_POST ≤ looks) ⊎ (window < LEAD_NS)) × (r.has_block ≡ true))

-- it should meet the others before it goes on: it has not posted for long; or it is called; or its next event is before the limit and waits for GVT;
-- or its next event is later, and it is behind
abbrev pub IsToMeet : Report → ℕ → ℕ → ℕ → ℕ → ℕ → Type 0
IsToMeet r letter gvt limit window looks =
    (MOST_UNPOSTED ≤ r.unposted)
    ⊎ IsCalled r letter limit
    ⊎ ((r.next_ns < limit) × WaitsForGvt r window × CanRaise r gvt)
    ⊎ ((limit ≤ r.next_ns) × IsBehind r gvt window looks)

-- it should meet the others once it has handled so many messages in its turn: they wait for its letters, or a letter waits for it
abbrev pub EndsTurn : Report → ℕ → ℕ → Type 0
EndsTurn r letter handled = ((MOST_WITH_LETTERS ≤ handled) × HasLetters r) ⊎ (letter ≤ r.next_ns)
