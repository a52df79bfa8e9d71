-- How long a frame takes on the wire, in ns. Preamble, start delimiter and interframe gap are added to its size.
use Rattle.std.specs.Prelude.{ℕ, ◌+◌, ◌*◌}

-- from the start of a frame until its last bit has left: 8 bytes of preamble and start delimiter come before it
abbrev pub last_bit_after : ℕ → ℕ → ℕ
last_bit_after size byte_ns = (size + 8) * byte_ns

-- from the start of a frame until the next one may start: 12 bytes of interframe gap come behind it
abbrev pub busy_for : ℕ → ℕ → ℕ
busy_for size byte_ns = (size + 20) * byte_ns
