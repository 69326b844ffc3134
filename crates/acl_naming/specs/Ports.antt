-- The ports of a service item.
use Rattle.std.specs.Prelude.{ℕ, Bool, ◌&&◌, nat_le}

-- The ports of a protocol from one to another, both included.
pub record Ports : Type 0 where
  pub proto : ℕ
  pub low : ℕ
  pub high : ℕ

abbrev pub has_port : Ports → ℕ → Bool
has_port p n = nat_le p.low n && nat_le n p.high

-- The highest port (RFC 9293 section 3.1).
abbrev pub top_port : ℕ
top_port = 65535
