-- What ports weigh in one multiport match of iptables (iptables-extensions(8), "multiport": up to 15 ports, where a range
-- counts as two).
use Rattle.std.specs.Prelude.{ℕ, ◌==◌, if◌then◌else◌}

-- A single port weighs 1, a longer range 2.
abbrev pub port_weight : ℕ → ℕ → ℕ
port_weight low high = if low == high then 1 else 2
