-- Whether ports are a range, test by test.
use Rattle.std.specs.Prelude.{ℕ, Bool, ◌&&◌, nat_le, nat_lt}

abbrev pub is_port_range : ℕ × ℕ → Bool
is_port_range ports = nat_le ports.0 ports.1 && nat_lt ports.1 65536
