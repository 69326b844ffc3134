-- Ranges of ports, and the word for one.
use Rattle.std.specs.Prelude.{ℕ, ◌<◌, ◌≤◌, ◌==◌, if◌then◌else◌, List, ◌∷◌, ◌++◌}
use Rattle.std.specs.Fmt.{decimal}

-- A range of ports, from the low one to the high one.
abbrev pub IsPortRange : ℕ × ℕ → Type 0
IsPortRange ports = (ports.0 ≤ ports.1) × (ports.1 < 65536)

-- One port, or the low and the high one with a separator between.
unfoldable pub range_text : ℕ → ℕ × ℕ → List ℕ
range_text separator ports =
    if ports.0 == ports.1 then decimal ports.0
    else decimal ports.0 ++ separator ∷ decimal ports.1
