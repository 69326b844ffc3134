-- Ports in one word: one port, or the lower and the higher end with a separator between.
use Rattle.std.specs.Prelude.{◌≡◌, ℕ, ◌<◌, ◌≤◌, ◌⊎◌, nat_le, if◌then◌else◌, List, ◌∷◌, ◌++◌, Option, None, Some}
use Rattle.std.specs.Option.{option_map_or}
use Rattle.acl_packet.specs.Decimals.{IsNumber, number_in}
use Rattle.acl_text.specs.Cuts.{cut_at}
use Rattle.acl_text.specs.OptionSteps.{◌>>=◌}

-- The word is that of the ports from one to another, both included. A port has 16 bits (RFC 9293 section 3.1).
pub record IsPortsWord (separator : ℕ) (word : List ℕ) (ports : ℕ × ℕ) : Type 0 where
  pub spelled : (IsNumber word ports.0 × (ports.0 ≡ ports.1))
      ⊎ ((low : List ℕ) × (high : List ℕ) × (word ≡ low ++ separator ∷ high)
      × IsNumber low ports.0 × IsNumber high ports.1)
  pub ordered : ports.0 ≤ ports.1
  pub fit : ports.1 < 65536

unfoldable pub port_pair_in : List ℕ → List ℕ → Option (ℕ × ℕ)
port_pair_in first second = do
  low ← number_in 65535 first
  high ← number_in 65535 second
  if nat_le low high then Some (low, high) else None

unfoldable pub port_in : List ℕ → Option (ℕ × ℕ)
port_in word = do
  n ← number_in 65535 word
  Some (n, n)

-- The ports of the word, if it is one of ports.
unfoldable pub ports_in : ℕ → List ℕ → Option (ℕ × ℕ)
ports_in separator word =
    option_map_or {U = Option (ℕ × ℕ)} (λ p. port_pair_in p.0 p.1) (cut_at separator word)
    (port_in word)
