-- Groups of ranges with a limit to their weight, as the ports of one multiport match of iptables
-- (iptables-extensions(8), "multiport": up to 15 ports, where a range counts as two).
use Rattle.std.specs.Prelude.{ℕ, suc, ◌+◌, ◌-◌, ◌≤◌, nat_le, if◌then◌else◌, List, [], ◌∷◌, length, take, drop}
use Rattle.acl_packet.specs.PortWeights.{port_weight}
use Rattle.acl_sets.specs.declared.sets.Range.{Range}

abbrev pub weight_of : Range → ℕ
weight_of r = port_weight r.low r.high

-- What the ranges of a list weigh together.
abbrev pub weight : List Range → ℕ
weight [] = 0
weight (r ∷ rs) = weight_of r + weight rs

-- The ranges from one position of a list up to, not with, another.
abbrev pub between : List Range → ℕ → ℕ → List Range
between rs from end = take (end - from) (drop from rs)

-- The greatest end of a group: the ranges up to it weigh at most so much, and those up to any later
-- position more.
pub record IsGroupEnd (rs : List Range) (from most end : ℕ) : Type 0 where
  pub behind : from ≤ end
  pub within : end ≤ length rs
  pub fits : weight (between rs from end) ≤ most
  pub greatest : (other : ℕ) → from ≤ other → other ≤ length rs
      → weight (between rs from other) ≤ most → other ≤ end

-- How many ranges at the front of a list weigh at most so much, as it can be computed.
abbrev pub group_length : ℕ → List Range → ℕ
group_length most [] = 0
group_length most (r ∷ rs) =
    if nat_le (weight_of r) most then suc (group_length (most - weight_of r) rs) else 0
