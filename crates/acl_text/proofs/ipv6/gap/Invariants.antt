use Rattle.std.proofs.Common.{◌≡◌, ◌++◌, option_map, take, drop}
use Rattle.acl_text.specs.Ipv6.{gap_at}
use Rattle.acl_text.proofs.ipv6.gap.Given as goal

abbrev pub invariant-loop-i : goal.invariant-loop-i
invariant-loop-i l = option_map (λ p. (take l.i l.text ++ p.0, p.1)) (gap_at (drop l.i l.text)) ≡ gap_at l.text
