use Rattle.std.proofs.Common.{◌≡◌, ◌++◌, option_map, take, drop}
use Rattle.acl_text.specs.Cuts.{cut_at}
use Rattle.acl_text.proofs.cuts.split_at_byte.Given as goal

abbrev pub invariant-loop-i : goal.invariant-loop-i
invariant-loop-i l = option_map (λ p. (take l.i l.bytes ++ p.0, p.1)) (cut_at l.byte (drop l.i l.bytes)) ≡ cut_at l.byte l.bytes
