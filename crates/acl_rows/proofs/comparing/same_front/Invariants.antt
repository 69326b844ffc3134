use Rattle.std.proofs.Common.{◌≡◌, ◌+◌, ◌≤◌, ◌==◌, length, drop}
use Rattle.std.specs.List.{common_prefix_len}
use Rattle.acl_rows.proofs.comparing.same_front.Given as goal

abbrev pub invariant-loop-i : goal.invariant-loop-i
invariant-loop-i l = (l.i + common_prefix_len (λ a b. a == b) (drop l.i l.bytes) (drop l.i l.others) ≡ common_prefix_len (λ a b. a == b) l.bytes l.others)
    × (l.i ≤ length l.bytes)
