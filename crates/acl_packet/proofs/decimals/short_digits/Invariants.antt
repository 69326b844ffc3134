use Rattle.std.proofs.Common.{◌≡◌, ◌≤◌, drop}
use Rattle.acl_packet.specs.Decimals.{digits_in}
use Rattle.acl_packet.proofs.decimals.short_digits.Given as goal

abbrev pub invariant-loop-c : goal.invariant-loop-c
invariant-loop-c l = (digits_in l.max l.value (drop l.c-index l.word) ≡ digits_in l.max 0 l.word) × (l.value ≤ l.max)
