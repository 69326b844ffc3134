use Rattle.std.proofs.Common.{◌≡◌, ◌^◌, ◌<◌, drop}
use Rattle.acl_text.specs.Ipv6.{hex_worth}
use Rattle.acl_text.proofs.ipv6.read_hex.Given as goal

abbrev pub invariant-loop-c : goal.invariant-loop-c
invariant-loop-c l = (hex_worth l.value (drop l.c-index l.text) ≡ hex_worth 0 l.text) × (l.value < 16 ^ l.c-index)
