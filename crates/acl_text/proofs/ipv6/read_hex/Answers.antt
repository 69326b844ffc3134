use Rattle.std.proofs.Common.{arith}
use Rattle.acl_text.proofs.Bounds.{hex_bound}
use Rattle.acl_text.proofs.ipv6.read_hex.Goals as goal

pub overflow_mul-value : goal.overflow_mul-value
overflow_mul-value c = omega (arith, hex_bound c.loop-c.value c.loop-c.c-index c.loop-c.invariant.1 (omega arith))

pub overflow_add-value : goal.overflow_add-value
overflow_add-value c = omega (arith, hex_bound c.loop-c.value c.loop-c.c-index c.loop-c.invariant.1 (omega arith), c.in_ok-value.ensures.small)

pub returns-clause-small : goal.returns-clause-small
returns-clause-small c = hex_bound c.loop-c.value c.loop-c.c-index c.loop-c.invariant.1 (omega arith)
