use Rattle.std.proofs.Common.{List, length, ap, arith}
use Rattle.acl_packet.specs.declared.addresses.Prefix.{Prefix}
use Rattle.acl_sets.proofs.least.count_of.Goals as goal

pub returns : goal.returns
returns c = omega (arith, c.loop-prefix.invariant.fits, c.loop-prefix.invariant.counted, ap (λ (ps : List Prefix). length ps) c.in-None.ensures.steps.0)
