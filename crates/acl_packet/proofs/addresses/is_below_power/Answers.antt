use Rattle.std.proofs.Common.{arith}
use Rattle.acl_packet.proofs.PrefixLaws.{small_power}
use Rattle.acl_packet.proofs.addresses.is_below_power.Goals as goal

pub pow-requires : goal.pow-requires
pow-requires c = small_power c.from.result (omega arith)
