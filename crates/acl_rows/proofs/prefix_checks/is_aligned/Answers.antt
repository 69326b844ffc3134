use Rattle.std.proofs.Common.{arith}
use Rattle.acl_packet.proofs.PrefixLaws.{width-le, small_power}
use Rattle.acl_rows.proofs.prefix_checks.is_aligned.Goals as goal

pub pow-requires : goal.pow-requires
pow-requires c =
    let narrow = width-le c.args.prefix.now.family in
    small_power c.from.result (omega arith)
