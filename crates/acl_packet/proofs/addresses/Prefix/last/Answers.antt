use Rattle.std.proofs.Common.{◌-◌, ◌^◌, arith, ap}
use Rattle.acl_packet.proofs.PrefixLaws.{end_fits, widest}
use Rattle.acl_packet.proofs.addresses.Prefix.last.Goals as goal

pub overflow_add-result : goal.overflow_add-result
overflow_add-result c =
    let p = c.args.self.now in
    let wide = ap (λ w. 2 ^ (w - p.len)) c.width.ensures in
    omega (arith, end_fits p c.requires, widest p.family, wide)
