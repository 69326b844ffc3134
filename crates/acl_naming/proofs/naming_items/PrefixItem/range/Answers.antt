use Rattle.std.proofs.Common.{◌+◌, ◌^◌, ◌-◌, ◌≤◌, ◌<◌, ap, arith}
use Rattle.acl_packet.specs.declared.addresses.Prefix.{Prefix}
use Rattle.acl_packet.specs.Addresses.{width_of, size_of}
use Rattle.acl_packet.proofs.PrefixLaws.{end_fits}
use Rattle.std.proofs.lemmas.Nat.{pow_pos}
use Rattle.acl_naming.proofs.naming_items.PrefixItem.range.Goals as goal

pub returns-clause-within : goal.returns-clause-within
returns-clause-within c =
    let p = c.self.inside.prefix in
    let fits : p.first + size_of p ≤ 2 ^ width_of p.family = end_fits p c.self.invariant in
    let same = ap (λ (q : Prefix). 2 ^ width_of q.family) c.self.view_is in
    let some : 0 < 2 ^ (width_of p.family - p.len) = pow_pos (width_of p.family - p.len) in
    (omega (arith, c.last_of.ensures, some), omega (arith, c.last_of.ensures, fits, same))
