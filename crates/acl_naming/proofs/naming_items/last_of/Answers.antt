use Rattle.std.proofs.Common.{◌≡◌, ℕ, ◌+◌, ◌-◌, ◌^◌, ap, sym, arith}
use Rattle.acl_packet.specs.Addresses.{width_of}
use Rattle.acl_naming.proofs.naming_items.last_of.Goals as goal

pub returns-then-prefix-width : goal.returns-then-prefix-width
returns-then-prefix-width c =
    let p = c.args.prefix.now in
    let none : width_of p.family - p.len ≡ 0 = omega (arith, c.width.ensures, c.if-prefix-width.true) in
    ap (λ (n : ℕ). p.first + 2 ^ n) (sym none)
