use Rattle.std.proofs.Common.{◌≤◌, ◌^◌, arith}
use Rattle.std.proofs.Math.Nat.{pow-le-pow_right}
use Rattle.acl_text.proofs.prefixes.bits_behind.Goals as goal

pub overflow_cast-result-2 : goal.overflow_cast-result-2
overflow_cast-result-2 c =
    let k = c.saturating_sub.result in
    let few : 2 ^ k ≤ 2 ^ 32 = pow-le-pow_right {n = 2} (omega arith) {i = k} {j = 32} (omega (arith, c.saturating_sub.ensures)) in
    omega (arith, few)
