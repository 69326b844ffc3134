use Rattle.std.proofs.Common.{◌==◌, drop, arith}
use Rattle.std.proofs.lemmas.List.{length-drop}
use Rattle.std.proofs.lemmas.List.Sums.{common_prefix_len-le}
use Rattle.acl_rows.proofs.comparing.same_front.Goals as goal

pub returns-clause-exact : goal.returns-clause-exact
returns-clause-exact c =
    let i = c.loop-i.i in
    let none = (common_prefix_len-le (λ a b. a == b) (drop i c.args.bytes.now) (drop i c.args.others.now)).1 in
    omega (arith, c.loop-i.invariant.0, none, length-drop i c.args.others.now, c.loop-i-test.false, c.loop-i.auto.i-end)
