use Rattle.std.proofs.Common.{◌+◌, ◌-◌, drop, ap, arith}
use Rattle.std.proofs.lemmas.List.{drop_all}
use Rattle.acl_sets.specs.Groups.{group_length}
use Rattle.acl_sets.proofs.GroupLaws.{heavy, light}
use Rattle.acl_sets.proofs.groups.end_from.Goals as goal

pub returns-then-weight-left : goal.returns-then-weight-left
returns-then-weight-left c =
    let none = heavy c.args.ranges.now c.loop-end.left c.loop-end.end c.at.result
    (omega (arith, c.loop-end-test.true, c.len.ensures)) c.at.ensures
    (omega (arith, c.if-weight-left.true, c.weight_of-weight.ensures)) in
    omega (arith, none, c.loop-end.invariant)

pub loop-end-preserved : goal.loop-end-preserved
loop-end-preserved c =
    let one = light c.args.ranges.now c.loop-end.left c.loop-end.end c.at.result
    (omega (arith, c.loop-end-test.true, c.len.ensures)) c.at.ensures
    (omega (arith, c.if-weight-left.false, c.weight_of-weight.ensures)) in
    let left = ap (λ w. group_length (c.loop-end.left - w) (drop (c.loop-end.end + 1) c.args.ranges.now))
    c.weight_of-weight.ensures in
    omega (arith, one, left, c.loop-end.invariant)

pub returns : goal.returns
returns c =
    let none = ap (group_length c.loop-end.left)
    (drop_all c.loop-end.end c.args.ranges.now (omega (arith, c.loop-end-test.false, c.len.ensures))) in
    omega (arith, none, c.loop-end.invariant)
