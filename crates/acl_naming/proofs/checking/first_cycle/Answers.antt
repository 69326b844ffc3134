use Rattle.std.proofs.Common.{◌<◌, length, arith, below_more}
use Rattle.acl_naming.proofs.CheckLaws.{no_cycle_here}
use Rattle.acl_naming.proofs.WalkLaws.{back_apart}
use Rattle.acl_naming.proofs.checking.first_cycle.Goals as goal

pub returns-then-lead_back : goal.returns-then-lead_back
returns-then-lead_back c = back_apart c.args.table.now (c.lead_back.ensures c.if-lead_back.true)

pub loop-i-preserved : goal.loop-i-preserved
loop-i-preserved c =
    let base = c.args.table.now in
    let i = c.loop-i.i in
    let within : i < length base = omega (arith, c.len-i-end.ensures) in
    below_more _ _ c.loop-i.invariant (no_cycle_here base i within c.loop-i.invariant (c.in_ok-reaches_itself.ensures.missed c.if-branch.false))

pub returns : goal.returns
returns c = λ k l. c.loop-i.invariant k (omega (arith, c.len-i-end.ensures))
