use Rattle.std.proofs.Common.{◌<◌, length, ◌∙◌, arith}
use Rattle.acl_naming.proofs.CheckLaws.{undefined_here, undefined_behind}
use Rattle.acl_naming.proofs.checking.first_undefined.Goals as goal

pub returns-in-Some : goal.returns-in-Some
returns-in-Some c =
    let base = c.args.linked.now in
    let within : c.loop-i.i < length base = omega (arith, c.len-i-end.ensures) in
    undefined_here base c.loop-i.i c.in-Some.reference.now within c.in-Some.ensures ∙ c.loop-i.invariant

pub loop-i-preserved : goal.loop-i-preserved
loop-i-preserved c =
    let base = c.args.linked.now in
    let within : c.loop-i.i < length base = omega (arith, c.len-i-end.ensures) in
    undefined_behind base c.loop-i.i within c.in_default.ensures ∙ c.loop-i.invariant
