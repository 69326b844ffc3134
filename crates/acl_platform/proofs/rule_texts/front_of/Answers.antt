use Rattle.std.proofs.Common.{arith}
use Rattle.std.proofs.lemmas.Grind.{common_steps}
use Rattle.acl_platform.proofs.TextFronts.{more_rows}
use Rattle.acl_platform.proofs.rule_texts.front_of.Goals as goal

pub loop-i-preserved : goal.loop-i-preserved
loop-i-preserved g c =
    let more = more_rows (g.F.RuleForm.rule_rows c.args.form.now) c.args.rules.now c.loop-i.i c.index-rules-i.result c.index-rules-i.is c.loop-i-test.true in
    grind (arith, common_steps, more)
