use Rattle.std.proofs.Common.{◌+◌, drop, flat_map}
use Rattle.acl_rows.specs.Rows.{text_of_rows}
use Rattle.acl_platform.proofs.TextFronts.{item-split, refused}
use Rattle.acl_platform.proofs.rule_rows.put_rules.Goals as goal

pub returns-in_err-put_rule : goal.returns-in_err-put_rule
returns-in_err-put_rule g c =
    let rows = g.F.RuleForm.rule_rows c.args.form.now in
    let all = c.args.rules.now in
    let i = c.loop-rule.rule-index in
    refused (text_of_rows (flat_map rows (drop (i + 1) all))) c.from_residual.result
    (item-split rows all i c.rule-item.result c.rule-item.is c.loop-rule-test.true) g.met.O.Out.rest_goes_on
    c.loop-rule.invariant c.in_err-put_rule.ensures c.from_residual.ensures.1
