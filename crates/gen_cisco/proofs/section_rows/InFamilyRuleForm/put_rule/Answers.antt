use Rattle.std.proofs.Common.{ap, sym, ◌∙◌}
use Rattle.acl_rows.specs.Rows.{text_of_rows}
use Rattle.acl_rows.proofs.PutLaws.{retold}
use Rattle.gen_cisco.proofs.Rows.{own-rule}
use Rattle.gen_cisco.proofs.section_rows.InFamilyRuleForm.put_rule.Goals as goal

pub returns-then-is_of : goal.returns-then-is_of
returns-then-is_of g c =
    retold (ap text_of_rows (own-rule c.args.self.now.family c.args.rule.now (sym c.is_of.ensures ∙ c.if-is_of.true))) c.put_rows.ensures
