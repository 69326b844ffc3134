use Rattle.std.proofs.Common.{flat_map, take}
use Rattle.acl_text.specs.Puts.{Puts}
use Rattle.acl_text.proofs.Putting.{done}
use Rattle.acl_rows.specs.Rows.{text_of_rows}
use Rattle.acl_platform.proofs.rule_rows.put_rules.Given as goal

abbrev pub invariant-loop-rule : goal.invariant-loop-rule
invariant-loop-rule g l =
    Puts g.O.Out l.initial.out l.out
    (text_of_rows (flat_map (g.F.RuleForm.rule_rows l.form) (take l.rule-index l.rules))) done
