use Rattle.std.proofs.Common.{◌≡◌, true, flat_map, take}
use Rattle.acl_rows.specs.Rows.{text_of_rows}
use Rattle.acl_platform.proofs.rule_texts.front_of.Given as goal

abbrev pub invariant-loop-i : goal.invariant-loop-i
invariant-loop-i g l =
    (l.text.bytes.items ≡ text_of_rows (flat_map (g.F.RuleForm.rule_rows l.form) (take l.i l.rules)))
    × (l.text.is_open ≡ true)
