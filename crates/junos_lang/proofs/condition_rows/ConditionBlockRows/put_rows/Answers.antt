use Rattle.std.proofs.Common.{ap, sym, ◌∙◌}
use Rattle.acl_text.proofs.Putting.{puts-nothing}
use Rattle.acl_rows.specs.Rows.{text_of_rows}
use Rattle.acl_rows.proofs.PutLaws.{retold}
use Rattle.junos_lang.proofs.ConditionLaws.{a_block, no_block}
use Rattle.junos_lang.proofs.condition_rows.ConditionBlockRows.put_rows.Goals as goal

pub returns-then-is_none : goal.returns-then-is_none
returns-then-is_none g c =
    let none = no_block (g.C.Rows.rows c.args.self.now.conditions) (sym c.is_none.ensures ∙ c.if-is_none.true) in
    retold (ap text_of_rows none) (puts-nothing c.args.out.now g.met.O.Out.rest_same c.requires)

pub returns-else-is_none : goal.returns-else-is_none
returns-else-is_none g c =
    let some = a_block (g.C.Rows.rows c.args.self.now.conditions) (sym c.is_none.ensures ∙ c.if-is_none.false) in
    retold (ap text_of_rows some) c.put_rows.ensures
