use Rattle.std.proofs.Common.{ap, sym, ◌∙◌}
use Rattle.acl_text.proofs.Putting.{puts-nothing}
use Rattle.acl_rows.specs.Rows.{text_of_rows}
use Rattle.acl_rows.proofs.PutLaws.{retold}
use Rattle.junos_lang.proofs.ConditionLaws.{a_list, no_list}
use Rattle.junos_lang.proofs.condition_rows.ListRowsRows.put_rows.Goals as goal

pub returns-then-are_none : goal.returns-then-are_none
returns-then-are_none g c =
    let l = c.args.self.now in
    let none = no_list l.condition (g.V.Words.words l.values) (sym c.are_none.ensures ∙ c.if-are_none.true) in
    retold (ap text_of_rows none) (puts-nothing c.args.out.now g.met.O.Out.rest_same c.requires)

pub returns-else-are_none : goal.returns-else-are_none
returns-else-are_none g c =
    let l = c.args.self.now in
    let some = a_list l.condition (g.V.Words.words l.values) (sym c.are_none.ensures ∙ c.if-are_none.false) in
    retold (ap text_of_rows some) c.put_rows.ensures
