use Rattle.std.proofs.Common.{sym, ◌∙◌}
use Rattle.junos_lang.proofs.ConditionLaws.{ends_with_some}
use Rattle.junos_lang.proofs.condition_rows.Tuple2Conditions.is_none.Goals as goal

pub returns-else-is_none : goal.returns-else-is_none
returns-else-is_none g c =
    let p = c.args.self.now in
    c.if-is_none.false ∙ sym (ends_with_some (g.A.Rows.rows p.0) (g.B.Rows.rows p.1) (sym c.is_none.ensures ∙ c.if-is_none.false))
