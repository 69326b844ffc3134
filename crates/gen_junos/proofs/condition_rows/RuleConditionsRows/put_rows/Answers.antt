use Rattle.std.proofs.Common.{ap}
use Rattle.acl_rows.specs.Rows.{text_of_rows}
use Rattle.acl_rows.proofs.PutLaws.{retold}
use Rattle.junos_lang.specs.Texts.{from_rows}
use Rattle.gen_junos.proofs.Rows.{conditions-text}
use Rattle.gen_junos.proofs.condition_rows.RuleConditionsRows.put_rows.Goals as goal

pub returns : goal.returns
returns g c =
    let self = c.args.self.now in
    retold (ap (λ rows. text_of_rows (from_rows rows)) (conditions-text self.family self.rule.now))
    (rw (
      c.written.ensures,
      c.written-2.ensures,
      c.range_elements.ensures.exact,
      c.range_elements-2.ensures.exact,
      c.range_elements-3.ensures.exact,
      c.range_elements-4.ensures.exact,
      c.range_elements-5.ensures.exact,
      c.test_of.ensures,
    ) at c.put_rows.ensures)
