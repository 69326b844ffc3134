use Rattle.std.proofs.Common.{ap}
use Rattle.acl_rows.specs.Rows.{text_of_rows}
use Rattle.acl_rows.proofs.PutLaws.{retold}
use Rattle.junos_lang.specs.Texts.{from_rows}
use Rattle.junos_lang.proofs.ConditionLaws.{conditions_are}
use Rattle.junos_lang.proofs.document_rows.TermConditionsRows.put_rows.Goals as goal

pub returns : goal.returns
returns g c =
    let self = c.args.self.now in
    retold (ap (λ rows. text_of_rows (from_rows rows)) (conditions_are self.family self.term.now))
    (rw (c.as_slice.ensures, c.as_slice-2.ensures, c.as_slice-3.ensures, c.as_slice-4.ensures, c.as_slice-5.ensures, c.as_slice-6.ensures, c.as_slice-7.ensures) at c.put_rows.ensures)
