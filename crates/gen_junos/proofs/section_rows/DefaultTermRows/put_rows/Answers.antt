use Rattle.std.proofs.Common.{false, ◌∷◌, [], ◌++◌, ap, ◌∙◌}
use Rattle.acl_packet.specs.declared.filtering.Verdict.TheVariants.{Deny}
use Rattle.acl_rows.specs.Rows.{text_of_rows}
use Rattle.acl_rows.proofs.PutLaws.{retold}
use Rattle.junos_lang.specs.Texts.{closing, term_row, then_rows}
use Rattle.gen_junos.proofs.Rows.{default-rows}
use Rattle.gen_junos.proofs.section_rows.DefaultTermRows.put_rows.Goals as goal

pub returns : goal.returns
returns g c =
    retold (ap (λ name. text_of_rows (term_row name ∷ [] ++ (then_rows false Deny ++ closing 12 ∷ []))) c.as_slice.ensures
    ∙ ap text_of_rows (default-rows c.args.self.now.family)) c.put_rows.ensures
