use Rattle.std.proofs.Common.{◌∙◌, rules}
use Rattle.ipt_lang.specs.Documents.{IsRemark}
use Rattle.ipt_lang.specs.Texts.{remark_rows}
use Rattle.ipt_lang.proofs.FirstRowLaws.{lacks_unless}
use Rattle.ipt_lang.proofs.RowScanLaws.{remark_again}
use Rattle.ipt_lang.proofs.row_scans.take_remark.Goals as goal

pub returns-then-not-is_safe_text : goal.returns-then-not-is_safe_text
returns-then-not-is_safe_text c =
    let text = c.args.text.now in
    let said = c.remark_in-remark in
    lacks_unless IsRemark remark_rows text said.result.now (λ x more h e. said.ensures ∙ remark_again text x more h e) (λ more h e. search rules)

pub returns-in-None : goal.returns-in-None
returns-in-None c =
    let text = c.args.text.now in
    let said = c.remark_in-remark in
    lacks_unless IsRemark remark_rows text said.result.now (λ x more h e. said.ensures ∙ remark_again text x more h e)
    (λ more h e. c.in-None.ensures.none more e)
