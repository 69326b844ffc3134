use Rattle.std.proofs.Common.{◌∙◌}
use Rattle.ipt_lang.specs.ScanSteps.{IsAny, target_rows}
use Rattle.ipt_lang.proofs.FirstRowLaws.{lacks_unless}
use Rattle.ipt_lang.proofs.RowScanLaws.{target_again}
use Rattle.ipt_lang.proofs.row_scans.take_target.Goals as goal

pub returns-in-None : goal.returns-in-None
returns-in-None c =
    let text = c.args.text.now in
    let said = c.target_in-target in
    lacks_unless IsAny target_rows text said.result (λ t more h e. said.ensures ∙ target_again text t more h e)
    (λ more h e. c.in-None.ensures.none more e)
