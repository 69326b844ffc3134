use Rattle.std.proofs.Common.{◌∙◌, rules}
use Rattle.ipt_lang.specs.ScanSteps.{IsChainName, name_rows}
use Rattle.ipt_lang.proofs.FirstRowLaws.{lacks_unless}
use Rattle.ipt_lang.proofs.RowScanLaws.{name_again}
use Rattle.ipt_lang.proofs.row_scans.take_name.Goals as goal

pub returns-then-not-is_chain_name : goal.returns-then-not-is_chain_name
returns-then-not-is_chain_name c =
    let text = c.args.text.now in
    let hook = c.args.hook in
    let said = c.name_in-name in
    lacks_unless IsChainName (name_rows hook) text said.result.now (λ x more h e. said.ensures ∙ name_again hook text x more h e)
    (λ more h e. search rules)

pub returns-in-None : goal.returns-in-None
returns-in-None c =
    let text = c.args.text.now in
    let hook = c.args.hook in
    let said = c.name_in-name in
    lacks_unless IsChainName (name_rows hook) text said.result.now (λ x more h e. said.ensures ∙ name_again hook text x more h e)
    (λ more h e. c.in-None.ensures.none more e)
