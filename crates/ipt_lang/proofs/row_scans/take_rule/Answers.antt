use Rattle.std.proofs.Common.{◌∙◌, rules}
use Rattle.ipt_lang.specs.Documents.{IsRule}
use Rattle.ipt_lang.specs.Texts.{rule_rows}
use Rattle.ipt_lang.proofs.FirstRowLaws.{lacks_unless}
use Rattle.ipt_lang.proofs.RowScanLaws.{scanned_again}
use Rattle.ipt_lang.proofs.ValidityLaws.{rule_decides}
use Rattle.ipt_lang.proofs.row_scans.take_rule.Goals as goal

pub returns-then-not-is_rule : goal.returns-then-not-is_rule
returns-then-not-is_rule c =
    let text = c.args.text.now in
    let chain = c.args.chain.now in
    let said = c.in_ok-rule in
    lacks_unless (IsRule chain.family) (rule_rows chain.hook chain.family chain.name.now) text said.rule
    (λ r more h e. said.ensures ∙ scanned_again chain.hook chain.family chain.name.now text r more c.requires h e)
    (λ more h e. let valid = (rule_decides chain.family said.rule).1 h in search rules)

pub returns-in-Some : goal.returns-in-Some
returns-in-Some c =
    let chain = c.args.chain.now in
    let said = c.in_ok-rule in
    ((rule_decides chain.family said.rule).0 (search rules), c.in-Some.ensures.some)

pub returns : goal.returns
returns c =
    let text = c.args.text.now in
    let chain = c.args.chain.now in
    let said = c.in_ok-rule in
    lacks_unless (IsRule chain.family) (rule_rows chain.hook chain.family chain.name.now) text said.rule
    (λ r more h e. said.ensures ∙ scanned_again chain.hook chain.family chain.name.now text r more c.requires h e)
    (λ more h e. c.in-None.ensures.none more e)
