use Rattle.std.proofs.Common.{ℕ, List, ◌++◌, ap, ◌∙◌}
use Rattle.acl_rows.specs.Rows.{text_of_rows}
use Rattle.acl_rows.proofs.PutLaws.{retold}
use Rattle.acl_platform.specs.declared.rules.Rule.{Rule}
use Rattle.std_lang.specs.Texts.{head_rows}
use Rattle.gen_acltool.specs.RowSteps.{items_rows}
use Rattle.gen_acltool.specs.Sections.{list_items, list_number}
use Rattle.gen_acltool.proofs.Rows.{section-text}
use Rattle.gen_acltool.proofs.list_rows.put_section.Goals as goal

pub returns : goal.returns
returns g c =
    let first = c.args.first in
    let f = c.args.filter.now in
    let text : ℕ → List Rule → List ℕ = λ n rules. text_of_rows (head_rows n ++ items_rows n (list_items rules)) in
    retold (ap (λ n. text n c.as_slice.result.now) c.list_number-number.ensures ∙ ap (text (list_number first f)) c.as_slice.ensures ∙ section-text first f)
    c.put_rows.ensures
