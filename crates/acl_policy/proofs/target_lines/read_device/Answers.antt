use Rattle.std.proofs.Common.{subst, sym, ◌∙◌}
use Rattle.acl_text.specs.Answers.{Gives, slip_told}
use Rattle.acl_policy.proofs.TargetWords.{first_rest, named_line, refused, unnamed_line}
use Rattle.acl_policy.proofs.target_lines.read_device.Goals as goal

pub returns-then-name_word : goal.returns-then-name_word
returns-then-name_word c =
    let words = c.args.words.now in
    let name = c.name-item.result in
    subst (Gives slip_told c.read_named_device.result)
    (sym (named_line c.args.keyword.now c.args.platform.now name words _
    (first_rest words name c.in-len1-up.len_at_least c.name-item.is) c.args.kind (sym c.name_word.ensures ∙ c.if-name_word.true)))
    c.read_named_device.ensures

pub returns-else-name_word : goal.returns-else-name_word
returns-else-name_word c =
    let words = c.args.words.now in
    let name = c.name-item.result in
    refused _ c.refusal_for.result _ c.refusal_for.ensures
    (unnamed_line c.args.keyword.now c.args.platform.now name words _
    (first_rest words name c.in-len1-up.len_at_least c.name-item.is) c.args.kind (sym c.name_word.ensures ∙ c.if-name_word.false))
