use Rattle.std.proofs.Common.{None, Some, subst, sym, ◌∙◌}
use Rattle.acl_text.specs.Answers.{Gives, slip_told}
use Rattle.acl_policy.proofs.TargetWords.{by_families, first_rest, refused}
use Rattle.acl_policy.proofs.target_lines.read_nftables.Goals as goal

pub returns-in-None : goal.returns-in-None
returns-in-None c =
    let words = c.args.words.now in
    let word = c.word-item.result in
    refused _ c.refusal_for.result _ c.refusal_for.ensures
    (by_families c.args.keyword.now c.args.platform.now word words _
    (first_rest words word c.in-len1-up.len_at_least c.word-item.is) None (sym c.family_word.ensures ∙ c.in-None.is))

pub returns-in-Some : goal.returns-in-Some
returns-in-Some c =
    let words = c.args.words.now in
    let word = c.word-item.result in
    subst (Gives slip_told c.read_hooked.result)
    (sym (by_families c.args.keyword.now c.args.platform.now word words _
    (first_rest words word c.in-len1-up.len_at_least c.word-item.is) (Some c.in-Some.families)
    (sym c.family_word.ensures ∙ c.in-Some.is))) c.read_hooked.ensures
