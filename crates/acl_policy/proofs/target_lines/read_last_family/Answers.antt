use Rattle.std.proofs.Common.{sym, ◌∙◌}
use Rattle.acl_policy.proofs.TargetWords.{family_behind, family_is, family_missing, first_rest, refused}
use Rattle.acl_policy.proofs.target_lines.read_last_family.Goals as goal

pub returns-in-None : goal.returns-in-None
returns-in-None c =
    let words = c.args.words.now in
    let word = c.word-item.result in
    refused _ c.refusal_for.result _ c.refusal_for.ensures
    (family_missing c.args.kind word words _
    (first_rest words word c.in-len1-up.len_at_least c.word-item.is) (sym c.family_word.ensures ∙ c.in-None.is))

pub returns-in-empty-behind : goal.returns-in-empty-behind
returns-in-empty-behind c =
    let words = c.args.words.now in
    let word = c.word-item.result in
    family_is c.args.kind word words _
    (first_rest words word c.in-len1-up.len_at_least c.word-item.is) c.in-Some.families c.in-empty-behind.len_below
    (sym c.family_word.ensures ∙ c.in-Some.is)

pub returns-in-len1-up-behind : goal.returns-in-len1-up-behind
returns-in-len1-up-behind c =
    let words = c.args.words.now in
    let word = c.word-item.result in
    let next = c.next-item.result in
    refused _ c.refusal_for-in-len1-up-behind.result _ c.refusal_for-in-len1-up-behind.ensures
    (family_behind c.args.kind word words _
    (first_rest words word c.in-len1-up.len_at_least c.word-item.is) c.in-Some.families next _
    (first_rest _ next c.in-len1-up-behind.len_at_least c.next-item.is) (sym c.family_word.ensures ∙ c.in-Some.is))
