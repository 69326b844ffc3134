use Rattle.std.proofs.Common.{◌∷◌, [], option_map, ap, ◌∙◌}
use Rattle.acl_words.proofs.InnerLaws.{bad_behind}
use Rattle.acl_words.proofs.runs.first_bad_behind.Goals as goal

pub returns : goal.returns
returns c = c.first_bad.ensures ∙ ap (λ o. option_map (λ b. b ∷ []) o) (bad_behind c.args.inner c.args.text.now c.requires.inner)
