use Rattle.std.proofs.Common.{length, min, ap, sym, ◌∙◌}
use Rattle.std.proofs.lemmas.List.{length-map}
use Rattle.acl_text.specs.Output.{COUNT_END}
use Rattle.acl_platform.specs.Combinations.{combination_of, parts_of}
use Rattle.acl_platform.proofs.combinations.count_combinations.Goals as goal

pub returns : goal.returns
returns c =
    c.count.ensures ∙ ap (λ parts. min (length parts) COUNT_END) c.choices_of.ensures
    ∙ ap (λ n. min n COUNT_END) (sym (length-map (parts_of c.args.rule.now) combination_of))
