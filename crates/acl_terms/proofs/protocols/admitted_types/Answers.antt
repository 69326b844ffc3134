use Rattle.std.proofs.Common.{◌∙◌}
use Rattle.acl_terms.specs.Matching.{type_in}
use Rattle.acl_terms.proofs.NumberLaws.{written-result}
use Rattle.acl_terms.proofs.protocols.admitted_types.Goals as goal

pub returns : goal.returns
returns c =
    written-result (λ w. type_in c.args.family w.text) c.args.words.now c.deref.result.now 255 c.numbers_in.result
    (c.is_empty.ensures.some c.if-is_empty.false) (c.deref.ensures.value ∙ c.in_ok-numbers.ensures) c.numbers_in.ensures
