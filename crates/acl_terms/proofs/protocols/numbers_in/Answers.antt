use Rattle.std.proofs.Common.{subst, sym}
use Rattle.acl_terms.specs.DistinctSteps.{AreSame}
use Rattle.acl_terms.proofs.DistinctLaws.{same-result}
use Rattle.acl_terms.proofs.protocols.numbers_in.Goals as goal

pub returns : goal.returns
returns c =
    same-result c.deref.result.now c.args.numbers.now 255 c.set_of-2.result
    (subst (λ ns. AreSame ns c.args.numbers.now) (sym c.deref.ensures.value) c.in_ok-numbers.ensures)
    c.set_of-2.ensures
