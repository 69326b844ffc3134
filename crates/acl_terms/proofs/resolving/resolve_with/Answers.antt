use Rattle.std.proofs.lemmas.Result.{IfOk-weaker}
use Rattle.acl_terms.specs.Resolved.{sets_in}
use Rattle.acl_terms.proofs.ComputedLaws.{sets_computed}
use Rattle.acl_terms.proofs.resolving.resolve_with.Goals as goal

pub returns-clause-computed : goal.returns-clause-computed
returns-clause-computed c =
    IfOk-weaker c.term_of.result _ _ (λ t h. sets_computed c.args.known.now c.args.raw.now (sets_in t) h) c.term_of.ensures.sets
