use Rattle.acl_terms.proofs.EmptyLaws.{empty-law}
use Rattle.acl_terms.proofs.emptiness.is_empty_in.Goals as goal

pub returns-clause-exact : goal.returns-clause-exact
returns-clause-exact c = rw c.has_nothing_in.ensures (empty-law c.args.family c.args.term.now)
