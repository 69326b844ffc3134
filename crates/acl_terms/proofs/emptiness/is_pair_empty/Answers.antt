use Rattle.acl_terms.proofs.EmptyLaws.{pair-empty-law}
use Rattle.acl_terms.proofs.emptiness.is_pair_empty.Goals as goal

pub returns-clause-exact : goal.returns-clause-exact
returns-clause-exact c = rw c.has_nothing_on.ensures (pair-empty-law c.args.family c.args.term.now c.args.pair)
