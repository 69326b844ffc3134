use Rattle.acl_terms.proofs.LifeLaws.{live-law}
use Rattle.acl_terms.proofs.living.is_live.Goals as goal

pub returns-clause-exact : goal.returns-clause-exact
returns-clause-exact c = rw c.is_term_live.ensures (live-law c.args.term.now c.args.kind c.args.today)
