use Rattle.acl_terms.proofs.TermLaws.{term-there}
use Rattle.acl_terms.proofs.laws.terms_are_there.Goals as goal

pub returns : goal.returns
returns c = term-there
