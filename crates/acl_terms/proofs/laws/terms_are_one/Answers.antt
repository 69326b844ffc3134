use Rattle.acl_terms.proofs.TermLaws.{one-term}
use Rattle.acl_terms.proofs.laws.terms_are_one.Goals as goal

pub returns : goal.returns
returns c = one-term
