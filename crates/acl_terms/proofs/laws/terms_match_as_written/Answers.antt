use Rattle.acl_terms.proofs.MatchLaws.{match-as-written}
use Rattle.acl_terms.proofs.laws.terms_match_as_written.Goals as goal

pub returns : goal.returns
returns c = match-as-written
