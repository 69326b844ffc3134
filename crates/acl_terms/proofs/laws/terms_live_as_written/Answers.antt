use Rattle.acl_terms.proofs.LifeLaws.{live-as-written}
use Rattle.acl_terms.proofs.laws.terms_live_as_written.Goals as goal

pub returns : goal.returns
returns c = live-as-written
