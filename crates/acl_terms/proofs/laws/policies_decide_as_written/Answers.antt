use Rattle.acl_terms.proofs.PolicyLaws.{decide-as-written}
use Rattle.acl_terms.proofs.laws.policies_decide_as_written.Goals as goal

pub returns : goal.returns
returns c = decide-as-written
