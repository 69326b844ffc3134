use Rattle.acl_options.proofs.CheckLaws.{check-answered, check-asked}
use Rattle.acl_options.proofs.laws.check_requests_are_asked_for.Goals as goal

pub returns : goal.returns
returns c = λ words r. (check-asked words r, check-answered words r)
