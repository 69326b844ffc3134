use Rattle.acl_shade.proofs.DeletionLaws.{any-shaded-go, shaded-go}
use Rattle.acl_shade.proofs.laws.shaded_terms_can_go.Goals as goal

pub returns-clause-any : goal.returns-clause-any
returns-clause-any c = any-shaded-go

pub returns-clause-all : goal.returns-clause-all
returns-clause-all c = shaded-go
