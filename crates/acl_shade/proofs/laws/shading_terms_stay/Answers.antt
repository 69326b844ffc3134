use Rattle.acl_shade.proofs.DeletionLaws.{shading-stays}
use Rattle.acl_shade.proofs.laws.shading_terms_stay.Goals as goal

pub returns : goal.returns
returns c = shading-stays
