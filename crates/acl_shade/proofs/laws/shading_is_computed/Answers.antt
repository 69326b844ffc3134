use Rattle.acl_shade.proofs.ShadingLaws.{shading-law}
use Rattle.acl_shade.proofs.laws.shading_is_computed.Goals as goal

pub returns : goal.returns
returns c = shading-law
