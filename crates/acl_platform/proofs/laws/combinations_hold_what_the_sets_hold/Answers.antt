use Rattle.acl_platform.proofs.CombinationLaws.{any-combination}
use Rattle.acl_platform.proofs.laws.combinations_hold_what_the_sets_hold.Goals as goal

pub returns : goal.returns
returns c = any-combination
