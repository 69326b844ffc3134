use Rattle.acl_platform.proofs.CombinationLaws.{some-combination}
use Rattle.acl_platform.proofs.laws.sound_rules_have_combinations.Goals as goal

pub returns : goal.returns
returns c = some-combination
