use Rattle.acl_naming.proofs.ComputedReachLaws.{ports_computed}
use Rattle.acl_naming.proofs.laws.ports_are_computed.Goals as goal

pub returns : goal.returns
returns c = ports_computed
