use Rattle.acl_naming.proofs.ComputedReachLaws.{addresses_computed}
use Rattle.acl_naming.proofs.laws.addresses_are_computed.Goals as goal

pub returns : goal.returns
returns c = addresses_computed
