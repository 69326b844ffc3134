use Rattle.acl_naming.proofs.OrderedPorts.{ordered-some}
use Rattle.acl_naming.proofs.laws.ordered_ports_are_some.Goals as goal

pub returns : goal.returns
returns c = ordered-some
