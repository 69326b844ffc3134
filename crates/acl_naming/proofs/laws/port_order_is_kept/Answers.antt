use Rattle.acl_naming.proofs.OrderedPorts.{order-kept}
use Rattle.acl_naming.proofs.laws.port_order_is_kept.Goals as goal

pub returns : goal.returns
returns c = order-kept
