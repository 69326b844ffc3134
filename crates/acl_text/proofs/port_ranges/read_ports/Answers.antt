use Rattle.acl_text.proofs.PortLaws.{ports_none, ports_some}
use Rattle.acl_text.proofs.port_ranges.read_ports.Goals as goal

pub returns-clause-some : goal.returns-clause-some
returns-clause-some c = ports_some c.args.separator c.args.word.now c.ports_of.result c.ports_of.ensures

pub returns-clause-none : goal.returns-clause-none
returns-clause-none c = ports_none c.args.separator c.args.word.now c.ports_of.result c.requires c.ports_of.ensures
