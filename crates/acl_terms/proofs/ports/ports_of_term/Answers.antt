use Rattle.std.proofs.Common.{◌++◌, rules}
use Rattle.acl_terms.proofs.SlipLaws.{services_by_ends}
use Rattle.acl_terms.proofs.WordLaws.{left-some, right-some}
use Rattle.acl_terms.proofs.ports.ports_of_term.Goals as goal

pub admitted_ports-requires : goal.admitted_ports-requires
admitted_ports-requires c =
    let raw = c.args.raw.now in
    rw c.source_ports.ensures (λ some. c.requires
    (left-some (raw.source_ports ++ raw.destination_ports) raw.ports (left-some raw.source_ports raw.destination_ports some)))

pub admitted_ports-requires-2 : goal.admitted_ports-requires-2
admitted_ports-requires-2 c =
    let raw = c.args.raw.now in
    rw c.destination_ports.ensures (λ some. c.requires
    (left-some (raw.source_ports ++ raw.destination_ports) raw.ports (right-some raw.source_ports raw.destination_ports some)))

pub returns-in_err-sports-clause-judged : goal.returns-in_err-sports-clause-judged
returns-in_err-sports-clause-judged c =
    rw (services_by_ends c.args.base.now.services c.args.protos.now c.args.raw.now) (search rules)

pub returns-in_err-dports-clause-judged : goal.returns-in_err-dports-clause-judged
returns-in_err-dports-clause-judged c =
    rw (services_by_ends c.args.base.now.services c.args.protos.now c.args.raw.now) (search rules)

pub returns-in_err-ports-clause-judged : goal.returns-in_err-ports-clause-judged
returns-in_err-ports-clause-judged c =
    rw (services_by_ends c.args.base.now.services c.args.protos.now c.args.raw.now) (search rules)

pub returns-clause-judged : goal.returns-clause-judged
returns-clause-judged c =
    rw (services_by_ends c.args.base.now.services c.args.protos.now c.args.raw.now) (search rules)
