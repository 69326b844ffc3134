use Rattle.acl_terms.proofs.SideLaws.{dport_tops}
use Rattle.acl_terms.proofs.side_sets.dports_on.Goals as goal

pub intersect-requires : goal.intersect-requires
intersect-requires c = dport_tops c.args.term.now
