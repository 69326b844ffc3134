use Rattle.acl_terms.proofs.SideLaws.{protocols_small}
use Rattle.acl_terms.proofs.emptiness.has_no_protocol.Goals as goal

pub range_slice-requires : goal.range_slice-requires
range_slice-requires c = protocols_small c.args.term.now
