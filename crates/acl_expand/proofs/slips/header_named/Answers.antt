use Rattle.acl_terms.proofs.SideLaws.{protocols_small}
use Rattle.acl_expand.proofs.slips.header_named.Goals as goal

pub header_in-requires : goal.header_in-requires
header_in-requires c = protocols_small c.args.term.now
