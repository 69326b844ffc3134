use Rattle.acl_terms.proofs.SideLaws.{protocols_small}
use Rattle.acl_shade.proofs.shading.protocols_within.Goals as goal

pub range_slice-requires : goal.range_slice-requires
range_slice-requires c = protocols_small c.args.earlier.now

pub range_slice-requires-then-not-is_all : goal.range_slice-requires-then-not-is_all
range_slice-requires-then-not-is_all c = protocols_small c.args.term.now
