use Rattle.acl_terms.proofs.SideLaws.{sport_tops}
use Rattle.acl_terms.proofs.side_sets.sports_on.Goals as goal

pub intersect-requires : goal.intersect-requires
intersect-requires c = sport_tops c.args.term.now
