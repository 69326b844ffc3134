use Rattle.acl_filters.proofs.ShortListsLaws.{taken-short}
use Rattle.acl_filters.proofs.laws.taken_filters_are_short.Goals as goal

pub returns : goal.returns
returns c = taken-short
