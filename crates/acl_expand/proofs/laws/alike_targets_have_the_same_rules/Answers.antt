-- Each term has the same rules on both.
use Rattle.acl_expand.proofs.KnownLaws.{alike_have_the_same_rules}
use Rattle.acl_expand.proofs.laws.alike_targets_have_the_same_rules.Goals as goal

pub returns : goal.returns
returns c = alike_have_the_same_rules
