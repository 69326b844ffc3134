use Rattle.acl_filters.proofs.FewerRulesLaws.{fewer-rules-fit}
use Rattle.acl_filters.proofs.laws.fewer_rules_fit.Goals as goal

pub returns : goal.returns
returns c = fewer-rules-fit
