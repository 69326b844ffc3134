use Rattle.std.proofs.Common.{◌∙◌}
use Rattle.acl_rows.proofs.NamingLaws.{names_apart, names_decide}
use Rattle.acl_rows.proofs.apart.are_distinct_names.Goals as goal

pub returns-clause-is : goal.returns-clause-is
returns-clause-is c = names_decide c.args.names.items _ c.are_distinct.ensures.exact

pub returns-clause-exact : goal.returns-clause-exact
returns-clause-exact c = c.are_distinct.ensures.exact ∙ names_apart c.args.names.items
