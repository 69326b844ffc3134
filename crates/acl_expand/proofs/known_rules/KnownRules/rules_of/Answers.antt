use Rattle.std.proofs.Common.{◌∙◌}
use Rattle.acl_expand.proofs.KnownLaws.{known-more}
use Rattle.acl_expand.proofs.known_rules.KnownRules.rules_of.Goals as goal

pub returns-clause-known : goal.returns-clause-known
returns-clause-known c =
    known-more c.args.today c.args.terms.now c.args.target.now c.args.self.now.lists _ c.in_ok-share-2.field-0 c.requires c.in_ok-rules.ensures.judged
    (c.in_ok-share-2.ensures ∙ c.in_ok-rules.ensures.rules) c.in_ok-keep.ensures
