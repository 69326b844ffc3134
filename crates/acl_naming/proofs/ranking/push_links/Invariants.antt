use Rattle.std.proofs.Common.{◌≡◌, ◌++◌, map, drop}
use Rattle.acl_naming.specs.declared.ranking.SearchStep.TheVariants.{Enter}
use Rattle.acl_naming.proofs.ranking.push_links.Given as goal

abbrev pub invariant-loop-link : goal.invariant-loop-link
invariant-loop-link l = l.steps.items ++ map Enter (drop l.link-index l.links) ≡ l.initial.steps.items ++ map Enter l.links
