use Rattle.std.proofs.Common.{List, subst}
use Rattle.acl_sets.specs.declared.sets.Range.{Range}
use Rattle.acl_naming.specs.LookupSteps.{AddsReach}
use Rattle.acl_naming.proofs.ReachLaws.{adds_all, adds_reach}
use Rattle.acl_naming.proofs.reaching.ranges_of.Goals as goal

pub returns-clause-reached : goal.returns-clause-reached
returns-clause-reached c =
    let base = c.args.linked.now in
    let name = c.args.name.now in
    let w = c.args.wanted in
    let new = c.push_reached.new.out.items in
    adds_reach base name w new
    (subst (λ (old : List Range). AddsReach base name w old new) c.new-out.ensures.items
    (adds_all _ _ _ _ _ _ _ _ _ c.table-table.ensures c.in-Some.ensures c.in_ok-places.ensures c.deref.ensures.value
    c.in_ok-push_reached.ensures))
