use Rattle.std.proofs.Common.{◌∙◌, ap}
use Rattle.acl_naming.specs.ComputableReach.{addresses_reached}
use Rattle.acl_naming.proofs.ComputedReachLaws.{addresses_from}
use Rattle.acl_naming.proofs.bases.networks_of.Goals as goal

pub returns-clause-computed : goal.returns-clause-computed
returns-clause-computed c =
    let made = c.in_ok-from_vec in
    addresses_from c.base.inside.networks c.args.family c.args.name.now made.field-0.top c.in_ok-ranges.ranges.items made.field-0.ranges
    (made.ensures.top ∙ c.top_of.ensures) made.ensures.normal made.ensures.exact
    c.in_ok-ranges.ensures.reached
    ∙ ap (λ b. addresses_reached b.networks c.args.family c.args.name.now) c.base.view_is
