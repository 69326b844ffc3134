use Rattle.std.proofs.Common.{◌∙◌, ap, rules}
use Rattle.acl_naming.specs.ComputableReach.{ports_reached}
use Rattle.acl_naming.proofs.ComputedReachLaws.{ports_from, some_held}
use Rattle.acl_naming.proofs.bases.ports_near.Goals as goal

pub returns-clause-computed : goal.returns-clause-computed
returns-clause-computed c =
    let made = c.in_ok-from_vec in
    ports_from c.base.inside.services c.args.proto c.args.name.now made.field-0.top c.in_ok-ranges.ranges.items made.field-0.ranges
    (made.ensures.top ∙ c.top_of.ensures) made.ensures.normal made.ensures.exact
    c.in_ok-ranges.ensures.reached
    ∙ ap (λ b. ports_reached b.services c.args.proto c.args.name.now) c.base.view_is

pub returns-clause-some : goal.returns-clause-some
returns-clause-some c =
    let made = c.in_ok-from_vec in
    some_held 65535 c.in_ok-ranges.ranges.items made.field-0.ranges c.in_ok-ranges.ensures.reached.fits
    (search rules)
    made.ensures.exact
