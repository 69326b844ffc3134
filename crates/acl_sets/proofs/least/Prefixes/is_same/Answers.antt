use Rattle.acl_sets.specs.HeldRanges.{slice_ranges}
use Rattle.acl_sets.proofs.ListedLaws.{alike_lists}
use Rattle.acl_sets.proofs.least.Prefixes.is_same.Goals as goal

pub returns : goal.returns
returns c =
    let both = alike_lists c.self.inside.family c.other.inside.family c.self.inside.list.ranges c.other.inside.list.ranges
    (slice_ranges c.slices.result) (slice_ranges c.slices-2.result) c.args.self.now c.args.other.now
    c.self.invariant.normal c.other.invariant.normal c.slices.ensures.list c.slices-2.ensures.list c.self.view_is c.other.view_is in
    (λ h. both.0 (c.are_alike.ensures.0 h), λ e. c.are_alike.ensures.1 (both.1 e))
