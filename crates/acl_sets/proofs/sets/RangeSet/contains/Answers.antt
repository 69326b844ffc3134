use Rattle.std.proofs.Common.{List, ap, sym, subst, ◌∙◌}
use Rattle.acl_sets.specs.declared.sets.Range.{Range}
use Rattle.acl_sets.specs.Ranges.{holds, IsNormal, Numbers}
use Rattle.acl_sets.proofs.sets.RangeSet.contains.Goals as goal

pub returns : goal.returns
returns c =
    let N : List Range → Type 0 = λ z. IsNormal 0 c.self.inside.limit z in
    c.have_number.ensures c.self.inside.limit (subst N (sym c.slices.ensures.list) c.self.invariant.normal)
    ∙ ap (λ (z : List Range). holds z c.args.x)
    (c.slices.ensures.list ∙ ap (λ (s : Numbers). s.ranges) c.self.view_is)
