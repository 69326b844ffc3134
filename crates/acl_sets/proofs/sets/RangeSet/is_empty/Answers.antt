use Rattle.std.proofs.Common.{◌≡◌, ◌==◌, List, length, ap, sym, ◌∙◌, arith}
use Rattle.acl_sets.specs.declared.sets.Range.{Range}
use Rattle.acl_sets.specs.Ranges.{holds, Numbers}
use Rattle.acl_sets.proofs.RangeLaws.{empty-holds, none-empty}
use Rattle.acl_sets.proofs.sets.RangeSet.is_empty.Goals as goal

pub returns : goal.returns
returns c =
    let list : c.self.inside.list.ranges ≡ c.args.self.now.ranges = ap
    (λ (s : Numbers). s.ranges) c.self.view_is in
    let top : c.self.inside.limit ≡ c.args.self.now.top = ap
    (λ (s : Numbers). s.top) c.self.view_is in
    let e : c.is_none.result ≡ (length c.self.inside.list.ranges == 0) = c.is_none.ensures in
    record {
      exact = (
        λ h x l. sym (ap (λ (z : List Range). holds z x) list)
            ∙ empty-holds c.self.inside.list.ranges x (sym e ∙ h),
        λ h. e ∙ none-empty 0 c.self.inside.limit c.self.inside.list.ranges c.self.invariant.normal
            (λ x l. ap (λ (z : List Range). holds z x) list ∙ h x (omega (arith, l, top))),
      );
      computed = e ∙ ap (λ (z : List Range). length z == 0) list;
    }
