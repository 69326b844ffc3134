use Rattle.std.proofs.Common.{◌≡◌, List, ap, sym, ◌∙◌, arith}
use Rattle.acl_sets.specs.declared.sets.Range.{Range}
use Rattle.acl_sets.specs.Ranges.{holds, Numbers}
use Rattle.acl_sets.specs.ComputableSets.{covers}
use Rattle.acl_sets.proofs.WalkFacts.{first_tells}
use Rattle.acl_sets.proofs.ComputableSetLaws.{covers-holds, holds-covers}
use Rattle.acl_sets.proofs.sets.RangeSet.is_all.Goals as goal

pub returns : goal.returns
returns c =
    let list : c.self.inside.list.ranges ≡ c.args.self.now.ranges = ap
    (λ (s : Numbers). s.ranges) c.self.view_is in
    let top : c.self.inside.limit ≡ c.args.self.now.top = ap
    (λ (s : Numbers). s.top) c.self.view_is in
    let e : c.first_covers.result ≡ covers c.self.inside.list.ranges 0 c.self.inside.limit =
    c.first_covers.ensures
    ∙ first_tells c.self.inside.limit c.self.inside.limit c.self.inside.list.ranges c.self.invariant.normal in
    record {
      exact = (
        λ h x l. sym (ap (λ (z : List Range). holds z x) list)
            ∙ covers-holds c.self.inside.list.ranges 0 c.self.inside.limit x (sym e ∙ h) (omega arith)
            (omega (arith, l, top)),
        λ h. e ∙ holds-covers 0 c.self.inside.limit c.self.inside.list.ranges 0 c.self.inside.limit c.self.invariant.normal (omega arith)
            (λ x p q. ap (λ (z : List Range). holds z x) list ∙ h x (omega (arith, q, top))),
      );
      computed = e ∙ ap (λ (z : List Range). covers z 0 c.self.inside.limit) list ∙ ap
          (λ z. covers c.args.self.now.ranges 0 z) top;
    }
