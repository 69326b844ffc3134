use Rattle.std.proofs.Common.{◌↔◌, IsTrue, sym, subst, ◌∙◌, ap}
use Rattle.std.specs.List.{IsDistinct}
use Rattle.std.specs.Ordering.{eq_by_cmp, is_lt}
use Rattle.acl_rows.specs.ApartSteps.{are_rising}
use Rattle.acl_rows.proofs.ApartLaws.{apart_decides, sorted_keys}
use Rattle.acl_rows.proofs.apart.are_distinct.Goals as goal

pub returns-clause-exact : goal.returns-clause-exact
returns-clause-exact g c =
    c.are_rising.ensures ∙ ap (are_rising (λ x y. is_lt (g.K.Ord.cmp x y))) c.as_slice.ensures.value
    ∙ sorted_keys g.met.K.Ord.total _ _ c.sort_unstable.ensures.permutation c.sort_unstable.ensures.sorted

pub returns-clause-is : goal.returns-clause-is
returns-clause-is g c =
    subst (λ b. IsTrue b ↔ IsDistinct (eq_by_cmp g.K.Ord.cmp) c.args.keys.items) (sym (returns-clause-exact g c))
    (apart_decides (eq_by_cmp g.K.Ord.cmp) c.args.keys.items)
