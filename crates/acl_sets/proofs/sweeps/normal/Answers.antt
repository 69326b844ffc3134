use Rattle.std.proofs.Common.{map, ap, sym, ◌∙◌}
use Rattle.std.proofs.lemmas.Result.{IfOk-weaker}
use Rattle.acl_sets.proofs.SpanLists.{spans-computed}
use Rattle.acl_sets.proofs.sweeps.normal.Goals as goal

-- ranges that are apart are what is merged of them
pub returns-then-are_apart : goal.returns-then-are_apart
returns-then-are_apart g c =
    λ top w. spans-computed g.T.Span.range top c.args.ranges.items _ c.deref.result.now c.sorted-rising.result.items w
    c.sorted-rising.ensures.same c.sorted-rising.ensures.rising c.deref.ensures.value
    (sym (ap (map g.T.Span.range) c.deref.ensures.value) ∙ sym (c.are_apart.ensures c.if-are_apart.true))

pub returns : goal.returns
returns g c =
    IfOk-weaker c.merged.result _ _
    (λ v merged. λ top w. spans-computed g.T.Span.range top c.args.ranges.items _ _ v.items w c.sorted-rising.ensures.same
    c.sorted-rising.ensures.rising c.deref-2.ensures.value merged)
    c.merged.ensures
