use Rattle.std.proofs.Common.{◌≡◌, List, [], map, ap, sym, subst, ◌∙◌}
use Rattle.std.proofs.lemmas.Result.{IfOk-weaker}
use Rattle.std.specs.List.{All}
use Rattle.acl_sets.specs.declared.sets.Range.{Range}
use Rattle.acl_sets.specs.ComputableSets.{put_all}
use Rattle.acl_sets.specs.Ranges.{IsRange}
use Rattle.acl_sets.specs.Spans.{short_top, wide}
use Rattle.acl_sets.proofs.sets.short_normal.Goals as goal

pub returns-clause-list : goal.returns-clause-list
returns-clause-list c =
    let same : map wide c.in_ok-shorts.shorts.items ≡ c.args.ranges.items = c.in_ok-shorts.ensures ∙ c.deref.ensures.value in
    let A : List Range → Type 0 = λ z. All (λ r. IsRange short_top r) z in
    IfOk-weaker c.short.result _ _
    (λ l h. h ∙ c.in_ok-normal.ensures short_top (subst A (sym same) c.requires) ∙ ap (λ z. put_all z []) same)
    c.short.ensures.list
