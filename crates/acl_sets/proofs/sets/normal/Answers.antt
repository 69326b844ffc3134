use Rattle.std.proofs.Common.{List, [], ap, sym, subst, ◌∙◌}
use Rattle.std.proofs.lemmas.Result.{IfOk-weaker}
use Rattle.std.specs.List.{All}
use Rattle.acl_sets.specs.declared.sets.Range.{Range}
use Rattle.acl_sets.specs.ComputableSets.{put_all}
use Rattle.acl_sets.specs.Ranges.{IsRange}
use Rattle.acl_sets.proofs.SpanLists.{map_same}
use Rattle.acl_sets.proofs.sets.normal.Goals as goal

pub returns-clause-list : goal.returns-clause-list
returns-clause-list c =
    let rs = c.args.ranges.items in
    let A : List Range → Type 0 = λ z. All (λ r. IsRange c.args.top r) z in
    IfOk-weaker c.long.result _ _
    (λ l h. h ∙ c.in_ok-normal.ensures c.args.top (subst A (sym (map_same rs)) c.requires) ∙ ap (λ z. put_all z []) (map_same rs))
    c.long.ensures.list
