use Rattle.std.proofs.Common.{List, [], ◌∷◌, map, rules, sym, subst}
use Rattle.std.specs.List.{All}
use Rattle.std.proofs.lemmas.List.Elements.{All-tail}
use Rattle.acl_target.specs.TargetData.{IsTarget}
use Rattle.acl_target.specs.declared.targets.Target.{Target}
use Rattle.acl_filters.specs.ChoosingSteps.{Adds}
use Rattle.acl_filters.specs.FilterRequests.{request_of}
use Rattle.acl_filters.proofs.BlockLists.{first-rest}
use Rattle.acl_filters.proofs.ChoosingLaws.{adds-append, adds-slip}
use Rattle.acl_filters.proofs.choosing.+add_filters.Goals as goal

pub returns-in_err-add_filter-in-len1-up : goal.returns-in_err-add_filter-in-len1-up
returns-in_err-add_filter-in-len1-up g t c = λ written.
    let chosen = g.C.Choice.chosen c.args.choice.now in
    let slip = g.C.Choice.slip c.args.choice.now c.args.today in
    let today = c.args.today in
    let terms = c.args.terms.now in
    let first = c.target-item.result in
    let all = first-rest c.args.targets.now first c.in-len1-up.len_at_least c.target-item.is in
    let P : List Target → Type 0 = λ ts. Adds chosen slip today (map (request_of written terms) ts) c.args.filters.now c.add_filter.new.filters c.from_residual.result in
    subst P (sym all) (adds-slip chosen slip today (request_of written terms first ∷ []) _ _ _ c.in_err-add_filter-in-len1-up.field-0.0 c.add_filter.result
    c.from_residual.result c.in_err-add_filter-in-len1-up.was (c.add_filter.ensures.adds written) c.from_residual.ensures.1)

pub add_filters-requires : goal.add_filters-requires
add_filters-requires g t c =
    let first = c.target-item.result in
    let e = first-rest c.args.targets.now first c.in-len1-up.len_at_least c.target-item.is in
    λ κs lives. (search rules, (lives, (All-tail IsTarget first _ (subst (All IsTarget) e c.requires.sound), c.in_ok-add_filter-in-len1-up.ensures.known)))

pub returns-in_ok-add_filter-in-len1-up : goal.returns-in_ok-add_filter-in-len1-up
returns-in_ok-add_filter-in-len1-up g t c = λ written.
    let chosen = g.C.Choice.chosen c.args.choice.now in
    let slip = g.C.Choice.slip c.args.choice.now c.args.today in
    let today = c.args.today in
    let terms = c.args.terms.now in
    let first = c.target-item.result in
    let all = first-rest c.args.targets.now first c.in-len1-up.len_at_least c.target-item.is in
    let P : List Target → Type 0 = λ ts. Adds chosen slip today (map (request_of written terms) ts) c.args.filters.now c.add_filters.new.filters c.add_filters.result in
    subst P (sym all) (adds-append chosen slip today (request_of written terms first ∷ []) _ _ _ _ c.add_filters.result
    (c.in_ok-add_filter-in-len1-up.ensures.adds written) (c.add_filters.ensures written))
