use Rattle.std.proofs.Common.{List, [], ◌∷◌, map, sym, subst}
use Rattle.acl_target.specs.declared.targets.Target.{Target}
use Rattle.acl_filters.specs.FilterRequests.{request_of}
use Rattle.acl_job.specs.PreparingSteps.{Adds}
use Rattle.acl_filters.proofs.BlockLists.{first-rest}
use Rattle.acl_job.proofs.PreparingLaws.{adds-append, adds-written}
use Rattle.acl_job.proofs.preparing.+add_filters.Goals as goal

pub returns-in_ok-add_filter-in-len1-up : goal.returns-in_ok-add_filter-in-len1-up
returns-in_ok-add_filter-in-len1-up t c = λ written.
    let today = c.args.today in
    let terms = c.args.terms.now in
    let first = c.target-item.result in
    let all = first-rest c.args.targets.now first c.in-len1-up.len_at_least c.target-item.is in
    let P : List Target → Type 0 = λ ts. Adds today (map (request_of written terms) ts) c.args.drafts.now c.add_filters.new.drafts c.add_filters.result in
    subst P (sym all) (adds-append today (request_of written terms first ∷ []) _ _ _ _ c.add_filters.result
    (adds-written today written terms first _ _ c.in_ok-add_filter-in-len1-up.ensures.adds) (c.add_filters.ensures written))
