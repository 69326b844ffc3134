use Rattle.std.proofs.Common.{◌≡◌, List, [], Ok, arith, length, map, rules, sym, subst}
use Rattle.std.specs.List.{All}
use Rattle.std.proofs.lemmas.List.Elements.{All-tail}
use Rattle.acl_target.specs.TargetData.{IsTarget}
use Rattle.acl_filters.specs.AskedFilters.{FilterRequest}
use Rattle.acl_filters.specs.FilterRequests.{request_of}
use Rattle.acl_job.specs.PreparingSteps.{Adds}
use Rattle.acl_filters.proofs.BlockLists.{first-rest}
use Rattle.acl_job.proofs.PreparingLaws.{adds-append, adds-none, adds-slip, first-asks, nothing-asked, still-open}
use Rattle.acl_job.proofs.preparing.+add_blocks.Goals as goal

pub returns-in_default-lists : goal.returns-in_default-lists
returns-in_default-lists t c = λ blocks same.
    let today = c.args.today in
    let drafts = c.args.drafts.now in
    let none : length c.args.lists.now ≡ 0 = omega arith in
    let P : List FilterRequest → Type 0 = λ rs. Adds {X = Unit {0}} today rs drafts drafts (Ok (tt {0})) in
    subst P (sym (nothing-asked blocks c.args.lists.now none)) (adds-none today drafts (tt {0}) c.requires.«open»)

pub returns-in_err-add_filters : goal.returns-in_err-add_filters
returns-in_err-add_filters t c = λ blocks same.
    let today = c.args.today in
    let targets = c.first-item.result in
    let terms = c.terms-item.result in
    let asks = first-asks blocks c.args.targets.now targets c.in-len1-up.len_at_least c.first-item.is same c.args.lists.now terms
    c.in-len1-up-lists.len_at_least c.terms-item.is in
    let P : List FilterRequest → Type 0 = λ rs. Adds today rs c.args.drafts.now c.add_filters.new.drafts c.from_residual.result in
    let first = rw (c.as_slice.ensures, c.as_slice-first.ensures) at (c.add_filters.ensures asks.written) in
    subst P (sym asks.asks) (adds-slip today (map (request_of asks.written terms) targets) _ _ _ c.in_err-add_filters.field-0.0 c.add_filters.result
    c.from_residual.result c.in_err-add_filters.was first c.from_residual.ensures.1)

pub add_blocks-requires : goal.add_blocks-requires
add_blocks-requires t c =
    let targets = c.first-item.result in
    let e = first-rest c.args.targets.now targets c.in-len1-up.len_at_least c.first-item.is in
    let all : All (All IsTarget) c.args.targets.now = assumption (c.requires) in
    let sound = All-tail (All IsTarget) targets _ (subst (All (All IsTarget)) e all) in
    let opened = still-open c.args.today _ _ _ (c.in_ok-add_filters.ensures []) in
    (search rules, (sound, opened))

pub returns : goal.returns
returns t c = λ blocks same.
    let today = c.args.today in
    let targets = c.first-item.result in
    let terms = c.terms-item.result in
    let asks = first-asks blocks c.args.targets.now targets c.in-len1-up.len_at_least c.first-item.is same c.args.lists.now terms
    c.in-len1-up-lists.len_at_least c.terms-item.is in
    let P : List FilterRequest → Type 0 = λ rs. Adds today rs c.args.drafts.now c.add_blocks.new.drafts c.add_blocks.result in
    let first = rw (c.as_slice.ensures, c.as_slice-first.ensures) at (c.in_ok-add_filters.ensures asks.written) in
    subst P (sym asks.asks) (adds-append today (map (request_of asks.written terms) targets) _ _ _ _ c.add_blocks.result first
    (c.add_blocks.ensures asks.rest asks.rest_is))
