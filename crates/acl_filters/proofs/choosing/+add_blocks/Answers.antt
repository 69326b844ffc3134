use Rattle.std.proofs.Common.{List, rules, sym, subst}
use Rattle.std.specs.List.{All}
use Rattle.std.proofs.lemmas.List.Elements.{All-tail}
use Rattle.acl_policy.specs.Conditions.{IsBlock}
use Rattle.acl_filters.specs.AskedFilters.{FilterRequest}
use Rattle.acl_filters.specs.ChoosingSteps.{Adds}
use Rattle.acl_filters.specs.FilterRequests.{block_requests}
use Rattle.acl_filters.proofs.BlockLists.{first-block, first-rest}
use Rattle.acl_filters.proofs.ChoosingLaws.{adds-append, adds-slip}
use Rattle.acl_filters.proofs.choosing.+add_blocks.Goals as goal

pub returns-in_err-add_filters : goal.returns-in_err-add_filters
returns-in_err-add_filters g t c =
    let chosen = g.C.Choice.chosen c.args.choice.now in
    let slip = g.C.Choice.slip c.args.choice.now c.args.today in
    let today = c.args.today in
    let block = c.block-item.result in
    let terms = c.terms-item.result in
    let all = first-block c.args.blocks.now block c.in-len1-up.len_at_least c.block-item.is c.args.lists.now terms
    c.in-len1-up-lists.len_at_least c.terms-item.is in
    let P : List FilterRequest → Type 0 = λ rs. Adds chosen slip today rs c.args.filters.now c.add_filters.new.filters c.from_residual.result in
    let first = rw (c.as_slice.ensures, c.as_slice-targets.ensures) at (c.add_filters.ensures block.terms) in
    subst P (sym all) (adds-slip chosen slip today (block_requests block terms) _ _ _ c.in_err-add_filters.field-0.0 c.add_filters.result c.from_residual.result
    c.in_err-add_filters.was first c.from_residual.ensures.1)

pub add_blocks-requires : goal.add_blocks-requires
add_blocks-requires g t c =
    let block = c.block-item.result in
    let e = first-rest c.args.blocks.now block c.in-len1-up.len_at_least c.block-item.is in
    let all : All IsBlock c.args.blocks.now = assumption (c.requires) in
    λ κs lives. (search rules, (lives, All-tail IsBlock block _ (subst (All IsBlock) e all)))

pub returns : goal.returns
returns g t c =
    let chosen = g.C.Choice.chosen c.args.choice.now in
    let slip = g.C.Choice.slip c.args.choice.now c.args.today in
    let today = c.args.today in
    let block = c.block-item.result in
    let terms = c.terms-item.result in
    let all = first-block c.args.blocks.now block c.in-len1-up.len_at_least c.block-item.is c.args.lists.now terms
    c.in-len1-up-lists.len_at_least c.terms-item.is in
    let P : List FilterRequest → Type 0 = λ rs. Adds chosen slip today rs c.args.filters.now c.add_blocks.new.filters c.add_blocks.result in
    let first = rw (c.as_slice.ensures, c.as_slice-targets.ensures) at (c.in_ok-add_filters.ensures block.terms) in
    subst P (sym all) (adds-append chosen slip today (block_requests block terms) _ _ _ _ c.add_blocks.result first c.add_blocks.ensures)
