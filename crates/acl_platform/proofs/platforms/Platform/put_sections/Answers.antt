use Rattle.std.proofs.Common.{◌+◌, drop, flat_map, map}
use Rattle.acl_text.proofs.Putting.{done, goes_on}
use Rattle.acl_rows.specs.Rows.{text_of_rows}
use Rattle.acl_rows.proofs.PutLaws.{retold}
use Rattle.acl_platform.proofs.Sections.{written-more, written-split}
use Rattle.acl_platform.proofs.TextFronts.{refused}
use Rattle.acl_platform.proofs.platforms.Platform.put_sections.Goals as goal

pub returns-in_err-put_section : goal.returns-in_err-put_section
returns-in_err-put_section g c =
    let rows = g.Self.Language.Language.rows in
    let section = g.Self.Platform.section c.args.self.now in
    let all = c.args.filters.now in
    let i = c.loop-filter.filter-index in
    refused (text_of_rows (flat_map rows (map section (drop (i + 1) all)))) c.from_residual.result
    (written-split rows section all i c.filter-item.result c.filter-item.is c.loop-filter-test.true)
    g.met.O.Out.rest_goes_on c.loop-filter.invariant c.in_err-put_section.ensures c.from_residual.ensures.1

pub loop-filter-preserved : goal.loop-filter-preserved
loop-filter-preserved g c =
    let section = g.Self.Platform.section c.args.self.now in
    retold {r = done} (written-more g.Self.Language.Language.rows section c.args.filters.now c.loop-filter.filter-index
    c.filter-item.result c.filter-item.is c.loop-filter-test.true)
    (goes_on {r = done} g.met.O.Out.rest_goes_on c.loop-filter.invariant c.in_ok-put_section.ensures)
