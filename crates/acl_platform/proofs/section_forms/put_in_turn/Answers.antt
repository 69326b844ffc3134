use Rattle.std.proofs.Common.{◌+◌, drop, flat_map, map, ap, subst, sym, ◌∙◌}
use Rattle.std.specs.List.{All}
use Rattle.std.proofs.lemmas.List.{take_all}
use Rattle.acl_text.proofs.Putting.{done, goes_on}
use Rattle.acl_rows.specs.Rows.{text_of_rows}
use Rattle.acl_rows.proofs.PutLaws.{retold}
use Rattle.acl_platform.specs.Combinations.{IsSized}
use Rattle.acl_platform.specs.SoundFilters.{IsSound}
use Rattle.acl_platform.proofs.Sections.{written-more, written-split}
use Rattle.acl_platform.proofs.SoundRules.{all_sized}
use Rattle.acl_platform.proofs.TextFronts.{refused}
use Rattle.acl_platform.proofs.section_forms.put_in_turn.Goals as goal

pub turn_to-requires : goal.turn_to-requires
turn_to-requires g c =
    let filter = c.filter-item.result in
    subst (All IsSized) (sym c.as_slice.ensures) (all_sized filter
    (subst IsSound (sym c.filter-item.is) (c.requires.sound c.loop-filter.filter-index filter c.loop-filter-test.true)))

pub loop-filter-preserved : goal.loop-filter-preserved
loop-filter-preserved g c =
    let so_far = c.loop-filter.invariant in
    let family_of = g.F.SectionForm.family_of in (
      retold (written-more g.F.Language.Language.rows g.F.SectionForm.section c.args.filters.now c.loop-filter.filter-index
          c.filter-item.result c.filter-item.is c.loop-filter-test.true)
          (goes_on {r = done} g.met.O.Out.rest_goes_on so_far.0 c.in_ok-put_over.ensures),
      (ap family_of c.turn_to.ensures.v4 ∙ so_far.1.0, ap family_of c.turn_to.ensures.v6 ∙ so_far.1.1),
    )

pub returns-in_err-put_over : goal.returns-in_err-put_over
returns-in_err-put_over g c =
    let rows = g.F.Language.Language.rows in
    let section = g.F.SectionForm.section in
    let all = c.args.filters.now in
    let i = c.loop-filter.filter-index in
    refused (text_of_rows (flat_map rows (map section (drop (i + 1) all)))) c.from_residual.result
    (written-split rows section all i c.filter-item.result c.filter-item.is c.loop-filter-test.true)
    g.met.O.Out.rest_goes_on c.loop-filter.invariant.0 c.in_err-put_over.ensures c.from_residual.ensures.1

pub returns : goal.returns
returns g c =
    let all = c.args.filters.now in
    retold (ap (λ filters. text_of_rows (flat_map g.F.Language.Language.rows (map g.F.SectionForm.section filters)))
    (take_all c.loop-filter.filter-index all c.loop-filter-test.false)) c.loop-filter.invariant.0
