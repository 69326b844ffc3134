use Rattle.std.proofs.Common.{◌+◌, drop, flat_map, get_or}
use Rattle.acl_sets.specs.declared.sets.Range.{Range}
use Rattle.acl_platform.specs.Choices.{numbers_in, numbers_of}
use Rattle.acl_platform.proofs.NumberLaws.{ranges-split}
use Rattle.acl_platform.proofs.TextFronts.{refused}
use Rattle.acl_platform.proofs.numbers.put_numbers.Goals as goal

pub returns-in_err-put_numbers_from : goal.returns-in_err-put_numbers_from
returns-in_err-put_numbers_from g c =
    let text = g.F.NumberForm.number_text c.args.form.now in
    let all = c.args.ranges.now in
    let i = c.loop-range.range-index in
    let none : Range = record { low = 0; high = 0 } in
    refused {here = flat_map text (numbers_in (get_or all i none))} (flat_map text (numbers_of (drop (i + 1) all))) c.from_residual.result
    (ranges-split text all i none c.loop-range-test.true) g.met.O.Out.rest_goes_on c.loop-range.invariant c.in_err-put_numbers_from.ensures
    c.from_residual.ensures.1
