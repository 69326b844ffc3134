use Rattle.std.proofs.Common.{◌+◌, ◌-◌, flat_map}
use Rattle.std.specs.List.{range_with_len}
use Rattle.acl_text.proofs.Putting.{goes_on}
use Rattle.acl_rows.proofs.PutLaws.{retold}
use Rattle.acl_platform.proofs.NumberLaws.{number-on, numbers-split}
use Rattle.acl_platform.proofs.TextFronts.{refused}
use Rattle.acl_platform.proofs.numbers.put_numbers_from.Goals as goal

pub returns-in_err-put_number : goal.returns-in_err-put_number
returns-in_err-put_number g c =
    let text = g.F.NumberForm.number_text c.args.form.now in
    let number = c.loop-number.number in
    let end = c.args.end in
    refused (flat_map text (range_with_len (number + 1) (end - (number + 1)))) c.from_residual.result
    (numbers-split text c.args.first number end c.loop-number.auto.number c.loop-number-test.true) g.met.O.Out.rest_goes_on
    c.loop-number.invariant c.in_err-put_number.ensures c.from_residual.ensures.1

pub loop-number-preserved : goal.loop-number-preserved
loop-number-preserved g c =
    let text = g.F.NumberForm.number_text c.args.form.now in
    retold (number-on text c.args.first c.loop-number.number c.loop-number.auto.number)
    (goes_on g.met.O.Out.rest_goes_on c.loop-number.invariant c.in_ok-put_number.ensures)
