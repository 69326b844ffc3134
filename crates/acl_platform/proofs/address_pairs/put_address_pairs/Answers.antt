use Rattle.std.proofs.Common.{ap}
use Rattle.acl_rows.specs.Rows.{text_of_rows}
use Rattle.acl_rows.proofs.PutLaws.{retold}
use Rattle.acl_platform.specs.Choices.{number_choices, pairs}
use Rattle.acl_platform.proofs.PairLaws.{over-pairs}
use Rattle.acl_platform.proofs.address_pairs.put_address_pairs.Goals as goal

pub returns : goal.returns
returns g c =
    let r = c.args.rule.now in
    let rows = g.F.AddressForm.rows c.args.form.now in
    retold (ap text_of_rows (over-pairs rows (number_choices r.protos) (pairs r.src r.dst))) c.put_each.ensures
