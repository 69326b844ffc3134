use Rattle.std.proofs.Common.{ap}
use Rattle.acl_rows.specs.Rows.{text_of_rows}
use Rattle.acl_rows.proofs.PutLaws.{retold}
use Rattle.acl_platform.proofs.PairLaws.{over-pairs}
use Rattle.acl_platform.proofs.choices.Tuple2Choices.put_each.Goals as goal

pub returns : goal.returns
returns g c =
    let rows = g.F.RowForm.item_rows c.args.form.now in
    retold (ap text_of_rows (over-pairs rows (g.A.Choices.items c.args.self.now.0) (g.B.Choices.items c.args.self.now.1))) c.put_each.ensures
