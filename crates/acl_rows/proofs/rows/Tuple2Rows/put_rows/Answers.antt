use Rattle.std.proofs.Common.{refl}
use Rattle.std.proofs.lemmas.Result.{err_from_is_err_and}
use Rattle.acl_text.proofs.Putting.{goes_on, stops}
use Rattle.acl_rows.specs.Rows.{text_of_rows}
use Rattle.acl_rows.proofs.PutLaws.{retold, rows_append}
use Rattle.acl_rows.proofs.rows.Tuple2Rows.put_rows.Goals as goal

pub returns-in_err-put_rows : goal.returns-in_err-put_rows
returns-in_err-put_rows g c =
    let p = err_from_is_err_and c.from_residual.result c.from_residual.ensures.1 in
    let first = g.A.Rows.rows c.args.self.now.0 in
    let second = g.B.Rows.rows c.args.self.now.1 in
    rw (p.1, p.2) (retold (rows_append first second) (stops (text_of_rows second) c.in_err-put_rows.ensures refl))

pub returns : goal.returns
returns g c =
    retold (rows_append (g.A.Rows.rows c.args.self.now.0) (g.B.Rows.rows c.args.self.now.1))
    (goes_on g.met.O.Out.rest_goes_on c.in_ok-put_rows.ensures c.put_rows-2.ensures)
