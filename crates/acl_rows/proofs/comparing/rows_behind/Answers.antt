use Rattle.acl_rows.specs.Rows.{text_of_rows}
use Rattle.acl_rows.proofs.TakenLaws.{none_taken}
use Rattle.acl_rows.proofs.comparing.rows_behind.Goals as goal

pub returns-in-Err-clause-none : goal.returns-in-Err-clause-none
returns-in-Err-clause-none g c =
    let out = c.put_rows.new.out in
    let puts = c.in-Err.ensures in
    λ rest e. none_taken out.text.now c.args.bytes.now (text_of_rows (g.R.Rows.rows c.args.rows.now)) rest out.place out.other puts.rest out.is_compared puts.closed puts.err e
