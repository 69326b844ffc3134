use Rattle.std.proofs.Common.{◌∷◌, sym, append-nil}
use Rattle.acl_rows.specs.Rows.{row, row_text}
use Rattle.acl_rows.proofs.PutLaws.{retold}
use Rattle.acl_rows.proofs.rows.RowRows.put_rows.Goals as goal

pub returns : goal.returns
returns g c =
    let r = c.args.self.now in
    retold (sym (append-nil (row_text (row r.indent (g.P.Piece.text r.first ∷ g.W.Words.words r.rest))))) c.put_into.ensures
