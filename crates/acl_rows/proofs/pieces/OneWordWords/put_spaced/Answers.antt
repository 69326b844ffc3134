use Rattle.std.proofs.Common.{◌∷◌, sym, append-nil}
use Rattle.acl_text.proofs.Putting.{goes_on}
use Rattle.acl_rows.proofs.PutLaws.{retold}
use Rattle.acl_rows.proofs.pieces.OneWordWords.put_spaced.Goals as goal

pub returns : goal.returns
returns g c =
    retold (sym (append-nil (32 ∷ g.P.Piece.text c.args.self.now.piece)))
    (goes_on g.met.O.Out.rest_goes_on c.in_ok-put.ensures c.put_into.ensures)
