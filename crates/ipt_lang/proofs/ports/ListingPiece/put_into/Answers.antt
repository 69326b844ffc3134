use Rattle.std.proofs.Common.{arith}
use Rattle.acl_text.proofs.Putting.{puts-nothing}
use Rattle.acl_rows.proofs.PutLaws.{retold}
use Rattle.ipt_lang.proofs.PortWords.{joined_all, no_items}
use Rattle.ipt_lang.proofs.ports.ListingPiece.put_into.Goals as goal

pub returns-in-empty : goal.returns-in-empty
returns-in-empty g c =
    let l = c.args.self.now in
    retold (no_items (g.F.WordForm.item_text l.form.now) l.items.now (omega arith)) (puts-nothing c.args.out.now g.met.O.Out.rest_same c.requires)

pub returns-in-len1-up : goal.returns-in-len1-up
returns-in-len1-up g c =
    let l = c.args.self.now in
    retold (joined_all (g.F.WordForm.item_text l.form.now) l.items.now c.first-item.result c.in-len1-up.len_at_least c.first-item.is) c.put_into.ensures
