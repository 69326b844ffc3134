use Rattle.std.proofs.Common.{[], ◌∷◌, ap}
use Rattle.std.proofs.lemmas.List.Concat.{flat_map_single}
use Rattle.acl_rows.specs.Rows.{row, text_of_rows}
use Rattle.acl_rows.proofs.PutLaws.{retold}
use Rattle.acl_rows.proofs.listed_rows.ListedRowsRows.put_rows.Goals as goal

pub returns : goal.returns
returns g c =
    let self = c.args.self.now in
    let one = λ (x : g.row.L-Item.Denot). row self.indent (g.F.WordForm.item_text self.form x ∷ []) in
    retold (ap text_of_rows (flat_map_single one (g.L.Listed.items self.items))) c.put_listed.ensures
