use Rattle.std.proofs.Common.{List, ◌++◌, codes, flat_map, ap, ◌∙◌}
use Rattle.acl_rows.proofs.PutLaws.{retold}
use Rattle.nft_lang.specs.SetKeys.{set_opening}
use Rattle.nft_lang.proofs.SetLaws.{set_put}
use Rattle.nft_lang.proofs.sets.FullSetItemPiece.put_into.Goals as goal

pub returns : goal.returns
returns g c =
    let s = c.args.self.now in
    let word = g.F.WordForm.item_text s.form.now in
    let behind = λ (xs : List g.row.L-Item.Denot). word s.first ++ (flat_map (λ e. codes ", " ++ word e) xs ++ codes " }") in
    retold (ap (λ t. t ++ behind (g.L.Listed.items c.copy.result)) c.opening.ensures
    ∙ ap (λ xs. set_opening s.key ++ behind xs) c.copy.ensures ∙ set_put s.key word s.first (g.L.Listed.items s.rest)) c.put_into.ensures
