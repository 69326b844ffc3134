use Rattle.std.proofs.Common.{◌∷◌, [], ◌++◌, List, flat_map, ap}
use Rattle.acl_rows.specs.Rows.{Row, text_of_rows}
use Rattle.acl_rows.proofs.PutLaws.{retold}
use Rattle.ipt_lang.specs.declared.documents.Chain.{Chain}
use Rattle.ipr_lang.specs.Texts.{chain_rows, commit_row, declared_rows, head_rows, section_rows}
use Rattle.ipr_lang.proofs.restore_rows.RestoredRows.put_rows.Goals as goal

pub returns : goal.returns
unfolding section_rows
returns g c =
    let s = c.args.self.now.section.now in
    let rows : List Chain → List Row = λ chains. head_rows s.hook s.family s.accept
    ++ (flat_map (λ (x : Chain). declared_rows s.hook x.name) chains ++ (flat_map (chain_rows s.hook s.family) chains ++ commit_row ∷ [])) in
    retold (ap (λ chains. text_of_rows (rows chains)) c.as_slice-chains.ensures) c.put_rows.ensures
