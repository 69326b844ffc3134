use Rattle.acl_rows.proofs.JoinLaws.{joined_documents}
use Rattle.acl_rows.proofs.laws.joined_texts_spell_joined_documents.Goals as goal

pub returns : goal.returns
returns g c =
    let l = g.L.Language in
    joined_documents l.is_section l.names l.rows
