use Rattle.acl_rows.proofs.JoinLaws.{nothing_is_spelled}
use Rattle.acl_rows.proofs.laws.the_empty_text_has_no_section.Goals as goal

pub returns : goal.returns
returns g c =
    let l = g.L.Language in
    nothing_is_spelled l.is_section l.names l.rows
