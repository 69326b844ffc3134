use Rattle.std.proofs.Common.{ap, is_some, ◌∙◌}
use Rattle.acl_rows.proofs.OutcomeLaws.{some-at}
use Rattle.acl_rows.proofs.languages.outcome.Goals as goal

pub returns-clause-some : goal.returns-clause-some
returns-clause-some g c =
    let l = g.L.Language in
    ap is_some c.outcome_of.ensures
    ∙ some-at l.outcome l.has_family c.a_section_decides_its_families.ensures c.args.doc.now c.args.which c.args.packet.now
