use Rattle.std.proofs.lemmas.List.Elements.{recursion_from_All}
use Rattle.acl_platform.specs.declared.filters.Filter.{Filter}
use Rattle.acl_platform.specs.Limits.{filter_limit}
use Rattle.acl_platform.specs.Platforms.{IsAccepted}
use Rattle.acl_platform.proofs.Sections.{all-decide, all-spelled}
use Rattle.acl_platform.proofs.writing.write_all.Goals as goal

pub returns-clause-spelled : goal.returns-clause-spelled
returns-clause-spelled g c =
    let p = g.P.Platform in
    let l = g.P.Language.Language in
    let accepted : Filter → Type 0 = IsAccepted (p.handles c.args.platform.now) (λ f. filter_limit g.P.RuleLimits.limit (p.count f) f) in
    all-spelled accepted l.is_section l.names l.rows (p.section c.args.platform.now) (c.a_section_is_spelled.ensures c.args.platform.now) c.args.filters.now
    (recursion_from_All accepted c.args.filters.now c.requires.accepted) c.requires.names_differ

pub returns-clause-decides : goal.returns-clause-decides
returns-clause-decides g c =
    let p = g.P.Platform in
    let accepted : Filter → Type 0 = IsAccepted (p.handles c.args.platform.now) (λ f. filter_limit g.P.RuleLimits.limit (p.count f) f) in
    all-decide accepted g.P.Language.Language.outcome (p.section c.args.platform.now) (c.a_section_decides.ensures c.args.platform.now) c.args.filters.now
    (recursion_from_All accepted c.args.filters.now c.requires.accepted)

pub put_sections-requires-clause-sound : goal.put_sections-requires-clause-sound
put_sections-requires-clause-sound g c = λ k d h. (c.requires.accepted k d h).sound
