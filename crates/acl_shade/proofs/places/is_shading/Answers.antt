use Rattle.std.proofs.Common.{sym, ◌∙◌}
use Rattle.std.proofs.lemmas.Bool.{both_ways, false_from_ne_true}
use Rattle.acl_shade.specs.ComputableShading.{shades}
use Rattle.acl_shade.proofs.SiftLaws.{shading-lives}
use Rattle.acl_shade.proofs.places.is_shading.Goals as goal

pub returns-else-is_live_where : goal.returns-else-is_live_where
returns-else-is_live_where c =
    let a = c.args in
    c.if-is_live_where.false ∙ sym (false_from_ne_true (shades a.targets.now a.today a.earlier.now a.term.now)
    (λ h. both_ways c.is_live_where.result c.if-is_live_where.false
    (c.is_live_where.ensures ∙ shading-lives a.targets.now a.today a.earlier.now a.term.now h)))
