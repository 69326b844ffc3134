use Rattle.std.proofs.Common.{◌≡◌, subst, take}
use Rattle.std.specs.List.{position}
use Rattle.acl_shade.specs.ComputableShading.{shades}
use Rattle.acl_shade.proofs.PlaceLaws.{place-is, place-none, place-some}
use Rattle.acl_shade.proofs.shading.shaded_by.Goals as goal

pub returns-clause-some : goal.returns-clause-some
returns-clause-some c =
    let a = c.args in
    let j = c.index-terms-place in
    place-some a.targets.now a.today a.terms.now a.place j.result c.requires c.first_shading.result
    (subst (λ t. c.first_shading.result ≡ position (λ i. shades a.targets.now a.today i t) (take a.place a.terms.now))
    j.is c.first_shading.ensures)

pub returns-clause-none : goal.returns-clause-none
returns-clause-none c =
    let a = c.args in
    let j = c.index-terms-place in
    place-none a.targets.now a.today a.terms.now a.place j.result c.requires c.first_shading.result
    (subst (λ t. c.first_shading.result ≡ position (λ i. shades a.targets.now a.today i t) (take a.place a.terms.now))
    j.is c.first_shading.ensures)

pub returns-clause-computed : goal.returns-clause-computed
returns-clause-computed c =
    let a = c.args in
    let j = c.index-terms-place in
    place-is a.targets.now a.today a.terms.now a.place j.result c.requires c.first_shading.result
    (subst (λ t. c.first_shading.result ≡ position (λ i. shades a.targets.now a.today i t) (take a.place a.terms.now))
    j.is c.first_shading.ensures)
