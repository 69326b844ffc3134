use Rattle.std.proofs.Common.{◌≡◌, List, None, ap, subst, ◌∙◌}
use Rattle.acl_naming.specs.Definitions.{Definition, Naming}
use Rattle.acl_naming.specs.Checking.{undefined_of, HasNoCycle}
use Rattle.acl_naming.proofs.bases.check_base.Goals as goal

pub returns-clause-exact : goal.returns-clause-exact
returns-clause-exact c =
    let networks = c.in_ok-networks.networks in
    let services = c.in_ok-services.services in
    let old = c.base.inside in
    subst (λ (n : Naming). (undefined_of n ≡ None) × HasNoCycle n.networks × HasNoCycle n.services)
    (ap (λ (ds : List Definition). record { networks = ds; services = services }) c.in_ok-networks.ensures
    ∙ ap (λ (ds : List Definition). record { networks = old.networks; services = ds }) c.in_ok-services.ensures
    ∙ c.base.view_is)
    c.in_ok-check_tables.ensures
