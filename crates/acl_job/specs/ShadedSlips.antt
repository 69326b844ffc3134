-- The first term of a policy that an earlier term of its block shades, as a slip.
use Rattle.std.specs.Prelude.{ℕ, Bool, if◌then◌else◌, List, zip, Option, None, option_map}
use Rattle.std.specs.List.{enumerate_from}
use Rattle.acl_text.specs.declared.faults.Code.TheVariants.{Shaded}
use Rattle.acl_text.specs.declared.faults.Slip.{Slip}
use Rattle.acl_text.specs.Refusals.{first_in, slip}
use Rattle.acl_host.specs.declared.days.Day.{Day}
use Rattle.acl_target.specs.declared.targets.Target.{Target}
use Rattle.acl_terms.specs.declared.terms.Term.{Term}
use Rattle.acl_shade.specs.ComputableShading.{shading_term}
use Rattle.acl_load.specs.declared.policy_loading.Loaded.{Loaded}
use Rattle.acl_load.specs.declared.resolved_policies.ResolvedPolicy.{ResolvedPolicy}
use Rattle.acl_load.specs.ResolvedPolicies.{resolved_of}

-- It stands at the shaded term, and its word is the name of the term that shades it.
abbrev pub shaded_slip : Term → Term → Slip
shaded_slip t other = slip Shaded t.place other.name

abbrev pub slip_at : List Target → Day → List Term → ℕ × Term → Option Slip
slip_at targets today terms (place, t) = option_map (shaded_slip t) (shading_term targets today terms place)

abbrev pub terms_shaded : List Target → Day → List Term → Option Slip
terms_shaded targets today terms = first_in (slip_at targets today terms) (enumerate_from 0 terms)

-- Of a block its targets and its terms are given.
abbrev pub block_shaded : Day → List Target × List Term → Option Slip
block_shaded today b = terms_shaded b.0 today b.1

-- Block by block.
abbrev pub policy_shaded : Day → ResolvedPolicy → Option Slip
policy_shaded today policy = first_in (block_shaded today) (zip policy.targets policy.terms)

-- Only where it is asked for, a shaded term is a slip.
abbrev pub asked_shaded : Bool → Day → Loaded → Option Slip
asked_shaded asked today loaded = if asked then policy_shaded today (resolved_of loaded) else None
