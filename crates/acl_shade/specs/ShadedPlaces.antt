-- A whole block at once: for each term of it the place of the first one that shades it.
use Rattle.std.specs.Prelude.{◌≡◌, ℕ, ◌<◌, List, length, slice_index_or, Option, None}
use Rattle.acl_host.specs.declared.days.Day.{Day}
use Rattle.acl_target.specs.declared.targets.Target.{Target}
use Rattle.acl_terms.specs.declared.terms.Term.{Term}
use Rattle.acl_shade.specs.ComputableShading.{shaded_by}

-- The list says of each place of the block what `shaded_by` says there.
pub record AreShadedPlaces (targets : List Target) (today : Day) (terms : List Term) (places : List (Option ℕ)) : Type 0 where
  pub size : length places ≡ length terms
  pub each : (place : ℕ) → place < length terms
      → slice_index_or places place None ≡ shaded_by targets today terms place
