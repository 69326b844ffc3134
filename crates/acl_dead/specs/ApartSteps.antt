-- Terms that have nothing in common, for private functions alone.
use Rattle.std.specs.Prelude.{Bool, false, Option, Some, None}
use Rattle.std.specs.List.{list_any}
use Rattle.acl_packet.specs.declared.addresses.Family.{Family}
use Rattle.acl_sets.specs.Ranges.{Numbers}
use Rattle.acl_terms.specs.declared.terms.Term.{Term}
use Rattle.acl_terms.specs.Resolved.{has_none, in_both}
use Rattle.acl_dead.specs.declared.coordinates.Coordinate.{Coordinate}
use Rattle.acl_dead.specs.CoordinateSteps.{coordinates, set_along}

abbrev pub apart_sets : Option Numbers → Option Numbers → Bool
apart_sets None other = false
apart_sets (Some s) None = false
apart_sets (Some s) (Some e) = has_none (in_both s e)

abbrev pub apart_along : Coordinate → Family → Term → Term → Bool
apart_along c f t u = apart_sets (set_along c f t) (set_along c f u)

-- No number of some coordinate is in a set of both.
unfoldable pub apart : Family → Term → Term → Bool
apart f t u = list_any (λ c. apart_along c f t u) coordinates
