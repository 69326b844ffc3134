-- The rows of the choice of one range, and what the combinations of a rule have behind the addresses.
use Rattle.std.specs.Prelude.{ℕ, List, Option, Some}
use Rattle.acl_packet.specs.declared.addresses.Prefix.{Prefix}
use Rattle.acl_rows.specs.Rows.{Row}
use Rattle.acl_sets.specs.declared.sets.Range.{Range}
use Rattle.acl_platform.specs.declared.rules.Rule.{Rule}
use Rattle.acl_platform.specs.Choices.{number_choices, pairs, range_choices}
use Rattle.acl_platform.specs.Combinations.{Parts}

abbrev pub range_rows : (Option (ℕ × ℕ) → List Row) → Range → List Row
range_rows rows r = rows (Some (r.low, r.high))

-- Source ports, destination ports, type, and code.
abbrev pub Tail : Type 0
Tail = Option (ℕ × ℕ) × (Option (ℕ × ℕ) × (Option ℕ × Option ℕ))

abbrev pub tails_of : Rule → List Tail
tails_of r = pairs (range_choices r.sports) (pairs (range_choices r.dports)
    (pairs (number_choices r.itypes) (number_choices r.icodes)))

-- A protocol and addresses, with a tail.
abbrev pub with_tail : Tail → Option ℕ × (Prefix × Prefix) → Parts
with_tail tail c = (c.0, (c.1.0, (c.1.1, tail)))
