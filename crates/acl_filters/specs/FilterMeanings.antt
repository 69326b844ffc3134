-- What is asked of a filter, said over the policy alone. No generator is named here.
use Rattle.std.specs.Prelude.{◌≡◌, true, Option, Some}
use Rattle.acl_packet.specs.declared.filtering.Outcome.{Outcome}
use Rattle.acl_packet.specs.declared.packets.Packet.{Packet}
use Rattle.acl_packet.specs.Addresses.{covers}
use Rattle.acl_packet.specs.Packets.{IsPacket}
use Rattle.acl_host.specs.declared.days.Day.{Day}
use Rattle.acl_naming.specs.Definitions.{Naming}
use Rattle.acl_terms.specs.Outcomes.{PolicyDecides, expressed_on}
use Rattle.acl_filters.specs.AskedFilters.{FilterRequest}

-- What decides packets decides those of the target's families as its block of the policy does, as far as the platform
-- can show it.
abbrev pub DecidesAsPolicy : Naming → Day → FilterRequest → (Packet → Option Outcome) → Type 0
DecidesAsPolicy naming today r outcome = (p : Packet) → IsPacket p
    → covers r.target.families p.family ≡ true
    → (o : Outcome) × PolicyDecides naming r.target today r.written p o
    × (outcome p ≡ Some (expressed_on r.target.kind o))
