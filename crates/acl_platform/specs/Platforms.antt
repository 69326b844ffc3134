-- What a platform owes for the filters that it takes, and what a document of several filters does.
use Rattle.std.specs.Prelude.{◌≡◌, ℕ, Bool, true, Option, None, Some, Result, Ok, Err}
use Rattle.acl_packet.specs.declared.packets.Packet.{Packet}
use Rattle.acl_packet.specs.declared.filtering.Outcome.{Outcome}
use Rattle.acl_packet.specs.Addresses.{covers}
use Rattle.acl_packet.specs.Packets.{IsPacket}
use Rattle.acl_platform.specs.declared.filters.Filter.{Filter}
use Rattle.acl_platform.specs.declared.filters.Limit.{Limit}
use Rattle.acl_platform.specs.Rules.{filter_outcome}
use Rattle.acl_platform.specs.SoundFilters.{IsSound}

-- A filter that meets no limit has its count of entries.
abbrev pub judged : Option Limit → ℕ → Result ℕ Limit
judged None count = Ok count
judged (Some limit) count = Err limit

-- A platform takes the sound filters that it handles and that meet no limit.
pub record IsAccepted (handles : Filter → Bool) (limit : Filter → Option Limit) (f : Filter)
    : Type 0 where
  pub handled : handles f ≡ true
  pub sound : IsSound f
  pub within : limit f ≡ None

-- What decides packets decides those of the filter's families as the filter does.
abbrev pub DecidesAs : Filter → (Packet → Option Outcome) → Type 0
DecidesAs f outcome = (p : Packet) → IsPacket p → covers f.families p.family ≡ true
    → outcome p ≡ Some (filter_outcome f p)
