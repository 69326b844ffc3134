-- The least list of a set of addresses as it can be computed: by halving a block of addresses.
-- What is to be believed is `IsLeastList`, which the call promises besides. A set has one least
-- list, so a reader needs this value only where he computes with it, or states a function of it.
use Rattle.std.specs.Prelude.{ℕ, zero, suc, ◌+◌, ◌-◌, ◌^◌, if◌then◌else◌, List, [], ◌∷◌, ◌++◌}
use Rattle.acl_packet.specs.declared.addresses.Family.{Family}
use Rattle.acl_packet.specs.declared.addresses.Prefix.{Prefix}
use Rattle.acl_packet.specs.Addresses.{width_of}
use Rattle.acl_sets.specs.declared.sets.Range.{Range}
use Rattle.acl_sets.specs.ComputableSets.{covers, meets}

-- The block of 2 ^ free addresses from the first one on, as a prefix.
abbrev pub block : Family → ℕ → ℕ → Prefix
block f free first = record { family = f; first = first; len = width_of f - free }

-- The last address of that block.
abbrev pub last_of : ℕ → ℕ → ℕ
last_of free first = first + (2 ^ free - 1)

-- The maximal prefixes of a set within a block, where no larger block with its first address lies
-- in the set: the block itself if the set has all of it, none if the set has none of it, and
-- otherwise those of its two halves.
unfoldable pub halves : Family → List Range → ℕ → ℕ → List Prefix
halves f rs zero first =
    if covers rs first (last_of zero first) then block f zero first ∷ [] else []
halves f rs (suc free) first =
    if covers rs first (last_of (suc free) first) then block f (suc free) first ∷ []
    else if meets rs first (last_of (suc free) first)
    then halves f rs free first ++ halves f rs free (first + 2 ^ free) else []

-- The least list of a set, by halving the whole space of addresses.
abbrev pub halved_space : Family → List Range → List Prefix
halved_space f rs = halves f rs (width_of f) 0
