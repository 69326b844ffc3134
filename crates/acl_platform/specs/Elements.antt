-- What is written of a set, for languages whose conditions list several values: a set that is all is
-- no condition, and has no elements.
use Rattle.std.specs.Prelude.{ℕ, ◌==◌, if◌then◌else◌, List, [], map}
use Rattle.std.specs.List.{list_any}
use Rattle.acl_packet.specs.declared.addresses.Prefix.{Prefix}
use Rattle.acl_sets.specs.declared.sets.Range.{Range}
use Rattle.acl_sets.specs.ComputableSets.{is_all}
use Rattle.acl_sets.specs.Ranges.{Numbers}
use Rattle.acl_platform.specs.Choices.{numbers_of}

abbrev pub range_elements : Numbers → List Range
range_elements s = if is_all s then [] else s.ranges

-- Ports are written as ranges, from a low one to a high one.
abbrev pub port_elements : Numbers → List (ℕ × ℕ)
port_elements s = map (λ r. (r.low, r.high)) (range_elements s)

-- Protocols and types are written one by one.
abbrev pub number_elements : Numbers → List ℕ
number_elements s = numbers_of (range_elements s)

-- A prefix of length 0 is all addresses.
abbrev pub address_elements : List Prefix → List Prefix
address_elements prefixes = if list_any (λ p. p.len == 0) prefixes then [] else prefixes
