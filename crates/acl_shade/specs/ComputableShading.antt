-- Shading as a function, which a law equates with the relation of `Shading`; and a block without its shaded terms.
use Rattle.std.specs.Prelude.{◌≡◌, ◌↔◌, ℕ, ◌+◌, ◌-◌, min, max, Bool, true, false, not, ◌&&◌, ◌||◌, nat_le, if◌then◌else◌, List, [], ◌∷◌, ◌++◌, take, Option, slice_get}
use Rattle.std.specs.List.{list_all, list_any, position}
use Rattle.std.specs.Option.{option_and_then}
use Rattle.acl_packet.specs.declared.addresses.Family.{Family}
use Rattle.acl_packet.specs.declared.addresses.Family.TheVariants.{V4, V6}
use Rattle.acl_packet.specs.declared.packet_fields.Field.{Field}
use Rattle.acl_packet.specs.declared.packet_fields.Field.TheVariants.{SourcePort, DestinationPort}
use Rattle.acl_host.specs.declared.days.Day.{Day}
use Rattle.acl_sets.specs.declared.sets.Range.{Range}
use Rattle.acl_sets.specs.ComputableSets.{all_covered, covers, is_all}
use Rattle.acl_sets.specs.Ranges.{Numbers}
use Rattle.acl_target.specs.declared.targets.Target.{Target}
use Rattle.acl_terms.specs.declared.options.Opt.{Opt}
use Rattle.acl_terms.specs.declared.options.Opt.TheVariants.{Plain, Established, TcpEstablished, TcpInitial, Rst}
use Rattle.acl_terms.specs.declared.terms.Term.{Term}
use Rattle.acl_packet.specs.Packets.{foreign_of, icmp_fields}
use Rattle.acl_terms.specs.Resolved.{destination_in, either_in, is_empty_in, is_term_live, set_in, source_in}
use Rattle.acl_shade.specs.Shading.{Shades}

-- ---- ports, fields of ICMP and options

abbrev pub lies_within : Numbers → Numbers → Bool
lies_within s other = all_covered s.ranges other.ranges

abbrev pub some_within : List Numbers → Numbers → Bool
some_within sets other = list_any (λ s. lies_within s other) sets

-- The numbers of a field that the term j has lie within those of the term i.
abbrev pub field_within : Term → Term → Field → Bool
field_within i j field = lies_within (set_in field j) (set_in field i)

-- The ports do: to which, from which, and of either.
abbrev pub ports_within : Term → Term → Bool
ports_within i j = field_within i j DestinationPort && field_within i j SourcePort
    && some_within (j.ports ∷ j.sports ∷ j.dports ∷ []) i.ports

-- The ports and the fields of ICMP do.
abbrev pub numbers_within : Term → Term → Bool
numbers_within i j = ports_within i j && list_all (field_within i j) icmp_fields

-- The one option asks for nothing, or for what the other asks for. The flags say whether a destination port is named.
abbrev pub option_covers : Opt → Bool → Opt → Bool → Bool
option_covers Plain named other other_named = true
option_covers Established named Established other_named = named || not other_named
option_covers TcpEstablished named TcpEstablished other_named = true
option_covers TcpInitial named TcpInitial other_named = true
option_covers Rst named Rst other_named = true
option_covers option named other other_named = false

-- ---- addresses and protocols

-- The numbers of the range, but for the number k, are in the set: those below k, and those above it.
abbrev pub has_below : ℕ → List Range → Range → Bool
has_below k rs r = nat_le k r.low || covers rs r.low (min r.high (k - 1))

abbrev pub has_above : ℕ → List Range → Range → Bool
has_above k rs r = nat_le r.high k || covers rs (max r.low (k + 1)) r.high

abbrev pub has_others : ℕ → List Range → Range → Bool
has_others k rs r = has_below k rs r && has_above k rs r

-- The protocols of the family: all take in all others. Some take in no more than others that are named, and of those
-- the other family's ICMP is not asked.
abbrev pub protocols_within : Family → Term → Term → Bool
protocols_within f i j = is_all i.protos
    || (not (is_all j.protos) && list_all (has_others (foreign_of f) i.protos.ranges) j.protos.ranges)

-- The addresses of the term j in the family lie within those of i.
abbrev pub addresses_within : Family → Term → Term → Bool
addresses_within f i j = lies_within (source_in f j) (source_in f i)
    && lies_within (destination_in f j) (destination_in f i)
    && some_within (either_in f j ∷ source_in f j ∷ destination_in f j ∷ []) (either_in f i)

-- What the term j has in the family lies within what i has there.
abbrev pub lies_within_in : Family → Term → Term → Bool
lies_within_in f i j = addresses_within f i j && protocols_within f i j

abbrev pub fits_in : Family → Term → Term → Bool
fits_in f i j = is_empty_in f j || lies_within_in f i j

-- So it is in both families, and the term j is not empty in one of them.
abbrev pub lies_within_in_each : Term → Term → Bool
lies_within_in_each i j =
    not (is_empty_in V4 j && is_empty_in V6 j) && (fits_in V4 i j && fits_in V6 i j)

-- ---- life

abbrev pub is_live_where : List Target → Day → Term → Term → Bool
is_live_where targets today i j = list_any (λ g. is_term_live j g.kind today) targets
    && list_all (λ g. not (is_term_live j g.kind today) || is_term_live i g.kind today) targets

-- ---- shading

-- The term i shades the later term j, in a block with these targets.
unfoldable pub shades : List Target → Day → Term → Term → Bool
shades targets today i j =
    numbers_within i j && option_covers i.option i.dport_named j.option j.dport_named
    && (lies_within_in_each i j && is_live_where targets today i j)

-- The place of the first earlier term of the block that shades the one at this place.
abbrev pub shaded_by : List Target → Day → List Term → ℕ → Option ℕ
shaded_by targets today terms place =
    option_and_then (λ j. position (λ i. shades targets today i j) (take place terms)) (slice_get terms place)

-- The term that stands there.
abbrev pub shading_term : List Target → Day → List Term → ℕ → Option Term
shading_term targets today terms place =
    option_and_then (λ k. slice_get terms k) (shaded_by targets today terms place)

-- The function says what the relation says.
abbrev pub ShadingIsComputed : Type 0
ShadingIsComputed = (targets : List Target) (today : Day) (i j : Term)
    → (shades targets today i j ≡ true) ↔ Shades targets today i j

-- ---- a block without its shaded terms

-- One of the earlier terms shades the term.
abbrev pub is_shaded : List Target → Day → List Term → Term → Bool
is_shaded targets today earlier j = list_any (λ i. shades targets today i j) earlier

-- Of things that stand for terms behind earlier ones, those whose term no earlier one shades.
abbrev pub unshaded_behind : {X : Type 0} → (X → Term) → List Target → Day → List Term → List X → List X
unshaded_behind term_of targets today earlier [] = []
unshaded_behind term_of targets today earlier (x ∷ xs) =
    (if is_shaded targets today earlier (term_of x) then [] else x ∷ [])
    ++ unshaded_behind term_of targets today (earlier ++ term_of x ∷ []) xs

-- All shaded terms of a block are taken out at once.
abbrev pub unshaded : List Target → Day → List Term → List Term
unshaded targets today terms = unshaded_behind (λ t. t) targets today [] terms
