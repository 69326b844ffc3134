-- A resolved term: its fields, when it matches, when it is empty in a family, and when it is live.
use Rattle.std.specs.Prelude.{◌≡◌, ◌⊎◌, ℕ, Bool, true, false, not, ◌&&◌, ◌||◌, ◌==◌, List, [], ◌∷◌, length, map, flat_map, Contains, if◌then◌else◌, Option, None, Some, Result, Ok, Err}
use Rattle.std.specs.List.{list_all, list_any}
use Rattle.std.specs.Int.Signed.{lt_z}
use Rattle.acl_packet.specs.declared.addresses.Family.{Family}
use Rattle.acl_packet.specs.declared.addresses.Family.TheVariants.{V4, V6}
use Rattle.acl_packet.specs.declared.packet_fields.Field.{Field}
use Rattle.acl_packet.specs.declared.packet_fields.Field.TheVariants.{Protocol}
use Rattle.acl_packet.specs.declared.packets.Packet.{Packet}
use Rattle.acl_text.specs.declared.faults.Refusal.{Refusal}
use Rattle.acl_text.specs.declared.faults.Refusal.TheVariants as refusals
use Rattle.acl_host.specs.declared.days.Day.{Day}
use Rattle.acl_sets.specs.declared.sets.Range.{Range}
use Rattle.acl_sets.specs.Ranges.{Numbers, holds}
use Rattle.acl_target.specs.declared.targets.Kind.{Kind}
use Rattle.acl_policy.specs.RawTerms.{RawTerm}
use Rattle.acl_naming.specs.Definitions.{Naming}
use Rattle.acl_terms.specs.declared.options.Mode.{Mode}
use Rattle.acl_terms.specs.declared.sides.Side.{Side}
use Rattle.acl_terms.specs.declared.sides.Side.TheVariants.{Whole, Source, Destination}
use Rattle.acl_terms.specs.declared.sides.SidePair.{SidePair}
use Rattle.acl_terms.specs.declared.terms.Term.{Term}
use Rattle.acl_terms.specs.Living.{IsUnexpired, allows, has_platform, platforms_of, some_platforms}
use Rattle.acl_terms.specs.Matching.{AnyOf, is_written}
use Rattle.acl_packet.specs.Packets.{fields, foreign_of, number_of}
use Rattle.acl_terms.specs.Options.{option_of, passes, verdict_of}
use Rattle.acl_terms.specs.Sets.{AreSetsOf, Sets, by_field}
use Rattle.acl_sets.specs.ComputableSets.{is_all, shared_all}
use Rattle.acl_text.specs.Notes.{note_of}

-- The term's set of a field.
abbrev pub set_in : Field → Term → Numbers
set_in field t = by_field t.protos t.sports t.dports t.itypes t.icodes field

abbrev pub sets_in : Term → Sets
sets_in t = record {
  src4 = t.src4;
  src6 = t.src6;
  dst4 = t.dst4;
  dst6 = t.dst6;
  addr4 = t.addr4;
  addr6 = t.addr6;
  numbers = λ field. set_in field t;
  ports = t.ports;
}

-- The other fields are those of the term as it is written.
pub record AreFieldsOf (raw : RawTerm) (t : Term) : Type 0 where
  pub name : t.name ≡ raw.name.text
  pub place : t.place ≡ raw.name.place
  pub note : t.note ≡ note_of raw.comments
  pub addr_named : t.addr_named ≡ is_written raw.addresses
  pub dport_named : t.dport_named ≡ is_written raw.destination_ports
  pub port_named : t.port_named ≡ is_written raw.ports
  pub option : t.option ≡ option_of raw.options
  pub verdict : t.verdict ≡ verdict_of raw.action.text
  pub log : t.log ≡ raw.logging
  pub expires : t.expires ≡ raw.expires
  pub «only» : t.only ≡ some_platforms raw.platforms
  pub never : t.never ≡ platforms_of raw.not_platforms

-- The term is the one that the written term stands for.
pub record IsResolved (n : Naming) (raw : RawTerm) (t : Term) : Type 0 where
  pub sets : AreSetsOf n raw (sets_in t)
  pub fields : AreFieldsOf raw t

-- The call gives a value, or wants memory.
abbrev pub GivesValue : {X : Type 0} → Result X Refusal → Type 0
GivesValue (Ok x) = Unit {0}
GivesValue (Err (refusals.Slip s)) = ⊥
GivesValue (Err refusals.Memory) = Unit {0}

-- ---- match

abbrev pub source_in : Family → Term → Numbers
source_in V4 t = t.src4
source_in V6 t = t.src6

abbrev pub destination_in : Family → Term → Numbers
destination_in V4 t = t.dst4
destination_in V6 t = t.dst6

-- The addresses of which a packet has one, as its source or its destination.
abbrev pub either_in : Family → Term → Numbers
either_in V4 t = t.addr4
either_in V6 t = t.addr6

abbrev pub holds_either : Numbers → ℕ → ℕ → Bool
holds_either s x y = holds s.ranges x || holds s.ranges y

-- The protocols of the family: where some are named, those without the other family's ICMP.
abbrev pub has_protocol : Family → Term → ℕ → Bool
has_protocol f t n = holds t.protos.ranges n && (is_all t.protos || not (n == foreign_of f))

-- The numbers of a field that the term takes from packets of the family.
abbrev pub has_number : Family → Term → Field → ℕ → Bool
has_number f t Protocol n = has_protocol f t n
has_number f t field n = holds (set_in field t).ranges n

abbrev pub numbers_match : Family → Term → Packet → Bool
numbers_match f t p = list_all (λ field. has_number f t field (number_of field p)) fields

abbrev pub addresses_match : Family → Term → Packet → Bool
addresses_match f t p = holds (source_in f t).ranges p.src
    && (holds (destination_in f t).ranges p.dst && holds_either (either_in f t) p.src p.dst)

-- The same with the family apart from the packet.
abbrev pub matches_in : Family → Mode → Term → Packet → Bool
matches_in f mode t p = addresses_match f t p && (numbers_match f t p
    && (holds_either t.ports p.sport p.dport && passes t.option mode t.dport_named p))

unfoldable pub matches : Mode → Term → Packet → Bool
matches mode t p = matches_in p.family mode t p

-- ---- sides

-- What is asked of either side of a packet is asked of its source or of its destination. Where nothing is, the packet
-- is taken as a whole.
abbrev pub sides_of : Bool → List Side
sides_of named = if named then Source ∷ Destination ∷ [] else Whole ∷ []

-- Each side for addresses with each side for ports.
abbrev pub side_pairs : Bool → Bool → List SidePair
side_pairs addr_named port_named =
    flat_map (λ a. map (λ p. record { addresses = a; ports = p }) (sides_of port_named)) (sides_of addr_named)

abbrev pub pairs_of : Term → List SidePair
pairs_of t = side_pairs t.addr_named t.port_named

-- The numbers that are in both sets.
abbrev pub in_both : Numbers → Numbers → Numbers
in_both s either = record { top = s.top; ranges = shared_all either.ranges s.ranges }

-- The set of a source, cut with what is asked of either side where the source is that side.
abbrev pub source_cut : Side → Numbers → Numbers → Numbers
source_cut Whole s either = s
source_cut Source s either = in_both s either
source_cut Destination s either = s

-- The same for a destination.
abbrev pub destination_cut : Side → Numbers → Numbers → Numbers
destination_cut Whole s either = s
destination_cut Source s either = s
destination_cut Destination s either = in_both s either

abbrev pub sources_on : Side → Family → Term → Numbers
sources_on side f t = source_cut side (source_in f t) (either_in f t)

abbrev pub destinations_on : Side → Family → Term → Numbers
destinations_on side f t = destination_cut side (destination_in f t) (either_in f t)

abbrev pub sports_on : Side → Term → Numbers
sports_on side t = source_cut side t.sports t.ports

abbrev pub dports_on : Side → Term → Numbers
dports_on side t = destination_cut side t.dports t.ports

-- ---- emptiness

-- The range is just the number.
abbrev pub is_just : ℕ → Range → Bool
is_just k r = r.low == k && r.high == k

-- No protocol is left in the family.
abbrev pub has_no_protocol : Family → Term → Bool
has_no_protocol f t = not (is_all t.protos) && list_all (is_just (foreign_of f)) t.protos.ranges

abbrev pub has_none : Numbers → Bool
has_none s = length s.ranges == 0

-- The addresses and the ports of a pair of sides, in a family.
abbrev pub pair_sets : Family → Term → SidePair → List Numbers
pair_sets f t pair = sources_on pair.addresses f t ∷ destinations_on pair.addresses f t
    ∷ sports_on pair.ports t ∷ dports_on pair.ports t ∷ []

abbrev pub is_pair_empty : Family → Term → SidePair → Bool
is_pair_empty f t pair = list_any has_none (pair_sets f t pair) || has_no_protocol f t

unfoldable pub is_empty_in : Family → Term → Bool
is_empty_in f t = list_all (is_pair_empty f t) (pairs_of t)

-- No number is in the set.
abbrev pub HasNone : Numbers → Type 0
HasNone s = (x : ℕ) → holds s.ranges x ≡ false

-- One of the pair's sets has no number, or no protocol is left in the family: the sets alone keep each packet of the
-- family out.
abbrev pub IsPairEmpty : Family → Term → SidePair → Type 0
IsPairEmpty f t pair = AnyOf HasNone (pair_sets f t pair) ⊎ ((x : ℕ) → has_protocol f t x ≡ false)

-- So it is with each pair of the term.
abbrev pub IsEmptyIn : Family → Term → Type 0
IsEmptyIn f t = (pair : SidePair) → Contains (pairs_of t) pair → IsPairEmpty f t pair

-- ---- life

pub record IsTermLive (t : Term) (kind : Kind) (today : Day) : Type 0 where
  pub unexpired : IsUnexpired t.expires today
  pub wanted : allows t.only kind ≡ true
  pub not_excluded : has_platform t.never kind ≡ false

abbrev pub is_unexpired : Option Day → Day → Bool
is_unexpired None today = true
is_unexpired (Some day) today = lt_z today.number day.number

unfoldable pub is_term_live : Term → Kind → Day → Bool
is_term_live t kind today =
    is_unexpired t.expires today && allows t.only kind && not (has_platform t.never kind)
