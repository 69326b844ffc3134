-- What a term decides on a target: the first packet on a grid of boundary values, or no packet at all. A packet that the
-- term decides can be rounded down to one on the grid, so that no other packet need be looked at.
use Rattle.std.specs.Prelude.{◌≡◌, ◌↔◌, ℕ, ◌+◌, ◌*◌, ◌<◌, Bool, true, false, ◌||◌, ◌==◌, if◌then◌else◌, List, [], ◌∷◌, ◌++◌, length, flat_map, map, take, drop, Contains}
use Rattle.std.specs.List.{filter, list_any}
use Rattle.std.specs.List.Sorted.{IsStrictlyIncreasing}
use Rattle.acl_packet.specs.declared.addresses.Family.{Family}
use Rattle.acl_packet.specs.declared.addresses.Family.TheVariants.{V4, V6}
use Rattle.acl_packet.specs.declared.packet_fields.Field.{Field}
use Rattle.acl_packet.specs.declared.packet_fields.Field.TheVariants.{Protocol, SourcePort, DestinationPort, IcmpType, IcmpCode}
use Rattle.acl_packet.specs.declared.packets.Conn.{Conn}
use Rattle.acl_packet.specs.declared.packets.Conn.TheVariants.{New, Established}
use Rattle.acl_packet.specs.declared.packets.Packet.{Packet}
use Rattle.acl_packet.specs.Addresses.{covers}
use Rattle.acl_packet.specs.Packets.{IsPacket, fields, is_tracked, number_of}
use Rattle.acl_host.specs.declared.days.Day.{Day}
use Rattle.acl_sets.specs.Ranges.{Numbers, holds}
use Rattle.acl_target.specs.declared.targets.Target.{Target}
use Rattle.acl_terms.specs.declared.options.Opt.{Opt}
use Rattle.acl_terms.specs.declared.options.Opt.TheVariants.{Plain}
use Rattle.acl_terms.specs.declared.terms.Term.{Term}
use Rattle.acl_terms.specs.Outcomes.{mode_of}
use Rattle.acl_terms.specs.Resolved.{destination_in, either_in, has_number, is_empty_in, is_term_live, matches, source_in}
use Rattle.acl_dead.specs.Order.{IsBefore}
use Rattle.acl_dead.specs.Runs.{cuts, is_boundary}
use Rattle.acl_dead.specs.declared.decisions.Decided.{Decided}
use Rattle.acl_dead.specs.declared.decisions.Decided.TheVariants as answers

-- ---- the question

-- The term, and those before it that are live on the target.
pub record Question : Type 0 where
  pub target : Target
  pub today : Day
  pub earlier : List Term
  pub term : Term

abbrev pub is_live_on : Target → Day → Term → Bool
is_live_on target today t = is_term_live t target.kind today

-- The packet is decided by the term: the term is live and matches it, and no earlier live term does.
pub record IsDecided (q : Question) (p : Packet) : Type 0 where
  pub live : is_live_on q.target q.today q.term ≡ true
  pub matched : matches (mode_of q.target) q.term p ≡ true
  pub not_earlier : list_any (λ t. matches (mode_of q.target) t p) q.earlier ≡ false

-- It is one of the target's packets, of the families that the target is for.
pub record IsOfTarget (q : Question) (p : Packet) : Type 0 where
  pub packet : IsPacket p
  pub of_family : covers q.target.families p.family ≡ true

-- ---- boundary values

abbrev pub has : Numbers → ℕ → Bool
has s x = holds s.ranges x

-- One of the sets cuts at the number.
abbrev pub any_cuts : {A : Type 0} → (A → ℕ → Bool) → List A → ℕ → Bool
any_cuts has_of ts x = list_any (λ t. cuts (has_of t) x) ts

-- Addresses: the earlier terms cut, and so do the addresses that are asked of either side, those of the term itself too.
abbrev pub address_cuts : (Term → Numbers) → Family → Question → ℕ → Bool
address_cuts set_of f q x = any_cuts (λ t. has (set_of t)) q.earlier x
    || any_cuts (λ t. has (either_in f t)) (q.term ∷ q.earlier) x

abbrev pub is_among : List ℕ → ℕ → Bool
is_among numbers x = list_any (λ n. n == x) numbers

-- The protocols on which a packet's other fields depend, and in IPv6 the numbers that stand for no protocol.
abbrev pub bound_protocols : Family → List ℕ
bound_protocols V4 = 1 ∷ 6 ∷ 17 ∷ 58 ∷ 132 ∷ []
bound_protocols V6 = 1 ∷ 6 ∷ 17 ∷ 58 ∷ 132 ∷ 0 ∷ 43 ∷ 44 ∷ 51 ∷ 59 ∷ 60 ∷ 135 ∷ 139 ∷ 140 ∷ []

-- Each of them is cut off from its neighbours.
abbrev pub protocol_cuts : Family → List ℕ
protocol_cuts f = flat_map (λ c. c ∷ (c + 1) ∷ []) (bound_protocols f)

-- Ports that are asked of either side cut the ports of both.
abbrev pub either_port_cuts : Question → ℕ → Bool
either_port_cuts q x = any_cuts (λ t. has t.ports) (q.term ∷ q.earlier) x

-- What else cuts the numbers of a field; a client of UDP has a port from 1024 on.
abbrev pub other_cuts : Field → Family → Question → ℕ → Bool
other_cuts Protocol f q x = is_among (protocol_cuts f) x
other_cuts SourcePort f q x = either_port_cuts q x
other_cuts DestinationPort f q x = either_port_cuts q x || is_among (1024 ∷ []) x
other_cuts IcmpType f q x = false
other_cuts IcmpCode f q x = false

-- The earlier terms' sets cut, as the numbers are that they take in the family.
abbrev pub field_cuts : Field → Family → Question → ℕ → Bool
field_cuts field f q x = any_cuts (λ t. has_number f t field) q.earlier x || other_cuts field f q x

abbrev pub source_boundary : Family → Question → ℕ → Bool
source_boundary f q = is_boundary (has (source_in f q.term)) (address_cuts (source_in f) f q)

abbrev pub destination_boundary : Family → Question → ℕ → Bool
destination_boundary f q = is_boundary (has (destination_in f q.term)) (address_cuts (destination_in f) f q)

abbrev pub field_boundary : Family → Question → Field → ℕ → Bool
field_boundary f q field = is_boundary (has_number f q.term field) (field_cuts field f q)

abbrev pub asks_option : Opt → Bool
asks_option Plain = false
asks_option _ = true

-- The term or an earlier one has an option.
abbrev pub some_option : Question → Bool
some_option q = list_any (λ t. asks_option t.option) (q.term ∷ q.earlier)

-- The sums of SYN, RST and ACK, where an option may ask for them.
abbrev pub flag_sums : Question → List ℕ
flag_sums q = if some_option q
    then 0 ∷ 2 ∷ 4 ∷ 6 ∷ 16 ∷ 18 ∷ 20 ∷ 22 ∷ []
    else 0 ∷ []

-- The connections that a target tells apart.
abbrev pub connections : Target → List Conn
connections target = if target.stateful then New ∷ Established ∷ [] else New ∷ []

-- ---- the grid

-- A packet on the grid has a boundary value in each place.
pub record IsOnGrid (q : Question) (p : Packet) : Type 0 where
  pub source : source_boundary p.family q p.src ≡ true
  pub destination : destination_boundary p.family q p.dst ≡ true
  pub numbers : (field : Field) → field_boundary p.family q field (number_of field p) ≡ true
  pub flags : Contains (flag_sums q) p.flags
  pub connection : Contains (connections q.target) p.conn

-- So many numbers pass the test: a rising list has exactly these.
abbrev pub IsCount : (ℕ → Bool) → ℕ → Type 0
IsCount test n = (xs : List ℕ) × IsStrictlyIncreasing xs × ((x : ℕ) → Contains xs x ↔ (test x ≡ true))
    × (n ≡ length xs)

-- The product of the counts, and of a last factor.
abbrev pub IsProduct : List (ℕ → Bool) → ℕ → ℕ → Type 0
IsProduct [] last n = n ≡ last
IsProduct (test ∷ tests) last n = (count : ℕ) × (others : ℕ) × IsCount test count × IsProduct tests last others
    × (n ≡ count * others)

-- So many packets has the grid of a family.
abbrev pub IsGridSize : Family → Question → ℕ → Type 0
IsGridSize f q n = IsProduct (source_boundary f q ∷ destination_boundary f q ∷ map (field_boundary f q) fields)
    (length (flag_sums q) * length (connections q.target)) n

abbrev pub most_packets : ℕ
most_packets = 2000000

-- The grid of the family is too large, though the term has packets there.
pub record IsTooLargeIn (q : Question) (f : Family) : Type 0 where
  pub of_target : covers q.target.families f ≡ true
  pub not_empty : is_empty_in f q.term ≡ false
  pub too_many : (n : ℕ) × IsGridSize f q n × (most_packets < n)

-- So it is in some family, and the term is live.
pub record IsTooLarge (q : Question) : Type 0 where
  pub live : is_live_on q.target q.today q.term ≡ true
  pub some : (f : Family) × IsTooLargeIn q f

-- ---- the order of packets

abbrev pub family_place : Family → ℕ
family_place V4 = 0
family_place V6 = 1

-- New comes before Established.
abbrev pub connection_place : Conn → ℕ
connection_place c = if is_tracked c then 1 else 0

-- What packets are ordered by, the first difference telling: IPv4 before IPv6, then source, destination, protocol, source
-- port, destination port, type, code, flags and connection.
abbrev pub order_of : Packet → List ℕ
order_of p = family_place p.family ∷ p.src ∷ p.dst ∷ map (λ field. number_of field p) fields
    ++ p.flags ∷ connection_place p.conn ∷ []

abbrev pub ComesBefore : Packet → Packet → Type 0
ComesBefore p other = IsBefore (order_of p) (order_of other)

-- ---- the answer

-- A packet of the target on the grid, which the term decides.
pub record IsSuch (q : Question) (p : Packet) : Type 0 where
  pub of_target : IsOfTarget q p
  pub on_grid : IsOnGrid q p
  pub decided : IsDecided q p

-- The first such packet.
pub record IsFirst (q : Question) (p : Packet) : Type 0 where
  pub such : IsSuch q p
  pub first : (other : Packet) → IsSuch q other → ComesBefore other p → ⊥

-- No packet of the target is decided by the term, whether it is on the grid or not.
abbrev pub IsDead : Question → Type 0
IsDead q = (p : Packet) → IsOfTarget q p → IsDecided q p → ⊥

abbrev pub Answers : Question → Decided → Type 0
Answers q answers.Undecided = IsTooLarge q
Answers q answers.Dead = (IsTooLarge q → ⊥) × IsDead q
Answers q (answers.Packet p) = (IsTooLarge q → ⊥) × IsFirst q p

-- The question about a term, behind those terms.
abbrev pub question_of : Target → Day → List Term → Term → Question
question_of target today before t = record {
  target = target;
  today = today;
  earlier = filter (is_live_on target today) before;
  term = t;
}

-- The answer for the first term of a list, behind others.
abbrev pub AnswersFirst : Target → Day → List Term → List Term → Decided → Type 0
AnswersFirst target today before [] answer = ⊥
AnswersFirst target today before (t ∷ later) answer =
    Answers (question_of target today before t) answer

-- The answer for the term at a place.
abbrev pub Decides : List Term → Target → Day → ℕ → Decided → Type 0
Decides terms target today place answer =
    AnswersFirst target today (take place terms) (drop place terms) answer

-- A question has one answer.
abbrev pub AnswersAreOne : Type 0
AnswersAreOne = (terms : List Term) (target : Target) (today : Day) (place : ℕ) (a b : Decided)
    → Decides terms target today place a → Decides terms target today place b → a ≡ b
