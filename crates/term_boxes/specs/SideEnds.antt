-- Where the sides of boxes end: just where sets of the term do, or at a few numbers besides. So who searches the boxes
-- along a coordinate need look at no other numbers.
use Rattle.std.specs.Prelude.{◌≡◌, ℕ, ◌+◌, ◌<◌, Bool, true, false, List, [], ◌∷◌}
use Rattle.std.specs.List.{AllByRecursion}
use Rattle.acl_packet.specs.declared.addresses.Family.{Family}
use Rattle.acl_packet.specs.declared.addresses.Family.TheVariants.{V4, V6}
use Rattle.acl_packet.specs.Addresses.{top_address}
use Rattle.acl_packet.specs.Packets.{foreign_of}
use Rattle.acl_sets.specs.Ranges.{Numbers, holds}
use Rattle.acl_terms.specs.declared.options.Mode.{Mode}
use Rattle.acl_terms.specs.declared.options.Mode.TheVariants.{Stateful, Stateless}
use Rattle.acl_terms.specs.declared.options.Opt.{Opt}
use Rattle.acl_terms.specs.declared.options.Opt.TheVariants.{Plain}
use Rattle.acl_terms.specs.declared.terms.Term.{Term}
use Rattle.acl_terms.specs.Resolved.{destination_in, either_in, source_in}
use Rattle.term_boxes.specs.declared.boxes.PacketBox.{PacketBox}
use Rattle.term_boxes.specs.Bars.{bars}
use Rattle.term_boxes.specs.TermBoxes.{boxes_of, failing_boxes}

-- ---- sets

-- Each run of numbers of the set ends at the top, or just before a number that passes the test.
abbrev pub EndsBefore : (ℕ → Bool) → ℕ → Numbers → Type 0
EndsBefore test top s = (x : ℕ) → x < top → holds s.ranges x ≡ true → holds s.ranges (x + 1) ≡ false
    → test (x + 1) ≡ true

-- Each run begins at 0, or at a number that passes the test.
abbrev pub BeginsAt : (ℕ → Bool) → Numbers → Type 0
BeginsAt test s = (x : ℕ) → holds s.ranges x ≡ false → holds s.ranges (x + 1) ≡ true → test (x + 1) ≡ true

abbrev pub AllPass : (ℕ → Bool) → List ℕ → Type 0
AllPass test ns = AllByRecursion (λ n. test n ≡ true) ns

-- ---- boxes

-- A test for the numbers of each coordinate.
pub record Tests : Type 0 where
  pub sources : ℕ → Bool
  pub destinations : ℕ → Bool
  pub protocols : ℕ → Bool
  pub source_ports : ℕ → Bool
  pub destination_ports : ℕ → Bool
  pub types : ℕ → Bool
  pub codes : ℕ → Bool
  pub flags : ℕ → Bool
  pub connections : ℕ → Bool

-- Each side of the box ends at its top, or just before numbers that pass its test.
pub record SidesEnd (f : Family) (tests : Tests) (b : PacketBox) : Type 0 where
  pub sources : EndsBefore tests.sources (top_address f) b.sources
  pub destinations : EndsBefore tests.destinations (top_address f) b.destinations
  pub protocols : EndsBefore tests.protocols 255 b.protocols
  pub source_ports : EndsBefore tests.source_ports 65535 b.source_ports
  pub destination_ports : EndsBefore tests.destination_ports 65535 b.destination_ports
  pub types : EndsBefore tests.types 255 b.types
  pub codes : EndsBefore tests.codes 255 b.codes
  pub flags : EndsBefore tests.flags 63 b.flags
  pub connections : EndsBefore tests.connections 3 b.connections

-- ---- terms

abbrev pub is_plain : Opt → Bool
is_plain Plain = true
is_plain _ = false

abbrev pub is_stateful : Mode → Bool
is_stateful Stateful = true
is_stateful Stateless = false

-- The tests pass the numbers just behind the ends of a term's sets, and those just behind what its option asks for.
pub record PassEnds (f : Family) (tests : Tests) (mode : Mode) (t : Term) : Type 0 where
  pub sources : EndsBefore tests.sources (top_address f) (source_in f t)
  pub destinations : EndsBefore tests.destinations (top_address f) (destination_in f t)
  pub either_sources : EndsBefore tests.sources (top_address f) (either_in f t)
  pub either_destinations : EndsBefore tests.destinations (top_address f) (either_in f t)
  pub protocols : EndsBefore tests.protocols 255 t.protos
  pub named_protocols : AllPass tests.protocols (foreign_of f ∷ 6 ∷ 7 ∷ [])
  pub source_ports : EndsBefore tests.source_ports 65535 t.sports
  pub destination_ports : EndsBefore tests.destination_ports 65535 t.dports
  pub either_source_ports : EndsBefore tests.source_ports 65535 t.ports
  pub either_destination_ports : EndsBefore tests.destination_ports 65535 t.ports
  pub client_ports : tests.destination_ports 1024 ≡ true
  pub types : EndsBefore tests.types 255 t.itypes
  pub codes : EndsBefore tests.codes 255 t.icodes
  pub flags : is_plain t.option ≡ false → AllPass tests.flags (8 ∷ 16 ∷ 24 ∷ 32 ∷ 40 ∷ 48 ∷ 56 ∷ [])
  pub connections : is_stateful mode ≡ true → tests.connections 2 ≡ true

-- The numbers too at which what is asked of either side begins.
pub record PassAll (f : Family) (tests : Tests) (mode : Mode) (t : Term) : Type 0 where
  pub ends : PassEnds f tests mode t
  pub sources : BeginsAt tests.sources (either_in f t)
  pub destinations : BeginsAt tests.destinations (either_in f t)
  pub source_ports : BeginsAt tests.source_ports t.ports
  pub destination_ports : BeginsAt tests.destination_ports t.ports

-- The numbers just behind the protocols of bars.
abbrev pub bar_ends : Family → List ℕ
bar_ends V4 = 1 ∷ 6 ∷ 17 ∷ 132 ∷ []
bar_ends V6 = 1 ∷ 6 ∷ 17 ∷ 45 ∷ 52 ∷ 58 ∷ 61 ∷ 132 ∷ 136 ∷ 141 ∷ []

abbrev pub TermsEndWithSets : Type 0
TermsEndWithSets = (f : Family) (tests : Tests) (mode : Mode) (t : Term) → PassEnds f tests mode t
    → AllByRecursion (SidesEnd f tests) (boxes_of f mode t)

abbrev pub FailuresEndWithSets : Type 0
FailuresEndWithSets = (f : Family) (tests : Tests) (mode : Mode) (t : Term) → PassAll f tests mode t
    → AllByRecursion (SidesEnd f tests) (failing_boxes f mode t)

abbrev pub BarsEnd : Type 0
BarsEnd = (f : Family) (tests : Tests) → AllPass tests.protocols (bar_ends f)
    → AllByRecursion (SidesEnd f tests) (bars f)
