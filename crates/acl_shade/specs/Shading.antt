-- When an earlier term of a block shades a later one: the earlier one decides each packet that the later one would, on
-- every target, so that the later one can go (Capirca, the option `--shade_check`).
use Rattle.std.specs.Prelude.{◌≡◌, ◌⊎◌, ℕ, ◌<◌, true, false, List, [], ◌∷◌, IsSomeAnd, slice_get, Contains}
use Rattle.acl_packet.specs.declared.addresses.Family.{Family}
use Rattle.acl_packet.specs.declared.addresses.Family.TheVariants.{V4, V6}
use Rattle.acl_packet.specs.declared.packet_fields.Field.{Field}
use Rattle.acl_host.specs.declared.days.Day.{Day}
use Rattle.acl_sets.specs.Ranges.{Numbers, holds}
use Rattle.acl_target.specs.declared.targets.Target.{Target}
use Rattle.acl_terms.specs.declared.options.Opt.{Opt}
use Rattle.acl_terms.specs.declared.options.Opt.TheVariants.{Plain, Established}
use Rattle.acl_terms.specs.declared.terms.Term.{Term}
use Rattle.acl_terms.specs.Matching.{AnyOf}
use Rattle.acl_terms.specs.Resolved.{IsEmptyIn, IsTermLive, destination_in, either_in, has_number, source_in}

-- ---- life

-- The one term is live on each target of the block on which the other is, and the other is live on one at least.
pub record IsLiveWhere (targets : List Target) (today : Day) (i j : Term) : Type 0 where
  pub somewhere : (g : Target) × Contains targets g × IsTermLive j g.kind today
  pub everywhere : (g : Target) → Contains targets g → IsTermLive j g.kind today → IsTermLive i g.kind today

-- ---- sets

-- Every number of the one set is in the other.
abbrev pub LiesWithin : Numbers → Numbers → Type 0
LiesWithin s other = (x : ℕ) → holds s.ranges x ≡ true → holds other.ranges x ≡ true

-- One of the sets lies within the other set.
abbrev pub SomeLiesWithin : List Numbers → Numbers → Type 0
SomeLiesWithin sets other = AnyOf (λ s. LiesWithin s other) sets

-- Of a family, the sources and the destinations of the one term, and its numbers of each field, lie within those of the
-- other. So does what it asks of either address, or its sources, or its destinations, within what the other asks of
-- either.
pub record LiesWithinIn (f : Family) (i j : Term) : Type 0 where
  pub source : LiesWithin (source_in f j) (source_in f i)
  pub destination : LiesWithin (destination_in f j) (destination_in f i)
  pub either : SomeLiesWithin (either_in f j ∷ source_in f j ∷ destination_in f j ∷ []) (either_in f i)
  pub numbers : (field : Field) (n : ℕ) → has_number f j field n ≡ true → has_number f i field n ≡ true

-- So it is in each family in which the term is not empty, and there is such a family. All families are asked, whatever
-- the families of the targets.
pub record LiesWithinInEach (i j : Term) : Type 0 where
  pub some : (IsEmptyIn V4 j × IsEmptyIn V6 j) → ⊥
  pub each : (f : Family) → (IsEmptyIn f j → ⊥) → LiesWithinIn f i j

-- ---- options

-- Where both ask for established connections of UDP too, the port of a client is asked for where no destination port is
-- named: so the one names a destination port, or the other names none.
abbrev pub PortsNamed : Opt → Term → Term → Type 0
PortsNamed Established i j = (i.dport_named ≡ true) ⊎ (j.dport_named ≡ false)
PortsNamed option i j = Unit {0}

-- The one term has no option, or that of the other.
abbrev pub OptionCovers : Term → Term → Type 0
OptionCovers i j = (i.option ≡ Plain) ⊎ ((i.option ≡ j.option) × PortsNamed i.option i j)

-- ---- shading

-- The term i shades the later term j, in a block with these targets.
pub record Shades (targets : List Target) (today : Day) (i j : Term) : Type 0 where
  pub live : IsLiveWhere targets today i j
  pub packets : LiesWithinInEach i j
  pub either_ports : SomeLiesWithin (j.ports ∷ j.sports ∷ j.dports ∷ []) i.ports
  pub option : OptionCovers i j

-- The term at the place k shades the one at the later place.
pub record ShadesAt (targets : List Target) (today : Day) (terms : List Term) (k place : ℕ) : Type 0 where
  pub earlier : k < place
  pub terms_are : IsSomeAnd (slice_get terms k)
      (λ i. IsSomeAnd (slice_get terms place) (Shades targets today i))

-- It is the first one that does.
pub record IsShadedBy (targets : List Target) (today : Day) (terms : List Term) (place k : ℕ) : Type 0 where
  pub shades : ShadesAt targets today terms k place
  pub first : (other : ℕ) → other < k → ShadesAt targets today terms other place → ⊥
