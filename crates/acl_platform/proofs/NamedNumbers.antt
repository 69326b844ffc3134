-- What the number is that a choice of a sound rule's protocols or types names.
use Rattle.std.proofs.Common.{◌≡◌, ℕ, zero, suc, ◌≤◌, zero-le, Bool, true, false, Option, None, Some, refl, sym, ◌∙◌}
use Rattle.std.specs.Option.{IfSome}
use Rattle.std.proofs.Math.Nat.{suc-le-suc_iff}
use Rattle.std.proofs.lemmas.Bool.{false≢true}
use Rattle.acl_packet.specs.declared.packet_fields.Field.TheVariants.{Protocol, IcmpType}
use Rattle.acl_packet.specs.declared.addresses.Families.{Families}
use Rattle.acl_packet.specs.declared.addresses.Family.{Family}
use Rattle.acl_packet.specs.declared.addresses.Family.TheVariants.{V4, V6}
use Rattle.acl_packet.specs.Packets.{is_icmp}
use Rattle.acl_sets.specs.Ranges.{holds, Numbers, Only}
use Rattle.acl_sets.proofs.ComputableSetLaws.{covers-holds}
use Rattle.acl_sets.proofs.RangeLaws.{at_top}
use Rattle.acl_target.specs.declared.targets.Kind.{Kind}
use Rattle.acl_platform.specs.declared.rules.Rule.{Rule}
use Rattle.acl_platform.specs.SoundFilters.{is_named_protocol, IsSoundRule}
use Rattle.acl_platform.proofs.CombinationFacts.{OfNumbers}
use Rattle.acl_platform.proofs.RuleNumbers.{type-most}

named-positive : (f : Family) (n : ℕ) → is_named_protocol f n ≡ true → 1 ≤ n
named-positive V4 zero h = absurd (false≢true h)
named-positive V6 zero h = absurd (false≢true h)
named-positive f (suc n) h = suc-le-suc_iff.1 zero-le

pub protocol-is : (kind : Kind) (families : Families) (r : Rule) (o : Option ℕ) → IsSoundRule kind families r → OfNumbers r.protos o
    → IfSome o (λ n. (1 ≤ n) × (n ≤ 255))
protocol-is kind families r None h k = tt
protocol-is kind families r (Some n) h k =
    (named-positive r.family n (h.protocols_named k.0 n k.1), at_top 0 255 r.protos.ranges n (h.numbers Protocol).normal k.1)

pub type-is : (kind : Kind) (families : Families) (r : Rule) (o : Option ℕ) → IsSoundRule kind families r → OfNumbers r.itypes o
    → IfSome o (λ n. n ≤ 254)
type-is kind families r None h k = tt
type-is kind families r (Some n) h k = type-most r.itypes n (h.numbers IcmpType).normal (h.types_named k.0) k.1

-- a number is named, which the set holds and which passes the test
abbrev pub Named : (ℕ → Bool) → Numbers → Option ℕ → Type 0
Named test s o = (n : ℕ) × ((o ≡ Some n) × ((holds s.ranges n ≡ true) × (test n ≡ true)))

-- where the set's numbers pass a test and 0 does not
pub named : (test : ℕ → Bool) (s : Numbers) (o : Option ℕ) → OfNumbers s o → test 0 ≡ false → Only test s → Named test s o
named test s None h none only =
    absurd (false≢true (sym none ∙ only 0 (covers-holds s.ranges 0 s.top 0 h zero-le zero-le)))
named test s (Some n) h none only = (n, (refl, (h.1, only n h.1)))

pub no-icmp : (f : Family) → is_icmp f 0 ≡ false
no-icmp V4 = refl
no-icmp V6 = refl
