-- The entries of a rule that has no limit are entries of a list.
use Rattle.std.proofs.Common.{subst, ◌≡◌, ℕ, ◌<◌, ◌≤◌, true, false, ◌&&◌, ◌||◌, nat_le, List, Option, None, Some, IfSome, is_none, is_some, refl, ap, sym, ◌∙◌, arith}
use Rattle.std.proofs.lemmas.Bool.{and_from, false≢true}
use Rattle.std.proofs.lemmas.Bool.Decides.{nat_tests}
use Rattle.std.proofs.Math.Nat.{suc-le-suc_iff}
use Rattle.acl_packet.specs.declared.packet_fields.Field.TheVariants.{SourcePort, DestinationPort, IcmpType, IcmpCode}
use Rattle.acl_packet.specs.declared.addresses.Families.{Families}
use Rattle.acl_packet.specs.declared.addresses.Family.{Family}
use Rattle.acl_packet.specs.declared.addresses.Family.TheVariants.{V4, V6}
use Rattle.acl_packet.specs.Addresses.{same_family}
use Rattle.acl_packet.specs.Packets.{has_ports, icmp_of, is_icmp}
use Rattle.acl_sets.specs.ComputableSets.{covers, is_all}
use Rattle.acl_sets.specs.OneNumber.{IsOneNumber}
use Rattle.acl_sets.specs.Ranges.{holds, Numbers, Only}
use Rattle.acl_sets.specs.declared.sets.Range.{Range}
use Rattle.acl_sets.proofs.RangeLaws.{at_top}
use Rattle.acl_rows.specs.PortRanges.{IsPortRange}
use Rattle.acl_target.specs.declared.targets.Kind.TheVariants.{Cisco}
use Rattle.acl_platform.specs.declared.combinations.Combination.{Combination}
use Rattle.acl_platform.specs.declared.rules.Rule.{Rule}
use Rattle.acl_platform.specs.declared.rules.Test.{Test}
use Rattle.acl_platform.specs.declared.rules.Test.TheVariants.{Plain, AckOrRst, SynNotAck, Rst, State}
use Rattle.acl_platform.specs.Limits.{names_sctp_ports}
use Rattle.acl_platform.specs.SoundFilters.{is_tcp, IsSoundRule, tests_flags}
use Rattle.acl_platform.proofs.CombinationFacts.{IsCombinationOf, OfNumbers, OfRanges}
use Rattle.acl_platform.proofs.NamedNumbers.{named, no-icmp, protocol-is, type-is}
use Rattle.acl_platform.proofs.RuleNumbers.{no-destination, no-source, tcp-or-udp}
use Rattle.acl_rows.specs.RuleParts.{is_proto}
use Rattle.cisco_lang.specs.Documents.{code_fits, flags_fit, icmp_fits, IsEntry, match_all_fits, ports_fit, type_fits}
use Rattle.gen_cisco.specs.Limits.{asks_initial, asks_initial_in_ipv6}
use Rattle.gen_cisco.specs.Sections.{entry_of, flags_of}

-- ---- the type

types-fit : (families : Families) (r : Rule) (proto o : Option ℕ) → IsSoundRule Cisco families r → OfNumbers r.protos proto → OfNumbers r.itypes o
    → (is_none o || is_proto proto (icmp_of r.family)) ≡ true
types-fit families r proto None h p k = refl
types-fit families r proto (Some n) h p k =
    let one = named (is_icmp r.family) r.protos proto p (no-icmp r.family) (h.numbers_fit IcmpType k.0) in
    ap (λ x. is_proto x (icmp_of r.family)) one.1.0 ∙ one.1.1.1

-- ---- the code

code-is : (families : Families) (r : Rule) (o : Option ℕ) → IsSoundRule Cisco families r → OfNumbers r.icodes o → IfSome o (λ n. n ≤ 255)
code-is families r None h k = tt
code-is families r (Some n) h k = at_top 0 255 r.icodes.ranges n (h.numbers IcmpCode).normal k.1

not-both-ends : (n top : ℕ) → 0 < top → ((nat_le n 0 && nat_le top n) || false) ≡ true → ⊥
not-both-ends n top h e = grind (arith, nat_tests)

-- a set of one number is not all
one-of-many : (s : Numbers) → IsOneNumber s → 0 < s.top → is_all s ≡ true → ⊥
one-of-many s one h all =
    let P : List Range → Type 0 = λ ranges. covers ranges 0 s.top ≡ true in
    not-both-ends one.0 s.top h (subst P one.1 all)

codes-fit : (families : Families) (r : Rule) (t c : Option ℕ) → IsSoundRule Cisco families r → OfNumbers r.itypes t → OfNumbers r.icodes c
    → (is_none c || is_some t) ≡ true
codes-fit families r t None h k l = refl
codes-fit families r (Some n) (Some m) h k l = refl
codes-fit families r None (Some m) h k l =
    let top = (h.numbers IcmpType).top_is in
    absurd (one-of-many r.itypes (h.codes_named l.0) (omega (arith, top)) k)

-- ---- ports

either : (s : Numbers) (proto : Option ℕ) → OfNumbers s proto → Only has_ports s → holds s.ranges 132 ≡ false
    → (is_proto proto 6 || is_proto proto 17) ≡ true
either s proto p only none =
    let one = named has_ports s proto p refl only in
    ap (λ x. is_proto x 6 || is_proto x 17) one.1.0 ∙ tcp-or-udp s one.0 only none one.1.1.0

ports-fit : (families : Families) (r : Rule) (proto : Option ℕ) (sport dport : Option (ℕ × ℕ)) → IsSoundRule Cisco families r
    → names_sctp_ports r ≡ false → OfNumbers r.protos proto → OfRanges r.sports sport → OfRanges r.dports dport
    → (is_none sport && is_none dport || (is_proto proto 6 || is_proto proto 17)) ≡ true
ports-fit families r proto None None h u p k l = refl
ports-fit families r proto (Some q) dport h u p k l =
    either r.protos proto p (h.numbers_fit SourcePort k.0)
    (no-source (holds r.protos.ranges 132) (is_all r.sports) (is_all r.dports) u k.0)
ports-fit families r proto None (Some q) h u p k l =
    either r.protos proto p (h.numbers_fit DestinationPort l.0)
    (no-destination (holds r.protos.ranges 132) (is_all r.sports) (is_all r.dports) u l.0)

range-is : (s : Numbers) (o : Option (ℕ × ℕ)) → s.top ≡ 65535 → OfRanges s o → IfSome o IsPortRange
range-is s None e h = tt
range-is s (Some q) e h = (h.1.0, suc-le-suc_iff.1 (subst (λ t. q.1 ≤ t) e h.1.1))

-- ---- flags

match-all : (f : Family) (test : Test) → (same_family f V6 && asks_initial test) ≡ false → match_all_fits f (flags_of test) ≡ true
match-all V4 test h = refl
match-all V6 Plain h = refl
match-all V6 AckOrRst h = refl
match-all V6 SynNotAck h = absurd (false≢true (sym h))
match-all V6 Rst h = refl
match-all V6 State h = refl

of-tcp : (test : Test) (proto : Option ℕ) → (tests_flags test ≡ true → is_proto proto 6 ≡ true)
    → (is_none (flags_of test) || is_proto proto 6) ≡ true
of-tcp Plain proto h = refl
of-tcp AckOrRst proto h = h refl
of-tcp SynNotAck proto h = h refl
of-tcp Rst proto h = h refl
of-tcp State proto h = refl

only-tcp : (s : Numbers) (proto : Option ℕ) → OfNumbers s proto → Only is_tcp s → is_proto proto 6 ≡ true
only-tcp s proto p only =
    let one = named is_tcp s proto p refl only in
    ap (λ x. is_proto x 6) one.1.0 ∙ one.1.1.1

-- ---- the entry

-- An entry can say what the rule holds.
pub record IsSayable (r : Rule) : Type 0 where
  pub initial : asks_initial_in_ipv6 r ≡ false
  pub ports : names_sctp_ports r ≡ false

pub entry-is : (families : Families) (r : Rule) (c : Combination) → IsSoundRule Cisco families r → IsSayable r → IsCombinationOf r c
    → IsEntry r.family (entry_of r c)
entry-is families r c h u k =
    let e = entry_of r c in
    record {
      protocol = protocol-is Cisco families r c.proto h k.protocol;
      source = k.source;
      source_ports = range-is r.sports c.sport (h.numbers SourcePort).top_is k.source_ports;
      destination = k.destination;
      destination_ports = range-is r.dports c.dport (h.numbers DestinationPort).top_is k.destination_ports;
      icmp_type = type-is Cisco families r c.itype h k.type_of_icmp;
      icmp_code = code-is families r c.icode h k.code_of_icmp;
      fit = and_from (ports_fit e) (icmp_fits r.family e && flags_fit r.family e)
          (ports-fit families r c.proto c.sport c.dport h u.ports k.protocol k.source_ports k.destination_ports)
          (and_from (icmp_fits r.family e) (flags_fit r.family e)
          (and_from (type_fits r.family e) (code_fits e) (types-fit families r c.proto c.itype h k.protocol k.type_of_icmp)
          (codes-fit families r c.itype c.icode h k.type_of_icmp k.code_of_icmp))
          (and_from (is_none e.flags || is_proto e.proto 6) (match_all_fits r.family e.flags)
          (of-tcp r.test c.proto (λ t. only-tcp r.protos c.proto k.protocol (h.flags_fit t)))
          (match-all r.family r.test u.initial)));
    }
