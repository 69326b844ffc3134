-- The rules that resolved terms become on a target.
use Rattle.std.specs.Prelude.{ℕ, Bool, true, false, if◌then◌else◌, List, [], ◌∷◌, ◌++◌, map, flat_map, codes}
use Rattle.acl_packet.specs.declared.addresses.Families.{Families}
use Rattle.acl_packet.specs.declared.addresses.Families.TheVariants.{Inet, Inet6, Mixed}
use Rattle.acl_packet.specs.declared.addresses.Family.{Family}
use Rattle.acl_packet.specs.declared.addresses.Family.TheVariants.{V4, V6}
use Rattle.acl_packet.specs.declared.addresses.Prefix.{Prefix}
use Rattle.acl_packet.specs.declared.filtering.Verdict.{Verdict}
use Rattle.acl_host.specs.declared.days.Day.{Day}
use Rattle.acl_sets.specs.declared.sets.Range.{Range}
use Rattle.acl_sets.specs.ComputableLeastLists.{halved_space}
use Rattle.acl_sets.specs.ComputableSets.{cut_all, is_all}
use Rattle.acl_sets.specs.Ranges.{Numbers, holds}
use Rattle.acl_target.specs.declared.targets.Kind.{Kind}
use Rattle.acl_target.specs.declared.targets.Kind.TheVariants.{Cisco, Juniper, Iptables, Nftables}
use Rattle.acl_target.specs.declared.targets.Target.{Target}
use Rattle.acl_terms.specs.declared.options.Mode.{Mode}
use Rattle.acl_terms.specs.declared.options.Mode.TheVariants.{Stateful, Stateless}
use Rattle.acl_terms.specs.declared.options.Opt.{Opt}
use Rattle.acl_terms.specs.declared.options.Opt.TheVariants as options
use Rattle.acl_terms.specs.declared.sides.Side.{Side}
use Rattle.acl_terms.specs.declared.sides.Side.TheVariants.{Whole, Source, Destination}
use Rattle.acl_terms.specs.declared.sides.SidePair.{SidePair}
use Rattle.acl_terms.specs.declared.terms.Term.{Term}
use Rattle.acl_packet.specs.Packets.{foreign_of}
use Rattle.acl_terms.specs.Outcomes.{cisco_verdict, mode_of}
use Rattle.acl_terms.specs.Resolved.{destinations_on, dports_on, has_none, in_both, is_pair_empty, is_term_live, pairs_of, sources_on, sports_on}
use Rattle.acl_platform.specs.declared.rules.Rule.{Rule}
use Rattle.acl_platform.specs.declared.rules.Test.{Test}
use Rattle.acl_platform.specs.declared.rules.Test.TheVariants as tests
use Rattle.acl_expand.specs.declared.conditions.Conditions.{Conditions}

-- ---- sets

-- One number alone, among the protocols or the ports.
abbrev pub just : ℕ → Range
just n = record { low = n; high = n }

-- The protocols of a term in a family: where some are named, those without the other family's ICMP.
abbrev pub protocols_in : Family → Term → Numbers
protocols_in f t =
    if is_all t.protos then t.protos
    else record { top = t.protos.top; ranges = cut_all (just (foreign_of f) ∷ []) t.protos.ranges }

abbrev pub only_protocol : ℕ → Numbers
only_protocol n = record { top = 255; ranges = just n ∷ [] }

-- The ports that a client has: 1024 and above.
abbrev pub client_ports : Numbers
client_ports = record { top = 65535; ranges = record { low = 1024; high = 65535 } ∷ [] }

-- The least list of the prefixes of a set (see `IsLeastList`).
abbrev pub least_list : Family → Numbers → List Prefix
least_list f s = halved_space f s.ranges

-- ---- rules

-- Cisco access lists permit and deny alone: there a rejection and a reset are a denial.
abbrev pub verdict_on : Kind → Verdict → Verdict
verdict_on Cisco v = cisco_verdict v
verdict_on Juniper v = v
verdict_on Iptables v = v
verdict_on Nftables v = v

-- A rule that asks an address or a port of one side says so in its name.
abbrev pub address_suffix : Side → List ℕ
address_suffix Whole = []
address_suffix Source = codes "-src"
address_suffix Destination = codes "-dst"

abbrev pub port_suffix : Side → List ℕ
port_suffix Whole = []
port_suffix Source = codes "-sport"
port_suffix Destination = codes "-dport"

-- The rule of a term in a family on a pair of sides, with these conditions: all else is the term's.
abbrev pub rule_of : Kind → Family → Term → SidePair → Conditions → Rule
rule_of kind f t pair c = record {
  name = t.name ++ (address_suffix pair.addresses ++ (port_suffix pair.ports ++ c.suffix));
  place = t.place;
  note = t.note;
  family = f;
  src = least_list f (sources_on pair.addresses f t);
  dst = least_list f (destinations_on pair.addresses f t);
  protos = c.protos;
  sports = sports_on pair.ports t;
  dports = c.dports;
  itypes = t.itypes;
  icodes = t.icodes;
  test = c.test;
  verdict = verdict_on kind t.verdict;
  log = t.log;
}

-- The term's own protocols and its ports on a side, with a test.
abbrev pub whole : Family → Term → Side → Test → Conditions
whole f t side test = record {
  suffix = [];
  protos = protocols_in f t;
  dports = dports_on side t;
  test = test;
}

-- Of UDP, `established` asks for a port of a client, where the term names no destination port.
abbrev pub udp_ports : Term → Side → Numbers
udp_ports t side =
    if t.dport_named then dports_on side t else in_both (dports_on side t) client_ports

abbrev pub udp_alone : Family → Term → Side → Conditions
udp_alone f t side = record {
  suffix = [];
  protos = protocols_in f t;
  dports = udp_ports t side;
  test = tests.Plain;
}

abbrev pub tcp_half : Term → Side → Conditions
tcp_half t side = record {
  suffix = codes "-tcp";
  protos = only_protocol 6;
  dports = dports_on side t;
  test = tests.AckOrRst;
}

abbrev pub udp_half : Term → Side → Conditions
udp_half t side = record {
  suffix = codes "-udp";
  protos = only_protocol 17;
  dports = udp_ports t side;
  test = tests.Plain;
}

-- Conditions that leave no destination port are those of no rule.
abbrev pub with_ports : Conditions → List Conditions
with_ports c = if has_none c.dports then [] else c ∷ []

-- `established` where connections are not known, over TCP and UDP or one of them.
abbrev pub established_conditions : Family → Term → Side → Bool → Bool → List Conditions
established_conditions f t side true true = tcp_half t side ∷ with_ports (udp_half t side)
established_conditions f t side true false = whole f t side tests.AckOrRst ∷ []
established_conditions f t side false udp = with_ports (udp_alone f t side)

-- The conditions of a term's rules by its option, where its ports are those on a side. TCP is 6 and UDP 17.
abbrev pub conditions_by : Opt → Mode → Family → Term → Side → List Conditions
conditions_by options.Plain mode f t side = whole f t side tests.Plain ∷ []
conditions_by options.Established Stateful f t side = whole f t side tests.State ∷ []
conditions_by options.Established Stateless f t side =
    established_conditions f t side (holds t.protos.ranges 6) (holds t.protos.ranges 17)
conditions_by options.TcpEstablished Stateful f t side = whole f t side tests.State ∷ []
conditions_by options.TcpEstablished Stateless f t side = whole f t side tests.AckOrRst ∷ []
conditions_by options.TcpInitial mode f t side = whole f t side tests.SynNotAck ∷ []
conditions_by options.Rst mode f t side = whole f t side tests.Rst ∷ []

-- A pair of sides on which the term is empty in the family has no rule there.
unfoldable pub pair_rules : Target → Term → Family → SidePair → List Rule
pair_rules target t f pair =
    if is_pair_empty f t pair then []
    else map (rule_of target.kind f t pair)
    (conditions_by t.option (mode_of target) f t pair.ports)

-- The sides of a term, the source before the destination, and those for addresses before those for ports.
unfoldable pub family_rules : Target → Term → Family → List Rule
family_rules target t f = flat_map (pair_rules target t f) (pairs_of t)

-- The families of a target, IPv4 first.
abbrev pub members : Families → List Family
members Inet = V4 ∷ []
members Inet6 = V6 ∷ []
members Mixed = V4 ∷ V6 ∷ []

-- A term that is not live on the target that day has no rule.
unfoldable pub term_rules : Target → Day → Term → List Rule
term_rules target today t =
    if is_term_live t target.kind today then flat_map (family_rules target t) (members target.families)
    else []

-- The rules of terms, in order.
abbrev pub rules_of : Target → Day → List Term → List Rule
rules_of target today terms = flat_map (term_rules target today) terms
