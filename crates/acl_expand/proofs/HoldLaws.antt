-- Which packets the rules of a term hold.
use Rattle.std.proofs.Common.{◌≡◌, ℕ, ◌^◌, ◌<◌, ◌≤◌, inl, inr, Bool, true, false, cond, ◌&&◌, ◌||◌, ◌==◌, nat_le, List, [], ◌∷◌, ◌++◌, map, flat_map, refl, ap, sym, subst, ◌∙◌, append-nil, arith}
use Rattle.std.specs.List.{list_any}
use Rattle.std.proofs.lemmas.Bool.{and_left, and_right, both_ways, eqb-true}
use Rattle.std.proofs.lemmas.List.Folds.{list_any-append}
use Rattle.acl_packet.specs.declared.addresses.Families.{Families}
use Rattle.acl_packet.specs.declared.addresses.Families.TheVariants.{Inet, Inet6, Mixed}
use Rattle.acl_packet.specs.declared.addresses.Family.{Family}
use Rattle.acl_packet.specs.declared.addresses.Family.TheVariants.{V4, V6}
use Rattle.acl_packet.specs.declared.packet_fields.Field.TheVariants.{SourcePort, DestinationPort}
use Rattle.acl_packet.specs.declared.packets.Packet.{Packet}
use Rattle.acl_packet.specs.Addresses.{covers, same_family, top_address, width_of}
use Rattle.acl_packet.specs.Packets.{IsPacket}
use Rattle.acl_host.specs.declared.days.Day.{Day}
use Rattle.acl_packet.specs.AddressLists.{any_has}
use Rattle.acl_sets.specs.Ranges.{Only, holds}
use Rattle.acl_sets.proofs.RangeLaws.{empty-holds}
use Rattle.acl_target.specs.declared.targets.Kind.{Kind}
use Rattle.acl_target.specs.declared.targets.Target.{Target}
use Rattle.acl_terms.specs.declared.options.Mode.{Mode}
use Rattle.acl_terms.specs.declared.options.Mode.TheVariants.{Stateful, Stateless}
use Rattle.acl_terms.specs.declared.options.Opt.{Opt}
use Rattle.acl_terms.specs.declared.options.Opt.TheVariants as options
use Rattle.acl_terms.specs.declared.sides.Side.{Side}
use Rattle.acl_terms.specs.declared.sides.SidePair.{SidePair}
use Rattle.acl_terms.specs.declared.terms.Term.{Term}
use Rattle.acl_terms.specs.Options as terms
use Rattle.acl_terms.specs.Outcomes.{decides, mode_of}
use Rattle.acl_terms.specs.Resolved.{IsPairEmpty, addresses_match, destination_in, destinations_on, dports_on, either_in, has_none, has_protocol, in_both, is_pair_empty, is_term_live, matches, matches_in, pairs_of, side_pairs, sides_of, source_in, sources_on, sports_on}
use Rattle.acl_terms.specs.Slips.{is_tcp_or_udp}
use Rattle.acl_terms.specs.Soundness.{is_established}
use Rattle.acl_terms.proofs.EmptyLaws.{pair-empty-law}
use Rattle.acl_terms.proofs.FieldLaws.{by-parts, icmp_match, ports_match}
use Rattle.acl_terms.proofs.SideLaws.{both-holds, destination-normal, source-normal}
use Rattle.acl_platform.specs.declared.rules.Rule.{Rule}
use Rattle.acl_platform.specs.declared.rules.Test.{Test}
use Rattle.acl_platform.specs.declared.rules.Test.TheVariants as tests
use Rattle.acl_platform.specs.Rules as rules
use Rattle.acl_platform.specs.Rules.{rule_holds}
use Rattle.acl_platform.proofs.FieldLaws.{sets-parted}
use Rattle.acl_expand.specs.declared.conditions.Conditions.{Conditions}
use Rattle.acl_expand.specs.TermRules.{conditions_by, established_conditions, family_rules, members, pair_rules, rule_of, tcp_half, term_rules, udp_alone, udp_half, udp_ports, whole, with_ports}
use Rattle.acl_expand.proofs.AnyLaws.{any-as, any-flat, any-left, any-map, any-right}
use Rattle.acl_expand.proofs.SetForms.{and-true, just-holds, least-holds, or-false, protocol-holds, tcp-or-udp, udp-holds}
use Rattle.acl_expand.proofs.SideForms.{destinations-normal, destinations-top, either-all, ports-all, sources-normal, sources-top}

-- ---- packets

-- The parts of a packet are numbers of which sets hold all that a term asks nothing of.
pub record IsInRange (p : Packet) : Type 0 where
  pub source : p.src ≤ top_address p.family
  pub source_port : p.sport < 65536
  pub destination_port : p.dport < 65536

address-within : (f : Family) (x : ℕ) → x < 2 ^ width_of f → x ≤ top_address f
address-within V4 x h = omega (arith, h)
address-within V6 x h = omega (arith, h)

pub in-range : (p : Packet) → IsPacket p → IsInRange p
in-range p is = record {
  source = address-within p.family p.src is.source;
  source_port = let top = is.numbers SourcePort in omega (arith, top);
  destination_port = let top = is.numbers DestinationPort in omega (arith, top);
}

-- ---- one rule

-- What a rule holds, in the sets of its term on a pair of sides.
abbrev pub with-sets : Family → Term → SidePair → Packet → Bool → Bool → Bool
with-sets f t pair p proto dport = proto && (holds (sources_on pair.addresses f t).ranges p.src
    && (holds (destinations_on pair.addresses f t).ranges p.dst && (holds (sports_on pair.ports t).ranges p.sport && (dport
    && icmp_match f t p))))

-- The same with a test, as it is asked of the term: the protocol and the addresses, then the ports.
abbrev addresses-on : Family → Term → Packet → Side → Bool
addresses-on f t p side = holds (sources_on side f t).ranges p.src && holds (destinations_on side f t).ranges p.dst

abbrev ports-on : Term → Packet → Side → Bool
ports-on t p side = holds (sports_on side t).ranges p.sport && holds (dports_on side t).ranges p.dport

abbrev on-pair : Family → Term → Packet → Bool → SidePair → Bool
on-pair f t p o pair = (has_protocol f t p.proto && addresses-on f t p pair.addresses)
    && (ports-on t p pair.ports && (icmp_match f t p && o))

pub rule-sets : (kind : Kind) (f : Family) (t : Term) (pair : SidePair) (c : Conditions) (p : Packet)
    → rule_holds (rule_of kind f t pair c) p
    ≡ (same_family f p.family && (with-sets f t pair p (holds c.protos.ranges p.proto) (holds c.dports.ranges p.dport)
    && rules.passes c.test p))
rule-sets kind f t pair c p =
    let side = pair.addresses in
    let src = least-holds f (sources_on side f t) (sources-top side f t) (sources-normal side f t) p.src in
    let dst = least-holds f (destinations_on side f t) (destinations-top side f t) (destinations-normal side f t) p.dst in
    let tail : Bool = holds (sports_on pair.ports t).ranges p.sport && (holds c.dports.ranges p.dport && icmp_match f t p) in
    let proto : Bool = holds c.protos.ranges p.proto in
    ap (λ b. same_family f p.family && (b && rules.passes c.test p)) (sets-parted (rule_of kind f t pair c) p)
    ∙ ap (λ s. same_family f p.family && ((proto && (s && (any_has (rule_of kind f t pair c).dst p.dst && tail))) && rules.passes c.test p)) src
    ∙ ap (λ d. same_family f p.family && ((proto && (holds (sources_on side f t).ranges p.src && (d && tail))) && rules.passes c.test p)) dst

-- One rule's conditions, and those of its term.
one : (h s d sp dp ty u q o : Bool) → (h ≡ true → (u && q) ≡ o)
    → ((h && (s && (d && (sp && ((dp && u) && ty))))) && q) ≡ ((h && (s && d)) && ((sp && dp) && (ty && o)))
one false s d sp dp ty u q o e = refl
one true false d sp dp ty u q o e = refl
one true true false sp dp ty u q o e = refl
one true true true false dp ty u q o e = refl
one true true true true false ty u q o e = refl
one true true true true true false false q o e = refl
one true true true true true false true q o e = refl
one true true true true true true false q o e = e refl
one true true true true true true true q o e = e refl

single : (kind : Kind) (f : Family) (t : Term) (pair : SidePair) (c : Conditions) (p : Packet) (u o : Bool)
    → holds c.protos.ranges p.proto ≡ has_protocol f t p.proto
    → holds c.dports.ranges p.dport ≡ (holds (dports_on pair.ports t).ranges p.dport && u)
    → (has_protocol f t p.proto ≡ true → (u && rules.passes c.test p) ≡ o)
    → list_any (λ r. rule_holds r p) (map (rule_of kind f t pair) (c ∷ []))
    ≡ (same_family f p.family && on-pair f t p o pair)
single kind f t pair c p u o proto dport e =
    or-false (rule_holds (rule_of kind f t pair c) p) ∙ rule-sets kind f t pair c p
    ∙ ap (λ h. same_family f p.family && (with-sets f t pair p h (holds c.dports.ranges p.dport) && rules.passes c.test p)) proto
    ∙ ap (λ h. same_family f p.family && (with-sets f t pair p (has_protocol f t p.proto) h && rules.passes c.test p)) dport
    ∙ ap (λ x. same_family f p.family && x)
    (one (has_protocol f t p.proto) (holds (sources_on pair.addresses f t).ranges p.src) (holds (destinations_on pair.addresses f t).ranges p.dst)
    (holds (sports_on pair.ports t).ranges p.sport) (holds (dports_on pair.ports t).ranges p.dport) (icmp_match f t p)
    u (rules.passes c.test p) o e)

-- The rule with the term's own sets.
whole-step : (kind : Kind) (f : Family) (t : Term) (pair : SidePair) (test : Test) (p : Packet) (o : Bool)
    → (has_protocol f t p.proto ≡ true → rules.passes test p ≡ o)
    → list_any (λ r. rule_holds r p) (map (rule_of kind f t pair) (whole f t pair.ports test ∷ []))
    ≡ (same_family f p.family && on-pair f t p o pair)
whole-step kind f t pair test p o e =
    single kind f t pair (whole f t pair.ports test) p true o (protocol-holds f t p.proto)
    (sym (and-true (holds (dports_on pair.ports t).ranges p.dport))) e

-- A rule without a destination port holds no packet.
no-port : (s h a b c ty q : Bool) → (s && ((h && (a && (b && (c && (false && ty))))) && q)) ≡ false
no-port false h a b c ty q = refl
no-port true false a b c ty q = refl
no-port true true false b c ty q = refl
no-port true true true false c ty q = refl
no-port true true true true false ty q = refl
no-port true true true true true ty q = refl

ports-kept : (kind : Kind) (f : Family) (t : Term) (pair : SidePair) (c : Conditions) (p : Packet)
    → list_any (λ r. rule_holds r p) (map (rule_of kind f t pair) (with_ports c))
    ≡ list_any (λ r. rule_holds r p) (map (rule_of kind f t pair) (c ∷ []))
ports-kept kind f t pair c p = by (has_none c.dports) refl
  where
    by : (b : Bool) → has_none c.dports ≡ b
        → list_any (λ r. rule_holds r p) (map (rule_of kind f t pair) (cond b [] (c ∷ [])))
        ≡ list_any (λ r. rule_holds r p) (map (rule_of kind f t pair) (c ∷ []))
    by true e =
        sym (or-false (rule_holds (rule_of kind f t pair c) p) ∙ rule-sets kind f t pair c p
        ∙ ap (λ h. same_family f p.family && (with-sets f t pair p (holds c.protos.ranges p.proto) h && rules.passes c.test p))
        (empty-holds c.dports.ranges p.dport e)
        ∙ no-port (same_family f p.family) (holds c.protos.ranges p.proto) (holds (sources_on pair.addresses f t).ranges p.src)
        (holds (destinations_on pair.addresses f t).ranges p.dst) (holds (sports_on pair.ports t).ranges p.sport)
        (icmp_match f t p) (rules.passes c.test p))
    by false e = refl

-- ---- `established` where connections are not known

-- A rule for TCP and one for UDP hold what the term does: no packet is both.
halves : (s n m src dst sp dp ty ack u : Bool) → (n && m) ≡ false
    → ((s && ((n && (src && (dst && (sp && (dp && ty))))) && ack))
    || ((s && ((m && (src && (dst && (sp && ((dp && u) && ty))))) && true)) || false))
    ≡ (s && (((n || m) && (src && dst)) && ((sp && dp) && (ty && cond n ack u))))
halves false n m src dst sp dp ty ack u e = refl
halves true true true src dst sp dp ty ack u e = absurd (both_ways true e refl)
halves true true false false dst sp dp ty ack u e = refl
halves true true false true false sp dp ty ack u e = refl
halves true true false true true false dp ty ack u e = refl
halves true true false true true true false ty ack u e = refl
halves true true false true true true true false ack u e = refl
halves true true false true true true true true ack u e = or-false ack
halves true false true false dst sp dp ty ack u e = refl
halves true false true true false sp dp ty ack u e = refl
halves true false true true true false dp ty ack u e = refl
halves true false true true true true false ty ack u e = refl
halves true false true true true true true false ack false e = refl
halves true false true true true true true false ack true e = refl
halves true false true true true true true true ack false e = refl
halves true false true true true true true true ack true e = refl
halves true false false src dst sp dp ty ack u e = refl

not-both : (n : ℕ) (b c : Bool) → (n == 6) ≡ b → (n == 17) ≡ c → (b && c) ≡ false
not-both n true true e d =
    let x : n ≡ 6 = eqb-true n 6 e in let y : n ≡ 17 = eqb-true n 17 d in absurd (omega arith)
not-both n true false e d = refl
not-both n false c e d = refl

-- Where only one of the two is named, a packet that the term's protocols take is of that one.
tcp-alone : (b c h : Bool) (ack u : Bool) → h ≡ ((b && true) || (c && false)) → h ≡ true → ack ≡ cond b ack u
tcp-alone true c h ack u e is = refl
tcp-alone false true h ack u e is = absurd (both_ways h e is)
tcp-alone false false h ack u e is = absurd (both_ways h e is)

udp-alone : (b c d h : Bool) (ack u : Bool) → h ≡ ((b && false) || (c && d)) → (b && c) ≡ false → h ≡ true
    → (u && true) ≡ cond b ack u
udp-alone true true d h ack u e n is = absurd (both_ways true n refl)
udp-alone true false d h ack u e n is = absurd (both_ways h e is)
udp-alone false c d h ack u e n is = and-true u

established-step : (kind : Kind) (f : Family) (t : Term) (pair : SidePair) (p : Packet) (tcp udp : Bool) → IsInRange p
    → Only is_tcp_or_udp t.protos → holds t.protos.ranges 6 ≡ tcp → holds t.protos.ranges 17 ≡ udp
    → list_any (λ r. rule_holds r p) (map (rule_of kind f t pair) (established_conditions f t pair.ports tcp udp))
    ≡ (same_family f p.family && on-pair f t p (terms.passes options.Established Stateless t.dport_named p) pair)
established-step kind f t pair p true true is only e d =
    let side = pair.ports in
    let n : Bool = p.proto == 6 in let m : Bool = p.proto == 17 in
    let src : Bool = holds (sources_on pair.addresses f t).ranges p.src in
    let dst : Bool = holds (destinations_on pair.addresses f t).ranges p.dst in
    let sp : Bool = holds (sports_on side t).ranges p.sport in
    let dp : Bool = holds (dports_on side t).ranges p.dport in
    let ty : Bool = icmp_match f t p in
    let ack : Bool = rules.passes tests.AckOrRst p in
    let u : Bool = t.dport_named || nat_le 1024 p.dport in
    let same : Bool = same_family f p.family in
    let first = rule-sets kind f t pair (tcp_half t side) p
    ∙ ap (λ x. same && (with-sets f t pair p x dp && ack)) (just-holds 6 p.proto) in
    let second = rule-sets kind f t pair (udp_half t side) p
    ∙ ap (λ x. same && (with-sets f t pair p x (holds (udp_ports t side).ranges p.dport) && true)) (just-holds 17 p.proto)
    ∙ ap (λ x. same && (with-sets f t pair p m x && true)) (udp-holds t side p.dport is.destination_port) in
    let protos : (n || m) ≡ has_protocol f t p.proto =
    sym (tcp-or-udp f t p.proto n m refl refl only ∙ ap (λ x. (n && x) || (m && holds t.protos.ranges 17)) e
    ∙ ap (λ x. (n && true) || (m && x)) d ∙ ap (λ x. x || (m && true)) (and-true n) ∙ ap (λ x. n || x) (and-true m)) in
    ap (λ x. rule_holds (rule_of kind f t pair (tcp_half t side)) p || x) (ports-kept kind f t pair (udp_half t side) p)
    ∙ ap (λ x. x || (rule_holds (rule_of kind f t pair (udp_half t side)) p || false)) first
    ∙ ap (λ x. (same && (with-sets f t pair p n dp && ack)) || (x || false)) second
    ∙ halves same n m src dst sp dp ty ack u (not-both p.proto n m refl refl)
    ∙ ap (λ x. same && ((x && (src && dst)) && ((sp && dp) && (ty && cond n ack u)))) protos
established-step kind f t pair p true false is only e d =
    let n : Bool = p.proto == 6 in let m : Bool = p.proto == 17 in
    let h = tcp-or-udp f t p.proto n m refl refl only ∙ ap (λ x. (n && x) || (m && holds t.protos.ranges 17)) e
    ∙ ap (λ x. (n && true) || (m && x)) d in
    whole-step kind f t pair tests.AckOrRst p (terms.passes options.Established Stateless t.dport_named p)
    (tcp-alone n m (has_protocol f t p.proto) (rules.passes tests.AckOrRst p) (t.dport_named || nat_le 1024 p.dport) h)
established-step kind f t pair p false udp is only e d =
    let n : Bool = p.proto == 6 in let m : Bool = p.proto == 17 in
    let u : Bool = t.dport_named || nat_le 1024 p.dport in
    let h = tcp-or-udp f t p.proto n m refl refl only ∙ ap (λ x. (n && x) || (m && holds t.protos.ranges 17)) e
    ∙ ap (λ x. (n && false) || (m && x)) d in
    ports-kept kind f t pair (udp_alone f t pair.ports) p
    ∙ single kind f t pair (udp_alone f t pair.ports) p u
    (terms.passes options.Established Stateless t.dport_named p) (protocol-holds f t p.proto)
    (udp-holds t pair.ports p.dport is.destination_port)
    (udp-alone n m udp (has_protocol f t p.proto) (rules.passes tests.AckOrRst p) u h (not-both p.proto n m refl refl))

-- ---- any option

option-step : (o : Opt) (mode : Mode) (kind : Kind) (f : Family) (t : Term) (pair : SidePair) (p : Packet) → t.option ≡ o → IsInRange p
    → list_any (λ r. rule_holds r p) (map (rule_of kind f t pair) (conditions_by o mode f t pair.ports))
    ≡ (same_family f p.family && on-pair f t p (terms.passes o mode t.dport_named p) pair)
option-step options.Plain mode kind f t pair p e is = whole-step kind f t pair tests.Plain p true (λ _. refl)
option-step options.Established Stateful kind f t pair p e is =
    whole-step kind f t pair tests.State p (rules.passes tests.State p) (λ _. refl)
option-step options.Established Stateless kind f t pair p e is =
    established-step kind f t pair p (holds t.protos.ranges 6) (holds t.protos.ranges 17) is
    (t.sound.established_fits (ap is_established e)) refl refl
option-step options.TcpEstablished Stateful kind f t pair p e is =
    whole-step kind f t pair tests.State p (rules.passes tests.State p) (λ _. refl)
option-step options.TcpEstablished Stateless kind f t pair p e is =
    whole-step kind f t pair tests.AckOrRst p (rules.passes tests.AckOrRst p) (λ _. refl)
option-step options.TcpInitial mode kind f t pair p e is =
    whole-step kind f t pair tests.SynNotAck p (rules.passes tests.SynNotAck p) (λ _. refl)
option-step options.Rst mode kind f t pair p e is =
    whole-step kind f t pair tests.Rst p (rules.passes tests.Rst p) (λ _. refl)

-- ---- a pair of sides

-- A pair that is empty matches no packet.
pair-shut : (f : Family) (t : Term) (p : Packet) (o : Bool) (pair : SidePair) → IsPairEmpty f t pair → on-pair f t p o pair ≡ false
pair-shut f t p o pair w =
    let h : Bool = has_protocol f t p.proto in
    let s : Bool = holds (sources_on pair.addresses f t).ranges p.src in
    let d : Bool = holds (destinations_on pair.addresses f t).ranges p.dst in
    let sp : Bool = holds (sports_on pair.ports t).ranges p.sport in
    let dp : Bool = holds (dports_on pair.ports t).ranges p.dport in
    let rest : Bool = icmp_match f t p && o in
    elim w [
      | inl sets ↦ elim sets [
        | inl e ↦ and_left (h && (s && d)) ((sp && dp) && rest) (and_right h (s && d) (and_left s d (e p.src)))
        | inr more ↦ elim more [
          | inl e ↦ and_left (h && (s && d)) ((sp && dp) && rest) (and_right h (s && d) (and_right s d (e p.dst)))
          | inr ports ↦ elim ports [
            | inl e ↦ and_right (h && (s && d)) ((sp && dp) && rest) (and_left (sp && dp) rest (and_left sp dp (e p.sport)))
            | inr last ↦ elim last [
              | inl e ↦ and_right (h && (s && d)) ((sp && dp) && rest) (and_left (sp && dp) rest (and_right sp dp (e p.dport)))
              | inr none ↦ absurd none
            ]
          ]
        ]
      ]
      | inr e ↦ and_left (h && (s && d)) ((sp && dp) && rest) (and_left h (s && d) (e p.proto))
    ]

abbrev passed-by : Target → Term → Packet → Bool
passed-by target t p = terms.passes t.option (mode_of target) t.dport_named p

by-emptiness : (b : Bool) (target : Target) (t : Term) (f : Family) (pair : SidePair) (p : Packet) → is_pair_empty f t pair ≡ b → IsInRange p
    → list_any (λ r. rule_holds r p) (cond b [] (map (rule_of target.kind f t pair) (conditions_by t.option (mode_of target) f t pair.ports)))
    ≡ (same_family f p.family && on-pair f t p (passed-by target t p) pair)
by-emptiness true target t f pair p e is =
    sym (and_right (same_family f p.family) (on-pair f t p (passed-by target t p) pair)
    (pair-shut f t p (passed-by target t p) pair ((pair-empty-law f t pair).0 e)))
by-emptiness false target t f pair p e is = option-step t.option (mode_of target) target.kind f t pair p refl is

pair-step : (target : Target) (t : Term) (f : Family) (pair : SidePair) (p : Packet) → IsInRange p
    → list_any (λ r. rule_holds r p) (pair_rules target t f pair) ≡ (same_family f p.family && on-pair f t p (passed-by target t p) pair)
unfolding pair_rules
pair-step target t f pair p is = by-emptiness (is_pair_empty f t pair) target t f pair p refl is

-- ---- all pairs

-- A packet passes on some pair of sides where it passes on some side for addresses and on some side for ports.
on-sides : (same h k : Bool) (a b : Side → Bool) (addr_named port_named : Bool)
    → list_any (λ pair. same && ((h && a pair.addresses) && (b pair.ports && k))) (side_pairs addr_named port_named)
    ≡ (same && ((h && list_any a (sides_of addr_named)) && (list_any b (sides_of port_named) && k)))
on-sides same h k a b addr_named port_named =
    let test : SidePair → Bool = λ pair. same && ((h && a pair.addresses) && (b pair.ports && k)) in
    let pair : Side → Side → SidePair = λ s p. record { addresses = s; ports = p } in
    let ports : List Side = sides_of port_named in
    let rest : Bool = list_any b ports && k in
    let row : (s : Side) → list_any test (map (pair s) ports) ≡ (same && ((h && a s) && rest)) = λ s.
    any-map test (pair s) ports ∙ any-left same (λ p. (h && a s) && (b p && k)) ports
    ∙ ap (λ x. same && x) (any-left (h && a s) (λ p. b p && k) ports ∙ ap (λ x. (h && a s) && x) (any-right b k ports)) in
    any-flat test (λ s. map (pair s) ports) (sides_of addr_named)
    ∙ any-as (λ s. list_any test (map (pair s) ports)) (λ s. same && ((h && a s) && rest)) row (sides_of addr_named)
    ∙ any-left same (λ s. (h && a s) && rest) (sides_of addr_named)
    ∙ ap (λ x. same && x) (any-right (λ s. h && a s) rest (sides_of addr_named) ∙ ap (λ x. x && rest) (any-left h a (sides_of addr_named)))

-- What both sets hold of a source, or both of a destination, is what is asked of either.
either-way : (s d x y : Bool) → (((s && x) && d) || ((s && (d && y)) || false)) ≡ (s && (d && (x || y)))
either-way false d x y = refl
either-way true false true y = refl
either-way true false false y = refl
either-way true true true y = refl
either-way true true false true = refl
either-way true true false false = refl

addresses-any : (f : Family) (t : Term) (p : Packet) (b : Bool) → t.addr_named ≡ b → p.src ≤ top_address f
    → list_any (addresses-on f t p) (sides_of b) ≡ addresses_match f t p
addresses-any f t p true e within =
    let s : Bool = holds (source_in f t).ranges p.src in
    let d : Bool = holds (destination_in f t).ranges p.dst in
    let either = (either_in f t).ranges in
    ap (λ x. (x && d) || ((s && holds (in_both (destination_in f t) (either_in f t)).ranges p.dst) || false))
    (both-holds (source_in f t) (either_in f t) p.src (source-normal f t))
    ∙ ap (λ x. ((s && holds either p.src) && d) || ((s && x) || false))
    (both-holds (destination_in f t) (either_in f t) p.dst (destination-normal f t))
    ∙ either-way s d (holds either p.src) (holds either p.dst)
addresses-any f t p false e within =
    let s : Bool = holds (source_in f t).ranges p.src in
    let d : Bool = holds (destination_in f t).ranges p.dst in
    let y : Bool = holds (either_in f t).ranges p.dst in
    or-false (s && d) ∙ sym (ap (λ x. s && (d && (x || y))) (either-all f t p.src e within) ∙ ap (λ x. s && x) (and-true d))

ports-any : (t : Term) (p : Packet) (b : Bool) → t.port_named ≡ b → p.sport ≤ 65535
    → list_any (ports-on t p) (sides_of b) ≡ ports_match t p
ports-any t p true e within =
    let s : Bool = holds t.sports.ranges p.sport in
    let d : Bool = holds t.dports.ranges p.dport in
    ap (λ x. (x && d) || ((s && holds (in_both t.dports t.ports).ranges p.dport) || false))
    (both-holds t.sports t.ports p.sport (t.sound.normal SourcePort))
    ∙ ap (λ x. ((s && holds t.ports.ranges p.sport) && d) || ((s && x) || false))
    (both-holds t.dports t.ports p.dport (t.sound.normal DestinationPort))
    ∙ either-way s d (holds t.ports.ranges p.sport) (holds t.ports.ranges p.dport)
ports-any t p false e within =
    let s : Bool = holds t.sports.ranges p.sport in
    let d : Bool = holds t.dports.ranges p.dport in
    let y : Bool = holds t.ports.ranges p.dport in
    or-false (s && d) ∙ sym (ap (λ x. s && (d && (x || y))) (ports-all t p.sport e within) ∙ ap (λ x. s && x) (and-true d))

-- ---- a family

family-is : (f g : Family) → same_family f g ≡ true → g ≡ f
family-is V4 V4 e = refl
family-is V4 V6 e = absurd (both_ways false refl e)
family-is V6 V4 e = absurd (both_ways false refl e)
family-is V6 V6 e = refl

where-same : (b : Bool) (x y : Bool) → (b ≡ true → x ≡ y) → (b && x) ≡ (b && y)
where-same true x y h = h refl
where-same false x y h = refl

pub family-step : (target : Target) (t : Term) (f : Family) (p : Packet) → IsInRange p
    → list_any (λ r. rule_holds r p) (family_rules target t f) ≡ (same_family f p.family && matches_in f (mode_of target) t p)
unfolding family_rules
family-step target t f p is =
    let same : Bool = same_family f p.family in
    let h : Bool = has_protocol f t p.proto in
    let k : Bool = icmp_match f t p && passed-by target t p in
    let ports : Bool = list_any (ports-on t p) (sides_of t.port_named) in
    let sport = is.source_port in
    any-flat (λ r. rule_holds r p) (pair_rules target t f) (pairs_of t)
    ∙ any-as (λ pair. list_any (λ r. rule_holds r p) (pair_rules target t f pair)) (λ pair. same && on-pair f t p (passed-by target t p) pair)
    (λ pair. pair-step target t f pair p is) (pairs_of t)
    ∙ on-sides same h k (addresses-on f t p) (ports-on t p) t.addr_named t.port_named
    ∙ where-same same ((h && list_any (addresses-on f t p) (sides_of t.addr_named)) && (ports && k)) (matches_in f (mode_of target) t p) (λ e.
    ap (λ x. (h && x) && (ports && k)) (addresses-any f t p t.addr_named refl
    (subst (λ g. p.src ≤ top_address g) (family-is f p.family e) is.source))
    ∙ ap (λ x. (h && addresses_match f t p) && (x && k)) (ports-any t p t.port_named refl (omega (arith, sport)))
    ∙ sym (by-parts f (mode_of target) t p))

-- ---- all families of a target

members-any : (rows : Family → List Rule) (test : Rule → Bool) (families : Families) (family : Family) (passed : Family → Bool)
    → ((f : Family) → list_any test (rows f) ≡ (same_family f family && passed f)) → covers families family ≡ true
    → list_any test (flat_map rows (members families)) ≡ passed family
members-any rows test Inet V4 passed h c = ap (list_any test) (append-nil (rows V4)) ∙ h V4
members-any rows test Inet V6 passed h c = absurd (both_ways false refl c)
members-any rows test Inet6 V4 passed h c = absurd (both_ways false refl c)
members-any rows test Inet6 V6 passed h c = ap (list_any test) (append-nil (rows V6)) ∙ h V6
members-any rows test Mixed V4 passed h c =
    ap (λ rs. list_any test (rows V4 ++ rs)) (append-nil (rows V6)) ∙ list_any-append test (rows V4) (rows V6)
    ∙ ap (λ b. b || list_any test (rows V6)) (h V4) ∙ ap (λ b. passed V4 || b) (h V6) ∙ or-false (passed V4)
members-any rows test Mixed V6 passed h c =
    ap (λ rs. list_any test (rows V4 ++ rs)) (append-nil (rows V6)) ∙ list_any-append test (rows V4) (rows V6)
    ∙ ap (λ b. b || list_any test (rows V6)) (h V4) ∙ h V6

by-life : (b : Bool) (target : Target) (t : Term) (p : Packet) → IsInRange p → covers target.families p.family ≡ true
    → list_any (λ r. rule_holds r p) (cond b (flat_map (family_rules target t) (members target.families)) [])
    ≡ (b && matches (mode_of target) t p)
unfolding matches
by-life true target t p is c =
    members-any (family_rules target t) (λ r. rule_holds r p) target.families p.family (λ f. matches_in f (mode_of target) t p)
    (λ f. family-step target t f p is) c
by-life false target t p is c = refl

-- Some rule of a live term holds a packet of the target's families exactly where the term matches it.
pub term-step : (target : Target) (today : Day) (t : Term) (p : Packet) → IsInRange p → covers target.families p.family ≡ true
    → list_any (λ r. rule_holds r p) (term_rules target today t) ≡ decides target today p t
unfolding term_rules
term-step target today t p is c = by-life (is_term_live t target.kind today) target t p is c
