-- The rules of a chain that a sound rule gives are valid.
use Rattle.std.proofs.Common.{zero-le, ◌≡◌, ℕ, zero, suc, ◌≤◌, Bool, true, false, ◌&&◌, ◌||◌, ◌==◌, nat_le, cond, List, [], ◌∷◌, map, Option, None, Some, IfSome, is_none, is_some, refl, ap, sym, ◌∙◌, arith}
use Rattle.std.specs.List.{AllByRecursion}
use Rattle.std.proofs.lemmas.Bool.{and_from, false≢true, leb-true, or_right}
use Rattle.std.proofs.Math.Nat.{suc-le-suc_iff}
use Rattle.acl_packet.specs.declared.packet_fields.Field.TheVariants.{SourcePort, DestinationPort, IcmpType, IcmpCode}
use Rattle.acl_packet.specs.declared.addresses.Families.{Families}
use Rattle.acl_packet.specs.declared.addresses.Family.{Family}
use Rattle.acl_packet.specs.declared.addresses.Prefix.{Prefix}
use Rattle.acl_packet.specs.declared.filtering.Verdict.{Verdict}
use Rattle.acl_packet.specs.declared.filtering.Verdict.TheVariants.{Accept, Deny, Reject, Reset, Left}
use Rattle.acl_packet.specs.Addresses.{IsPrefixOf}
use Rattle.acl_packet.specs.Packets.{has_ports, icmp_of, is_icmp}
use Rattle.acl_sets.specs.declared.sets.Range.{Range}
use Rattle.acl_sets.specs.ComputableSets.{covers, is_all}
use Rattle.acl_sets.specs.OneNumber.{IsOneNumber}
use Rattle.acl_sets.specs.Ranges.{Numbers, Only}
use Rattle.acl_sets.proofs.RangeLaws.{at_top}
use Rattle.acl_target.specs.declared.targets.Kind.TheVariants.{Iptables}
use Rattle.acl_platform.specs.declared.rules.Rule.{Rule}
use Rattle.acl_platform.specs.declared.rules.Test.{Test}
use Rattle.acl_platform.specs.declared.rules.Test.TheVariants.{Plain, AckOrRst, SynNotAck, Rst, State}
use Rattle.acl_platform.specs.Choices.{number_choices, pairs}
use Rattle.acl_platform.specs.SoundFilters.{has_verdict, is_tcp, IsSoundRule, tests_flags}
use Rattle.acl_platform.proofs.CombinationFacts.{all-numbers, all-prefixes, OfNumbers}
use Rattle.acl_platform.proofs.PairLaws.{all-pairs}
use Rattle.acl_platform.proofs.NamedNumbers.{named, no-icmp, protocol-is, type-is}
use Rattle.acl_rows.proofs.ListLaws.{all_flat}
use Rattle.acl_rows.specs.RuleParts.{IsAddresses, has_port_proto, is_empty, is_proto}
use Rattle.ipt_lang.specs.declared.documents.Act.{Act}
use Rattle.ipt_lang.specs.declared.documents.Act.TheVariants.{Log, Decide}
use Rattle.ipt_lang.specs.declared.documents.Flags.{Flags}
use Rattle.ipt_lang.specs.Documents.{act_fits, code_fits, flags_fit, IsRule, ports_fit, type_fits}
use Rattle.gen_iptables.proofs.GroupLaws.{all-groups, IsGroupOf}
use Rattle.gen_iptables.specs.Groups.{group_choices}
use Rattle.gen_iptables.specs.Sections.{address_of, Back, backs, chain_rule, chain_rules, combinations, ends_of, flag_choices, Front, fronts, ChainParts, rules_for}

-- ---- what each combination is made of

-- A choice of flags: there is one only where the rule tests them.
abbrev OfTest : Test → Option Flags → Type 0
OfTest test o = is_none o ≡ false → tests_flags test ≡ true

flags-are : (test : Test) → AllByRecursion (OfTest test) (flag_choices test)
flags-are Plain = (λ h. absurd (false≢true (sym h)), tt)
flags-are AckOrRst = (λ h. refl, (λ h. refl, tt))
flags-are SynNotAck = (λ h. refl, tt)
flags-are Rst = (λ h. refl, tt)
flags-are State = (λ h. absurd (false≢true (sym h)), tt)

abbrev OfFront : Rule → Front → Type 0
OfFront r c = OfNumbers r.protos c.0 × (IsPrefixOf r.family c.1.0 × IsPrefixOf r.family c.1.1)

abbrev OfBack : Rule → Back → Type 0
OfBack r c = OfNumbers r.itypes c.0 × (OfNumbers r.icodes c.1.0 × OfTest r.test c.1.1)

abbrev pub OfParts : Rule → ChainParts → Type 0
OfParts r c = OfFront r c.0 × (IsGroupOf r.sports c.1.0 × (IsGroupOf r.dports c.1.1.0 × OfBack r c.1.1.1))

pub parts-are : (families : Families) (r : Rule) → IsSoundRule Iptables families r → AllByRecursion (OfParts r) (combinations r)
parts-are families r h =
    let P : Prefix → Type 0 = IsPrefixOf r.family in
    let Ends : Prefix × Prefix → Type 0 = λ c. P c.0 × P c.1 in
    let Last : List Range × Back → Type 0 = λ c. IsGroupOf r.dports c.0 × OfBack r c.1 in
    let Ports : List Range × (List Range × Back) → Type 0 = λ c. IsGroupOf r.sports c.0 × Last c.1 in
    let Behind : Option ℕ × Option Flags → Type 0 = λ c. OfNumbers r.icodes c.0 × OfTest r.test c.1 in
    let codes = number_choices r.icodes in
    let flags = flag_choices r.test in
    all-pairs (OfFront r) Ports (fronts r) (pairs (group_choices r.sports) (pairs (group_choices r.dports) (backs r)))
    (all-pairs (OfNumbers r.protos) Ends (number_choices r.protos) (pairs r.src r.dst) (all-numbers r.protos)
    (all-pairs P P r.src r.dst (all-prefixes r.family r.src h.sources) (all-prefixes r.family r.dst h.destinations)))
    (all-pairs (IsGroupOf r.sports) Last (group_choices r.sports) (pairs (group_choices r.dports) (backs r)) (all-groups r.sports (h.numbers SourcePort))
    (all-pairs (IsGroupOf r.dports) (OfBack r) (group_choices r.dports) (backs r) (all-groups r.dports (h.numbers DestinationPort))
    (all-pairs (OfNumbers r.itypes) Behind (number_choices r.itypes) (pairs codes flags) (all-numbers r.itypes)
    (all-pairs (OfNumbers r.icodes) (OfTest r.test) codes flags (all-numbers r.icodes) (flags-are r.test)))))

-- ---- addresses

some-bits : (n : ℕ) → (n == 0) ≡ false → 1 ≤ n
some-bits zero h = absurd (false≢true (sym h))
some-bits (suc n) h = suc-le-suc_iff.1 zero-le

address-by : (f : Family) (p : Prefix) (b : Bool) → (p.len == 0) ≡ b → IsPrefixOf f p → IfSome (cond b None (Some p)) (IsAddresses f)
address-by f p true e h = tt
address-by f p false e h = (h, some-bits p.len e)

address-is : (f : Family) (p : Prefix) → IsPrefixOf f p → IfSome (address_of p) (IsAddresses f)
address-is f p h = address-by f p (p.len == 0) refl h

-- ---- what belongs to a protocol

port-protocol : (protos : Numbers) (proto : Option ℕ) → OfNumbers protos proto → Only has_ports protos → has_port_proto proto ≡ true
port-protocol protos proto h only =
    let one = named has_ports protos proto h refl only in
    ap has_port_proto one.1.0 ∙ one.1.1.1

ports-fit-by : (s d protos : Numbers) (proto : Option ℕ) (g e : List Range) (b c : Bool) → is_all s ≡ b → is_all d ≡ c → OfNumbers protos proto
    → IsGroupOf s g → IsGroupOf d e → (is_all s ≡ false → Only has_ports protos) → (is_all d ≡ false → Only has_ports protos)
    → (is_empty (map ends_of g) && is_empty (map ends_of e) || has_port_proto proto) ≡ true
ports-fit-by s d protos proto g e true true i j h u v k l =
    ap (λ x. is_empty (map ends_of x) && is_empty (map ends_of e) || has_port_proto proto) (u.none i)
    ∙ ap (λ x. is_empty (map ends_of x) || has_port_proto proto) (v.none j)
ports-fit-by s d protos proto g e false c i j h u v k l =
    or_right (is_empty (map ends_of g) && is_empty (map ends_of e)) (has_port_proto proto) (port-protocol protos proto h (k i))
ports-fit-by s d protos proto g e true false i j h u v k l =
    or_right (is_empty (map ends_of g) && is_empty (map ends_of e)) (has_port_proto proto) (port-protocol protos proto h (l j))

type-fits-by : (f : Family) (s protos : Numbers) (proto o : Option ℕ) → OfNumbers protos proto → OfNumbers s o
    → (is_all s ≡ false → Only (is_icmp f) protos) → (is_none o || is_proto proto (icmp_of f)) ≡ true
type-fits-by f s protos proto None h k only = refl
type-fits-by f s protos proto (Some n) h k only =
    let one = named (is_icmp f) protos proto h (no-icmp f) (only k.0) in
    ap (λ q. is_proto q (icmp_of f)) one.1.0 ∙ one.1.1.1

-- a set of one number has not every number to 255
one-covers : (n : ℕ) → covers (record { low = n; high = n } ∷ []) 0 255 ≡ false
one-covers n = bound_cases (nat_le n 0) (nat_le 255 n) refl refl where
  bound_cases : (a b : Bool) → nat_le n 0 ≡ a → nat_le 255 n ≡ b → (a && b || false) ≡ false
  bound_cases false b h k = refl
  bound_cases true false h k = refl
  bound_cases true true h k = let low = leb-true n 0 h in let high = leb-true 255 n k in absurd (omega (arith, low, high))

one-not-all : (s : Numbers) → s.top ≡ 255 → IsOneNumber s → is_all s ≡ false
one-not-all s top one = ap (λ rs. covers rs 0 s.top) one.1 ∙ ap (λ t. covers (record { low = one.0; high = one.0 } ∷ []) 0 t) top ∙ one-covers one.0

code-is : (families : Families) (r : Rule) (code : Option ℕ) → IsSoundRule Iptables families r → OfNumbers r.icodes code → IfSome code (λ n. n ≤ 255)
code-is families r None h k = tt
code-is families r (Some n) h k = at_top 0 255 r.icodes.ranges n (h.numbers IcmpCode).normal k.1

-- a code is written only behind a type
code-fits-by : (types codes : Numbers) (o code : Option ℕ) → OfNumbers types o → OfNumbers codes code → (is_all codes ≡ false → is_all types ≡ false)
    → (is_none code || is_some o) ≡ true
code-fits-by types codes o None h k one = refl
code-fits-by types codes None (Some c) h k one = absurd (false≢true (sym (one k.0) ∙ h))
code-fits-by types codes (Some n) (Some c) h k one = refl

only-tcp : (protos : Numbers) (proto : Option ℕ) → OfNumbers protos proto → Only is_tcp protos → is_proto proto 6 ≡ true
only-tcp protos proto h only =
    let one = named is_tcp protos proto h refl only in
    ap (λ o. is_proto o 6) one.1.0 ∙ one.1.1.1

flags-fit-by : (test : Test) (o : Option Flags) (proto : Option ℕ) → OfTest test o → (tests_flags test ≡ true → is_proto proto 6 ≡ true)
    → (is_none o || is_proto proto 6) ≡ true
flags-fit-by test None proto h k = refl
flags-fit-by test (Some flags) proto h k = k (h refl)

decision-fits : (v : Verdict) (proto : Option ℕ) → has_verdict Iptables v ≡ true → (v ≡ Reset → is_proto proto 6 ≡ true)
    → act_fits proto (Decide v) ≡ true
decision-fits Accept proto h k = refl
decision-fits Deny proto h k = refl
decision-fits Reject proto h k = refl
decision-fits Reset proto h k = k refl
decision-fits Left proto h k = absurd (false≢true h)

-- ---- the rules

rule-is : (families : Families) (r : Rule) (c : ChainParts) (act : Act) → IsSoundRule Iptables families r → OfParts r c → act_fits c.0.0 act ≡ true
    → IsRule r.family (chain_rule r c act)
rule-is families r c act h k fits =
    let rule = chain_rule r c act in
    let proto = c.0.0 in
    record {
      protocol = protocol-is Iptables families r proto h k.0.0;
      source = address-is r.family c.0.1.0 k.0.1.0;
      destination = address-is r.family c.0.1.1 k.0.1.1;
      source_ports = k.1.0.ports;
      destination_ports = k.1.1.0.ports;
      icmp_type = type-is Iptables families r c.1.1.1.0 h k.1.1.1.0;
      icmp_code = code-is families r c.1.1.1.1.0 h k.1.1.1.1.0;
      fit = and_from (ports_fit rule && type_fits r.family rule) (code_fits rule && (flags_fit rule && act_fits proto act))
          (and_from (ports_fit rule) (type_fits r.family rule)
          (ports-fit-by r.sports r.dports r.protos proto c.1.0 c.1.1.0 (is_all r.sports) (is_all r.dports) refl refl k.0.0 k.1.0 k.1.1.0
          (h.numbers_fit SourcePort) (h.numbers_fit DestinationPort))
          (type-fits-by r.family r.itypes r.protos proto c.1.1.1.0 k.0.0 k.1.1.1.0 (h.numbers_fit IcmpType)))
          (and_from (code_fits rule) (flags_fit rule && act_fits proto act)
          (code-fits-by r.itypes r.icodes c.1.1.1.0 c.1.1.1.1.0 k.1.1.1.0 k.1.1.1.1.0
          (λ b. one-not-all r.itypes (h.numbers IcmpType).top_is (h.codes_named b)))
          (and_from (flags_fit rule) (act_fits proto act)
          (flags-fit-by r.test c.1.1.1.1.1 proto k.1.1.1.1.1 (λ t. only-tcp r.protos proto k.0.0 (h.flags_fit t))) fits));
    }

logged-by : (families : Families) (r : Rule) (c : ChainParts) (b : Bool) → IsSoundRule Iptables families r → OfParts r c
    → AllByRecursion (IsRule r.family) (map (chain_rule r c) (cond b (Log ∷ Decide r.verdict ∷ []) (Decide r.verdict ∷ [])))
logged-by families r c true h k =
    let last = decision-fits r.verdict c.0.0 h.verdict_known (λ v. only-tcp r.protos c.0.0 k.0.0 (h.reset_fits v)) in
    (rule-is families r c Log h k refl, (rule-is families r c (Decide r.verdict) h k last, tt))
logged-by families r c false h k =
    let last = decision-fits r.verdict c.0.0 h.verdict_known (λ v. only-tcp r.protos c.0.0 k.0.0 (h.reset_fits v)) in
    (rule-is families r c (Decide r.verdict) h k last, tt)

pub rules-are-valid : (families : Families) (r : Rule) → IsSoundRule Iptables families r → AllByRecursion (IsRule r.family) (chain_rules r)
rules-are-valid families r h =
    all_flat (OfParts r) (IsRule r.family) (rules_for r) (λ c k. logged-by families r c r.log h k) (combinations r) (parts-are families r h)
