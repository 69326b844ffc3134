-- The term of a rule that has no limit is one of a valid document.
use Rattle.std.proofs.Common.{lit≤, ◌≡◌, ◌≢◌, ℕ, ◌+◌, ◌-◌, ◌≤◌, Bool, true, false, ◌&&◌, ◌||◌, ◌==◌, cond, List, [], ◌∷◌, ◌++◌, length, map, IfSome, is_none, refl, ap, sym, ◌∙◌, arith}
use Rattle.std.specs.List.{AllByRecursion, list_all, range_with_len}
use Rattle.std.proofs.Math.Nat.{le_trans}
use Rattle.std.proofs.lemmas.Bool.{and_from, false≢true, or_right}
use Rattle.std.proofs.lemmas.Bool.Decides.{Decides-eqb, nat_tests}
use Rattle.acl_packet.specs.declared.packet_fields.Field.TheVariants.{Protocol, SourcePort, DestinationPort, IcmpType, IcmpCode}
use Rattle.acl_packet.specs.declared.addresses.Families.{Families}
use Rattle.acl_packet.specs.declared.filtering.Verdict.{Verdict}
use Rattle.acl_packet.specs.declared.filtering.Verdict.TheVariants.{Accept, Deny, Reject, Reset, Left}
use Rattle.acl_packet.specs.Packets.{has_ports, icmp_of}
use Rattle.acl_text.specs.Names.{is_safe_text}
use Rattle.acl_text.specs.Notes.{is_note}
use Rattle.acl_sets.specs.ComputableSets.{covers, is_all}
use Rattle.acl_sets.specs.OneNumber.{IsOneNumber}
use Rattle.acl_sets.specs.Ranges.{holds, Numbers, Only}
use Rattle.acl_target.specs.declared.targets.Kind.TheVariants.{Juniper}
use Rattle.acl_platform.specs.declared.rules.Rule.{Rule}
use Rattle.acl_platform.specs.declared.rules.Test.{Test}
use Rattle.acl_platform.specs.declared.rules.Test.TheVariants.{Plain, AckOrRst, SynNotAck, Rst, State}
use Rattle.acl_platform.specs.Choices.{numbers_of}
use Rattle.acl_platform.specs.Elements.{number_elements, port_elements}
use Rattle.acl_platform.specs.Limits.{names_sctp_ports}
use Rattle.acl_platform.specs.SoundFilters.{has_verdict, IsFull, IsSoundRule, tests_flags}
use Rattle.acl_platform.proofs.ChoiceLaws.{some-numbers}
use Rattle.acl_platform.proofs.CombinationFacts.{all-weaker}
use Rattle.acl_platform.proofs.ElementLaws.{addresses-are, alone, not-all, not-all-elements, numbers-are, numbers-small, ports-are}
use Rattle.acl_platform.proofs.NamedNumbers.{no-icmp}
use Rattle.acl_platform.proofs.RuleNames.{rule-name}
use Rattle.acl_platform.proofs.RuleNumbers.{no-destination, no-source, tcp-or-udp, type-most}
use Rattle.acl_rows.specs.RuleParts.{is_empty}
use Rattle.junos_lang.specs.Documents.{are_tcp_or_udp, codes_fit, is_alone, IsTerm, ports_fit, test_fits, types_fit, verdict_fits}
use Rattle.gen_junos.specs.Sections.{note_of, term_of, test_of}

-- ---- protocols that pass a test which 0 does not

itself : (n : ℕ) → (n == n) ≡ true
itself n = (Decides-eqb n n).1 refl

is-alone : (s : Numbers) (k : ℕ) → IsFull 255 s → (0 == k) ≡ false → Only (λ n. n == k) s → is_alone (number_elements s) k ≡ true
is-alone s k h none only = ap (λ ns. is_alone ns k) (alone s k h none only) ∙ itself k

-- ---- ports

full : (ns : List ℕ) → ns ≢ [] → list_all (λ n. n == 6 || n == 17) ns ≡ true → are_tcp_or_udp ns ≡ true
full [] some all = absurd (some refl)
full (n ∷ ns) some all = all

all-pass : (test : ℕ → Bool) (ns : List ℕ) → AllByRecursion (λ n. test n ≡ true) ns → list_all test ns ≡ true
all-pass test [] h = refl
all-pass test (n ∷ ns) h = and_from (test n) (list_all test ns) h.0 (all-pass test ns h.1)

ports-known : (s : Numbers) → IsFull 255 s → Only has_ports s → holds s.ranges 132 ≡ false → are_tcp_or_udp (number_elements s) ≡ true
ports-known s h only none =
    let e = not-all-elements s (not-all s has_ports refl only) in
    let all = all-weaker {P = λ n. (is_all s ≡ false) × (holds s.ranges n ≡ true)} {Q = λ n. (n == 6 || n == 17) ≡ true}
    (λ n k. tcp-or-udp s n only none k.1) (number_elements s) (numbers-are s) in
    full (number_elements s) (λ none_left. some-numbers 0 255 s.ranges h.normal h.some (sym e ∙ none_left))
    (all-pass (λ n. n == 6 || n == 17) (number_elements s) all)

no-ports : (s : Numbers) → is_all s ≡ true → port_elements s ≡ []
no-ports s e = ap (λ b. map (λ r. (r.low, r.high)) (cond b [] s.ranges)) e

ports-by : (families : Families) (r : Rule) → IsSoundRule Juniper families r → names_sctp_ports r ≡ false
    → (sports dports : Bool) → is_all r.sports ≡ sports → is_all r.dports ≡ dports → ports_fit (term_of r) ≡ true
ports-by families r h u true true e f =
    let t = are_tcp_or_udp (number_elements r.protos) in
    ap (λ ps. is_empty ps && is_empty (port_elements r.dports) || t) (no-ports r.sports e)
    ∙ ap (λ ps. is_empty ps || t) (no-ports r.dports f)
ports-by families r h u true false e f =
    or_right (is_empty (port_elements r.sports) && is_empty (port_elements r.dports)) (are_tcp_or_udp (number_elements r.protos))
    (ports-known r.protos (h.numbers Protocol) (h.numbers_fit DestinationPort f)
    (no-destination (holds r.protos.ranges 132) (is_all r.sports) (is_all r.dports) u f))
ports-by families r h u false dports e f =
    or_right (is_empty (port_elements r.sports) && is_empty (port_elements r.dports)) (are_tcp_or_udp (number_elements r.protos))
    (ports-known r.protos (h.numbers Protocol) (h.numbers_fit SourcePort e)
    (no-source (holds r.protos.ranges 132) (is_all r.sports) (is_all r.dports) u e))

-- ---- types, codes, tests and verdicts

types-by : (families : Families) (r : Rule) → IsSoundRule Juniper families r → (b : Bool) → is_all r.itypes ≡ b → types_fit r.family (term_of r) ≡ true
types-by families r h true e =
    ap (λ b. is_empty (numbers_of (cond b [] r.itypes.ranges)) || is_alone (number_elements r.protos) (icmp_of r.family)) e
types-by families r h false e =
    or_right (is_empty (number_elements r.itypes)) (is_alone (number_elements r.protos) (icmp_of r.family))
    (is-alone r.protos (icmp_of r.family) (h.numbers Protocol) (no-icmp r.family) (h.numbers_fit IcmpType e))

not-covered : (n : ℕ) → covers (record { low = n; high = n } ∷ []) 0 255 ≡ false
not-covered n = grind (arith, nat_tests)

-- a set of one number has one element
one-element : (s : Numbers) → IsFull 255 s → IsOneNumber s → (length (number_elements s) == 1) ≡ true
one-element s h one =
    let n = one.0 in
    let some = ap (λ rs. covers rs 0 s.top) one.1 ∙ ap (covers (record { low = n; high = n } ∷ []) 0) h.top_is ∙ not-covered n in
    let count : n + 1 - n ≡ 1 = omega arith in
    ap (λ ns. length ns == 1) (not-all-elements s some ∙ ap numbers_of one.1 ∙ ap (λ k. range_with_len n k ++ []) count)

codes-by : (families : Families) (r : Rule) → IsSoundRule Juniper families r → (b : Bool) → is_all r.icodes ≡ b → codes_fit (term_of r) ≡ true
codes-by families r h true e =
    ap (λ b. is_empty (numbers_of (cond b [] r.icodes.ranges)) || length (number_elements r.itypes) == 1) e
codes-by families r h false e =
    or_right (is_empty (number_elements r.icodes)) (length (number_elements r.itypes) == 1)
    (one-element r.itypes (h.numbers IcmpType) (h.codes_named e))

test-by : (test : Test) (protos : List ℕ) → (tests_flags test ≡ true → is_alone protos 6 ≡ true)
    → (is_none (test_of test) || is_alone protos 6) ≡ true
test-by Plain protos h = refl
test-by AckOrRst protos h = h refl
test-by SynNotAck protos h = h refl
test-by Rst protos h = h refl
test-by State protos h = refl

verdict-by : (v : Verdict) (protos : List ℕ) → has_verdict Juniper v ≡ true → (v ≡ Reset → is_alone protos 6 ≡ true) → verdict_fits v protos ≡ true
verdict-by Accept protos h k = refl
verdict-by Deny protos h k = refl
verdict-by Reject protos h k = refl
verdict-by Reset protos h k = k refl
verdict-by Left protos h k = absurd (false≢true h)

note-safe : (note : List ℕ) → is_note note ≡ true → IfSome (note_of note) (λ text. is_safe_text text ≡ true)
note-safe [] h = tt
note-safe (b ∷ bs) h = h

-- ---- the term

pub term-is : (families : Families) (r : Rule) → IsSoundRule Juniper families r → length r.name ≤ 64 → names_sctp_ports r ≡ false
    → IsTerm r.family (term_of r)
term-is families r h short u =
    let t = term_of r in
    let tcp = is-alone r.protos 6 (h.numbers Protocol) refl in
    record {
      noted = note-safe r.note h.note;
      named = rule-name r.name h.name (le_trans short (lit≤ tt));
      sources = addresses-are r.family r.src h.sources;
      destinations = addresses-are r.family r.dst h.destinations;
      protocols = numbers-small r.protos (h.numbers Protocol);
      source_ports = ports-are r.sports (h.numbers SourcePort);
      destination_ports = ports-are r.dports (h.numbers DestinationPort);
      icmp_types = all-weaker (λ n k. type-most r.itypes n (h.numbers IcmpType).normal (h.types_named k.0) k.1)
          (number_elements r.itypes) (numbers-are r.itypes);
      icmp_codes = numbers-small r.icodes (h.numbers IcmpCode);
      fit = and_from (ports_fit t) (types_fit r.family t && (codes_fit t && (test_fits t && verdict_fits t.verdict t.protos)))
          (ports-by families r h u (is_all r.sports) (is_all r.dports) refl refl)
          (and_from (types_fit r.family t) (codes_fit t && (test_fits t && verdict_fits t.verdict t.protos))
          (types-by families r h (is_all r.itypes) refl)
          (and_from (codes_fit t) (test_fits t && verdict_fits t.verdict t.protos)
          (codes-by families r h (is_all r.icodes) refl)
          (and_from (test_fits t) (verdict_fits t.verdict t.protos)
          (test-by r.test t.protos (λ e. tcp (h.flags_fit e))) (verdict-by r.verdict t.protos h.verdict_known (λ e. tcp (h.reset_fits e))))));
    }
