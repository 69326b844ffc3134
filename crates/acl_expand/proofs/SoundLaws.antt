-- The rules of terms are sound rules of the target's filter.
use Rattle.std.proofs.Common.{◌≡◌, ◌≢◌, ℕ, ◌≤◌, Bool, true, false, cond, not, ◌&&◌, ◌||◌, ◌==◌, List, [], ◌∷◌, map, Option, None, Some, inl, inr, refl, ap, sym, subst, ◌∙◌, arith}
use Rattle.std.specs.List.{AllByRecursion, find}
use Rattle.std.proofs.Math.Path.{fun_ext}
use Rattle.std.proofs.lemmas.Bool.{and_from, and_parts, or_from, or_left, both_ways, false_from_ne_true, eqb-true}
use Rattle.acl_packet.specs.declared.addresses.Families.{Families}
use Rattle.acl_packet.specs.declared.addresses.Family.{Family}
use Rattle.acl_packet.specs.declared.addresses.Family.TheVariants.{V4, V6}
use Rattle.acl_packet.specs.declared.packet_fields.Field.{Field}
use Rattle.acl_packet.specs.declared.packet_fields.Field.TheVariants.{Protocol, IcmpType, IcmpCode}
use Rattle.acl_packet.specs.declared.filtering.Verdict.{Verdict}
use Rattle.acl_packet.specs.declared.filtering.Verdict.TheVariants.{Accept, Deny, Reject, Reset, Left}
use Rattle.acl_packet.specs.Addresses.{covers, top_address}
use Rattle.acl_packet.specs.Packets.{foreign_of, has_field, has_ports, is_extension_header, is_icmp, top_of}
use Rattle.acl_packet.proofs.FieldLaws.{by-field}
use Rattle.acl_sets.specs.declared.sets.Range.{Range}
use Rattle.acl_sets.specs.ComputableSets.{cut_all, is_all}
use Rattle.acl_sets.specs.LeastLists.{IsLeastList}
use Rattle.acl_packet.specs.AddressLists.{any_has}
use Rattle.acl_sets.specs.Ranges.{IsNormal, Numbers, Only, holds}
use Rattle.acl_sets.proofs.ComputableLeastListLaws.{halved_space-least}
use Rattle.acl_sets.proofs.ComputableSetLaws.{cut_all-normal}
use Rattle.acl_target.specs.declared.targets.Kind.{Kind}
use Rattle.acl_target.specs.declared.targets.Kind.TheVariants.{Cisco, Juniper, Iptables, Nftables}
use Rattle.acl_terms.specs.declared.options.Mode.{Mode}
use Rattle.acl_terms.specs.declared.options.Mode.TheVariants.{Stateful, Stateless}
use Rattle.acl_terms.specs.declared.options.Opt.{Opt}
use Rattle.acl_terms.specs.declared.options.Opt.TheVariants as options
use Rattle.acl_terms.specs.declared.sides.Side.{Side}
use Rattle.acl_terms.specs.declared.sides.Side.TheVariants.{Whole, Source, Destination}
use Rattle.acl_terms.specs.declared.sides.SidePair.{SidePair}
use Rattle.acl_terms.specs.declared.terms.Term.{Term}
use Rattle.acl_terms.specs.Resolved.{destinations_on, dports_on, has_none, has_protocol, in_both, is_pair_empty, set_in, sources_on, sports_on}
use Rattle.acl_terms.specs.Slips.{is_tcp_or_udp}
use Rattle.acl_terms.specs.Soundness.{HaveField, is_established, is_left, is_protocol, is_reset, needs_tcp}
use Rattle.acl_terms.proofs.EmptyLaws.{pair-empty-law}
use Rattle.acl_terms.proofs.SideLaws.{both-normal, none-held}
use Rattle.acl_platform.specs.declared.rules.Test.{Test}
use Rattle.acl_platform.specs.declared.rules.Test.TheVariants as tests
use Rattle.acl_platform.specs.Rules.{set_of}
use Rattle.acl_platform.specs.SoundFilters.{has_test, has_verdict, IsFull, IsFullList, IsOneOf, IsSoundRule, address_suffixes, is_named_protocol, is_tcp, port_suffixes, protocol_suffixes, tests_flags}
use Rattle.acl_expand.specs.declared.conditions.Conditions.{Conditions}
use Rattle.acl_expand.specs.ExpansionSlips.{extension_headers, header_named}
use Rattle.acl_expand.specs.TermRules.{address_suffix, client_ports, conditions_by, established_conditions, just, least_list, only_protocol, port_suffix, protocols_in, rule_of, udp_alone, udp_half, udp_ports, verdict_on, whole, with_ports}
use Rattle.acl_expand.proofs.SetForms.{just-holds, just-range, least-holds, protocol-holds, tcp-or-udp}
use Rattle.acl_expand.proofs.SideForms.{all-held, destinations-normal, destinations-top, dports-fit, dports-normal, dports_top, some-on, some-ranges, sources-normal, sources-top, sports-fit, sports-normal, sports-top}

-- ---- lists of prefixes

-- The least list of a set is the least list of its own addresses.
least-own : (f : Family) (s : Numbers) → s.top ≡ top_address f → IsNormal 0 s.top s.ranges
    → IsLeastList f (any_has (least_list f s)) (least_list f s)
least-own f s e n =
    let P : (ℕ → Bool) → Type 0 = λ set. IsLeastList f set (least_list f s) in
    subst P (fun_ext (λ a. sym (least-holds f s e n a))) (halved_space-least f s.top s.ranges n)

-- That of a set with some number is not empty.
full-list : (f : Family) (s : Numbers) → s.top ≡ top_address f → IsNormal 0 s.top s.ranges → has_none s ≡ false → IsFullList f (least_list f s)
full-list f s top n some = record {
  least = least-own f s top n;
  some = λ empty. both_ways (has_none s) some ((none-held s n).1 (λ x. sym (least-holds f s top n x) ∙ ap (λ ps. any_has ps x) empty));
}

-- ---- sets

full : (top : ℕ) (s : Numbers) → s.top ≡ top → IsNormal 0 s.top s.ranges → s.ranges ≢ [] → IsFull top s
full top s e n some = record { top_is = e; normal = subst (λ k. IsNormal 0 k s.ranges) e n; some = some }

own-full : (t : Term) (field : Field) → is_protocol field ≡ false → IsFull (top_of field) (set_in field t)
own-full t field e = full (top_of field) (set_in field t) (t.sound.tops field) (t.sound.normal field) (t.sound.some field e)

-- The protocols of a rule are some of its term's.
pub record AreProtocols (f : Family) (t : Term) (s : Numbers) : Type 0 where
  pub full : IsFull 255 s
  pub held : (x : ℕ) → holds s.ranges x ≡ true → has_protocol f t x ≡ true
  pub named : is_all s ≡ false → is_all t.protos ≡ false

family-normal : (f : Family) (t : Term) (b : Bool)
    → IsNormal 0 t.protos.top (cond b t.protos (record { top = t.protos.top; ranges = cut_all (just (foreign_of f) ∷ []) t.protos.ranges })).ranges
family-normal f t true = t.sound.normal Protocol
family-normal f t false =
    let k = foreign_of f in
    cut_all-normal 0 t.protos.top k (just k ∷ []) t.protos.ranges (just-range k) (t.sound.normal Protocol)

family-top : (f : Family) (t : Term) (b : Bool)
    → (cond b t.protos (record { top = t.protos.top; ranges = cut_all (just (foreign_of f) ∷ []) t.protos.ranges })).top ≡ 255
family-top f t true = t.sound.tops Protocol
family-top f t false = t.sound.tops Protocol

family-named : (f : Family) (t : Term) (b : Bool) → is_all t.protos ≡ b
    → is_all (cond b t.protos (record { top = t.protos.top; ranges = cut_all (just (foreign_of f) ∷ []) t.protos.ranges })) ≡ false
    → b ≡ false
family-named f t true e h = sym e ∙ h
family-named f t false e h = refl

family-protocols : (f : Family) (t : Term) (pair : SidePair) → is_pair_empty f t pair ≡ false → AreProtocols f t (protocols_in f t)
family-protocols f t pair h = record {
  full = record {
    top_is = family-top f t (is_all t.protos);
    normal = subst (λ k. IsNormal 0 k (protocols_in f t).ranges) (t.sound.tops Protocol) (family-normal f t (is_all t.protos));
    some = λ empty. both_ways (is_pair_empty f t pair) h ((pair-empty-law f t pair).1 (inr (λ x.
        sym (protocol-holds f t x) ∙ ap (λ rs. holds rs x) empty)));
  };
  held = λ x e. sym (protocol-holds f t x) ∙ e;
  named = λ e. family-named f t (is_all t.protos) refl e;
}

not-all : (t : Term) → Only is_tcp_or_udp t.protos → is_all t.protos ≡ false
not-all t only = false_from_ne_true (is_all t.protos) (λ e. both_ways false refl (only 0 (all-held t.protos 0 e (omega arith))))

some-just : (n : ℕ) → just n ∷ [] ≢ []
some-just n e = cc

one-protocol : (f : Family) (t : Term) (n : ℕ) → n ≤ 255 → Only is_tcp_or_udp t.protos → has_protocol f t n ≡ true
    → AreProtocols f t (only_protocol n)
one-protocol f t n l only h = record {
  full = record { top_is = refl; normal = (omega arith, omega arith, l, tt); some = some-just n };
  held = λ x e. let s : x ≡ n = eqb-true x n (sym (just-holds n x) ∙ e) in ap (λ k. has_protocol f t k) s ∙ h;
  named = λ _. not-all t only;
}

term-holds : (f : Family) (t : Term) (s : Numbers) → AreProtocols f t s → (x : ℕ) → holds s.ranges x ≡ true
    → holds t.protos.ranges x ≡ true
term-holds f t s p x e = (and_parts (holds t.protos.ranges x) (is_all t.protos || not (x == foreign_of f)) (p.held x e)).0

-- What holds of the term's protocols holds of a rule's.
fewer : (f : Family) (t : Term) (s : Numbers) (test : ℕ → Bool) → AreProtocols f t s → Only test t.protos → Only test s
fewer f t s test p only = λ x e. only x (term-holds f t s p x e)

-- ---- which protocols a rule names

other : (rs : List Range) (k x : ℕ) → holds rs k ≡ false → holds rs x ≡ true → (x == k) ≡ false
other rs k x h e = false_from_ne_true (x == k) (λ q. both_ways (holds rs k) h (sym (ap (λ y. holds rs y) (eqb-true x k q)) ∙ e))

shut : (a b : Bool) → a ≡ false → (a || not b) ≡ true → b ≡ false
shut true b e h = absurd (both_ways true e refl)
shut false true e h = absurd (both_ways false refl h)
shut false false e h = refl

not-foreign : (f : Family) (t : Term) (x : ℕ) → is_all t.protos ≡ false → has_protocol f t x ≡ true → (x == foreign_of f) ≡ false
not-foreign f t x all h =
    shut (is_all t.protos) (x == foreign_of f) all
    (and_parts (holds t.protos.ranges x) (is_all t.protos || not (x == foreign_of f)) h).1

passed-by : (b : Bool) (n : ℕ) (rest : Option ℕ) → cond b (Some n) rest ≡ None → (b ≡ false) × (rest ≡ None)
passed-by true n rest e = absurd cc
passed-by false n rest e = (refl, e)

none-that : (test : ℕ → Bool) (ns : List ℕ) → find test ns ≡ None → AllByRecursion (λ n. test n ≡ false) ns
none-that test [] h = tt
none-that test (n ∷ ns) h = let p = passed-by (test n) n (find test ns) h in (p.0, none-that test ns p.1)

-- A term for IPv6 names no extension header.
abbrev pub NoHeader : Family → Term → Type 0
NoHeader V4 t = Unit {0}
NoHeader V6 t = header_named t ≡ None

headers-lack : (t : Term) (b : Bool) → is_all t.protos ≡ b → b ≡ false
    → cond b None (find (λ n. holds t.protos.ranges n) extension_headers) ≡ None
    → AllByRecursion (λ n. holds t.protos.ranges n ≡ false) extension_headers
headers-lack t true e n h = absurd (both_ways true n refl)
headers-lack t false e n h = none-that (λ n. holds t.protos.ranges n) extension_headers h

no-header : (t : Term) (x : ℕ) → NoHeader V6 t → is_all t.protos ≡ false → holds t.protos.ranges x ≡ true
    → is_extension_header x ≡ false
no-header t x h all e =
    let rs = t.protos.ranges in
    let lack = headers-lack t (is_all t.protos) refl all h in
    let zero_ = other rs 0 x (t.sound.protos_lack_0 all) e in
    or_from (x == 0 || x == 43 || x == 44 || x == 51 || x == 59 || x == 60 || x == 135 || x == 139) (x == 140)
    (or_from (x == 0 || x == 43 || x == 44 || x == 51 || x == 59 || x == 60 || x == 135) (x == 139)
    (or_from (x == 0 || x == 43 || x == 44 || x == 51 || x == 59 || x == 60) (x == 135)
    (or_from (x == 0 || x == 43 || x == 44 || x == 51 || x == 59) (x == 60)
    (or_from (x == 0 || x == 43 || x == 44 || x == 51) (x == 59)
    (or_from (x == 0 || x == 43 || x == 44) (x == 51)
    (or_from (x == 0 || x == 43) (x == 44)
    (or_from (x == 0) (x == 43) zero_ (other rs 43 x lack.0 e))
    (other rs 44 x lack.1.0 e)) (other rs 51 x lack.1.1.0 e)) (other rs 59 x lack.1.1.1.0 e))
    (other rs 60 x lack.1.1.1.1.0 e)) (other rs 135 x lack.1.1.1.1.1.0 e)) (other rs 139 x lack.1.1.1.1.1.1.0 e))
    (other rs 140 x lack.1.1.1.1.1.1.1.0 e)

true-not : (b : Bool) → b ≡ false → not b ≡ true
true-not true e = absurd (both_ways true e refl)
true-not false e = refl

names-protocol : (f : Family) (t : Term) (x : ℕ) → NoHeader f t → is_all t.protos ≡ false → has_protocol f t x ≡ true
    → is_named_protocol f x ≡ true
names-protocol V4 t x h all e =
    let held = (and_parts (holds t.protos.ranges x) (is_all t.protos || not (x == 58)) e).0 in
    and_from (not (x == 0)) (not (x == 58))
    (true-not (x == 0) (other t.protos.ranges 0 x (t.sound.protos_lack_0 all) held))
    (true-not (x == 58) (not-foreign V4 t x all e))
names-protocol V6 t x h all e =
    let held = (and_parts (holds t.protos.ranges x) (is_all t.protos || not (x == 1)) e).0 in
    and_from (not (is_extension_header x)) (not (x == 1))
    (true-not (is_extension_header x) (no-header t x h all held))
    (true-not (x == 1) (not-foreign V6 t x all e))

-- ---- fields of ICMP

icmp-left : (t : Term) (x : ℕ) → HaveField IcmpType t.protos → holds t.protos.ranges x ≡ true → (x == 1) ≡ false → (x == 58) ≡ true
icmp-left t x fit held n = fit (λ only. both_ways (x == 1) n (only x held)) x held

icmp-not-all : (t : Term) → HaveField IcmpType t.protos → is_all t.protos ≡ false
icmp-not-all t fit =
    false_from_ne_true (is_all t.protos)
    (λ e. both_ways false refl (icmp-left t 0 fit (all-held t.protos 0 e (omega arith)) refl))

first-icmp : (t : Term) (x : ℕ) (b : Bool) → (x == 1) ≡ b → HaveField IcmpType t.protos → holds t.protos.ranges x ≡ true
    → (x == 58) ≡ false → (x == 1) ≡ true
first-icmp t x true e fit held n = e
first-icmp t x false e fit held n = absurd (both_ways (x == 58) n (icmp-left t x fit held e))

icmp-family : (f : Family) (t : Term) (x : ℕ) → HaveField IcmpType t.protos → holds t.protos.ranges x ≡ true
    → has_protocol f t x ≡ true → is_icmp f x ≡ true
icmp-family V4 t x fit held e = first-icmp t x (x == 1) refl fit held (not-foreign V4 t x (icmp-not-all t fit) e)
icmp-family V6 t x fit held e = icmp-left t x fit held (not-foreign V6 t x (icmp-not-all t fit) e)

-- ---- verdicts

resets : (kind : Kind) (v : Verdict) → verdict_on kind v ≡ Reset → is_reset v ≡ true
resets Cisco Accept e = absurd cc
resets Cisco Deny e = absurd cc
resets Cisco Reject e = absurd cc
resets Cisco Reset e = refl
resets Cisco Left e = absurd cc
resets Juniper v e = ap is_reset e
resets Iptables v e = ap is_reset e
resets Nftables v e = ap is_reset e

known-verdict : (kind : Kind) (v : Verdict) → is_left v ≡ false → has_verdict kind (verdict_on kind v) ≡ true
known-verdict Cisco Accept e = refl
known-verdict Cisco Deny e = refl
known-verdict Cisco Reject e = refl
known-verdict Cisco Reset e = refl
known-verdict Cisco Left e = absurd (both_ways true e refl)
known-verdict Juniper Accept e = refl
known-verdict Juniper Deny e = refl
known-verdict Juniper Reject e = refl
known-verdict Juniper Reset e = refl
known-verdict Juniper Left e = absurd (both_ways true e refl)
known-verdict Iptables Accept e = refl
known-verdict Iptables Deny e = refl
known-verdict Iptables Reject e = refl
known-verdict Iptables Reset e = refl
known-verdict Iptables Left e = absurd (both_ways true e refl)
known-verdict Nftables Accept e = refl
known-verdict Nftables Deny e = refl
known-verdict Nftables Reject e = refl
known-verdict Nftables Reset e = refl
known-verdict Nftables Left e = absurd (both_ways true e refl)

-- ---- one rule

-- What the conditions of a rule owe.
pub record Fits (kind : Kind) (f : Family) (t : Term) (c : Conditions) : Type 0 where
  pub name : IsOneOf c.suffix protocol_suffixes
  pub protos : AreProtocols f t c.protos
  pub dports : IsFull 65535 c.dports
  pub dports_fit : is_all c.dports ≡ false → Only has_ports c.protos
  pub flags : tests_flags c.test ≡ true → Only is_tcp c.protos
  pub known : has_test kind c.test ≡ true

address-suffixed : (side : Side) → IsOneOf (address_suffix side) address_suffixes
address-suffixed Whole = inl refl
address-suffixed Source = inr (inl refl)
address-suffixed Destination = inr (inr (inl refl))

port-suffixed : (side : Side) → IsOneOf (port_suffix side) port_suffixes
port-suffixed Whole = inl refl
port-suffixed Source = inr (inl refl)
port-suffixed Destination = inr (inr (inl refl))

rule-sound : (kind : Kind) (families : Families) (f : Family) (t : Term) (pair : SidePair) (c : Conditions) → covers families f ≡ true
    → is_pair_empty f t pair ≡ false → NoHeader f t → Fits kind f t c → IsSoundRule kind families (rule_of kind f t pair c)
rule-sound kind families f t pair c covered some header fits =
    let s = t.sound in
    let p = fits.protos in
    let side = pair.addresses in
    let has = some-on f t pair some in record {
      family = covered;
      name = (t.name, address_suffix side, port_suffix pair.ports, c.suffix, s.name_is, address-suffixed side, port-suffixed pair.ports, fits.name, refl);
      note = s.note_is;
      sources = full-list f (sources_on side f t) (sources-top side f t) (sources-normal side f t) has.sources;
      destinations = full-list f (destinations_on side f t) (destinations-top side f t) (destinations-normal side f t) has.destinations;
      numbers = by-field (λ field. IsFull (top_of field) (set_of field (rule_of kind f t pair c))) p.full
          (full 65535 (sports_on pair.ports t) (sports-top pair.ports t) (sports-normal pair.ports t) (some-ranges (sports_on pair.ports t) has.sports))
          fits.dports (own-full t IcmpType refl) (own-full t IcmpCode refl);
      numbers_fit = by-field (λ field. is_all (set_of field (rule_of kind f t pair c)) ≡ false → Only (has_field f field) c.protos)
          (λ _ _ _. refl) (λ e. fewer f t c.protos has_ports p (sports-fit pair.ports t e)) fits.dports_fit
          (λ e x h. icmp-family f t x (s.fit IcmpType e) (term-holds f t c.protos p x h) (p.held x h))
          (λ e x h. icmp-family f t x (s.fit IcmpCode e) (term-holds f t c.protos p x h) (p.held x h));
      protocols_named = λ e x h. names-protocol f t x header (p.named e) (p.held x h);
      types_named = s.itypes_lack_255;
      codes_named = s.one_itype;
      flags_fit = fits.flags;
      reset_fits = λ e. fewer f t c.protos is_tcp p (s.reset_fits (resets kind t.verdict e));
      test_known = fits.known;
      verdict_known = known-verdict kind t.verdict s.verdict_is;
    }

-- ---- the conditions of a term

own-ports : (f : Family) (t : Term) (pair : SidePair) → is_pair_empty f t pair ≡ false → IsFull 65535 (dports_on pair.ports t)
own-ports f t pair some =
    full 65535 (dports_on pair.ports t) (dports_top pair.ports t) (dports-normal pair.ports t)
    (some-ranges (dports_on pair.ports t) (some-on f t pair some).dports)

whole-fits : (kind : Kind) (f : Family) (t : Term) (pair : SidePair) (test : Test) → is_pair_empty f t pair ≡ false → has_test kind test ≡ true
    → (tests_flags test ≡ true → Only is_tcp (protocols_in f t)) → Fits kind f t (whole f t pair.ports test)
whole-fits kind f t pair test some known flags =
    let p = family-protocols f t pair some in record {
      name = inl refl;
      protos = p;
      dports = own-ports f t pair some;
      dports_fit = λ e. fewer f t (protocols_in f t) has_ports p (dports-fit pair.ports t e);
      flags = flags;
      known = known;
    }

-- A test of flags where the option asks for TCP alone.
tcp-fits : (kind : Kind) (f : Family) (t : Term) (pair : SidePair) (test : Test) → is_pair_empty f t pair ≡ false → has_test kind test ≡ true
    → needs_tcp t.option ≡ true → Fits kind f t (whole f t pair.ports test)
tcp-fits kind f t pair test some known asks =
    whole-fits kind f t pair test some known
    (λ _. fewer f t (protocols_in f t) is_tcp (family-protocols f t pair some) (t.sound.flags_fit asks))

no-flags : (f : Family) (t : Term) (test : Test) → tests_flags test ≡ false → tests_flags test ≡ true → Only is_tcp (protocols_in f t)
no-flags f t test n e = absurd (both_ways (tests_flags test) n e)

-- ---- `established` where connections are not known

client-normal : IsNormal 0 client_ports.top client_ports.ranges
client-normal = (omega arith, omega arith, omega arith, tt)

-- The ports of UDP are a set up to the greatest port, which may have none.
udp-top : (t : Term) (side : Side) (b : Bool) → (cond b (dports_on side t) (in_both (dports_on side t) client_ports)).top ≡ 65535
udp-top t side true = dports_top side t
udp-top t side false = dports_top side t

udp-normal : (t : Term) (side : Side) (b : Bool)
    → IsNormal 0 (cond b (dports_on side t) (in_both (dports_on side t) client_ports)).top
    (cond b (dports_on side t) (in_both (dports_on side t) client_ports)).ranges
udp-normal t side true = dports-normal side t
udp-normal t side false = both-normal (dports_on side t) client_ports (dports_top side t) (dports-normal side t) client-normal

-- Conditions that leave some port fit, where they do but for that.
with-ports-fit : (kind : Kind) (f : Family) (t : Term) (c : Conditions) → (has_none c.dports ≡ false → Fits kind f t c)
    → AllByRecursion (Fits kind f t) (with_ports c)
with-ports-fit kind f t c fits = by (has_none c.dports) refl
  where
    by : (b : Bool) → has_none c.dports ≡ b → AllByRecursion (Fits kind f t) (cond b [] (c ∷ []))
    by true e = tt
    by false e = (fits e, tt)

with-ports : (t : Term) → Only is_tcp_or_udp t.protos → Only has_ports t.protos
with-ports t only = λ x e. or_left (x == 6 || x == 17) (x == 132) (only x e)

only-one : (n x : ℕ) → holds (only_protocol n).ranges x ≡ true → (x == n) ≡ true
only-one n x e = sym (just-holds n x) ∙ e

tcp-left : (h : Bool) (a b : Bool) → h ≡ ((a && true) || (b && false)) → h ≡ true → a ≡ true
tcp-left h true b e is = refl
tcp-left h false true e is = absurd (both_ways h e is)
tcp-left h false false e is = absurd (both_ways h e is)

or-right : (a b : Bool) → b ≡ true → (a || b) ≡ true
or-right true b e = refl
or-right false b e = e

family-has : (f : Family) (t : Term) (n : ℕ) → (n == foreign_of f) ≡ false → holds t.protos.ranges n ≡ true → has_protocol f t n ≡ true
family-has f t n apart held =
    and_from (holds t.protos.ranges n) (is_all t.protos || not (n == foreign_of f)) held
    (or-right (is_all t.protos) (not (n == foreign_of f)) (true-not (n == foreign_of f) apart))

has-6 : (f : Family) (t : Term) → holds t.protos.ranges 6 ≡ true → has_protocol f t 6 ≡ true
has-6 V4 t e = family-has V4 t 6 refl e
has-6 V6 t e = family-has V6 t 6 refl e

has-17 : (f : Family) (t : Term) → holds t.protos.ranges 17 ≡ true → has_protocol f t 17 ≡ true
has-17 V4 t e = family-has V4 t 17 refl e
has-17 V6 t e = family-has V6 t 17 refl e

udp-full : (t : Term) (side : Side) → has_none (udp_ports t side) ≡ false → IsFull 65535 (udp_ports t side)
udp-full t side some =
    full 65535 (udp_ports t side) (udp-top t side t.dport_named) (udp-normal t side t.dport_named) (some-ranges (udp_ports t side) some)

established-fit : (kind : Kind) (f : Family) (t : Term) (pair : SidePair) (tcp udp : Bool) → is_pair_empty f t pair ≡ false
    → has_test kind tests.AckOrRst ≡ true → has_test kind tests.Plain ≡ true → Only is_tcp_or_udp t.protos
    → holds t.protos.ranges 6 ≡ tcp → holds t.protos.ranges 17 ≡ udp
    → AllByRecursion (Fits kind f t) (established_conditions f t pair.ports tcp udp)
established-fit kind f t pair true true some known plain only e d =
    let p = one-protocol f t 6 (omega arith) only (has-6 f t e) in
    let q = one-protocol f t 17 (omega arith) only (has-17 f t d) in (
      record {
        name = inr (inl refl);
        protos = p;
        dports = own-ports f t pair some;
        dports_fit = λ _. fewer f t (only_protocol 6) has_ports p (with-ports t only);
        flags = λ _ x h. only-one 6 x h;
        known = known;
      },
      with-ports-fit kind f t (udp_half t pair.ports) (λ left. record {
        name = inr (inr (inl refl));
        protos = q;
        dports = udp-full t pair.ports left;
        dports_fit = λ _. fewer f t (only_protocol 17) has_ports q (with-ports t only);
        flags = λ n. absurd (both_ways false refl n);
        known = plain;
      }),
    )
established-fit kind f t pair true false some known plain only e d = (
  whole-fits kind f t pair tests.AckOrRst some known (λ _ x h.
      tcp-left (has_protocol f t x) (x == 6) (x == 17)
      (tcp-or-udp f t x (x == 6) (x == 17) refl refl only ∙ ap (λ y. ((x == 6) && y) || ((x == 17) && holds t.protos.ranges 17)) e
      ∙ ap (λ y. ((x == 6) && true) || ((x == 17) && y)) d)
      ((family-protocols f t pair some).held x h)),
  tt,
)
established-fit kind f t pair false udp some known plain only e d =
    let p = family-protocols f t pair some in
    with-ports-fit kind f t (udp_alone f t pair.ports) (λ left. record {
      name = inl refl;
      protos = p;
      dports = udp-full t pair.ports left;
      dports_fit = λ _. fewer f t (protocols_in f t) has_ports p (with-ports t only);
      flags = λ n. absurd (both_ways false refl n);
      known = plain;
    })

-- ---- any option

-- The tests that a platform knows, where it follows connections and where it does not.
abbrev pub KnowsTests : Kind → Mode → Type 0
KnowsTests kind Stateful = has_test kind tests.State ≡ true
KnowsTests kind Stateless = has_test kind tests.AckOrRst ≡ true

plain-known : (kind : Kind) → has_test kind tests.Plain ≡ true
plain-known Cisco = refl
plain-known Juniper = refl
plain-known Iptables = refl
plain-known Nftables = refl

initial-known : (kind : Kind) → has_test kind tests.SynNotAck ≡ true
initial-known Cisco = refl
initial-known Juniper = refl
initial-known Iptables = refl
initial-known Nftables = refl

rst-known : (kind : Kind) → has_test kind tests.Rst ≡ true
rst-known Cisco = refl
rst-known Juniper = refl
rst-known Iptables = refl
rst-known Nftables = refl

pub option-fits : (o : Opt) (mode : Mode) (kind : Kind) (f : Family) (t : Term) (pair : SidePair) → t.option ≡ o → is_pair_empty f t pair ≡ false
    → KnowsTests kind mode → AllByRecursion (Fits kind f t) (conditions_by o mode f t pair.ports)
option-fits options.Plain mode kind f t pair e some known =
    (whole-fits kind f t pair tests.Plain some (plain-known kind) (no-flags f t tests.Plain refl), tt)
option-fits options.Established Stateful kind f t pair e some known =
    (whole-fits kind f t pair tests.State some known (no-flags f t tests.State refl), tt)
option-fits options.Established Stateless kind f t pair e some known =
    established-fit kind f t pair (holds t.protos.ranges 6) (holds t.protos.ranges 17) some known (plain-known kind)
    (t.sound.established_fits (ap is_established e)) refl refl
option-fits options.TcpEstablished Stateful kind f t pair e some known =
    (whole-fits kind f t pair tests.State some known (no-flags f t tests.State refl), tt)
option-fits options.TcpEstablished Stateless kind f t pair e some known =
    (tcp-fits kind f t pair tests.AckOrRst some known (ap needs_tcp e), tt)
option-fits options.TcpInitial mode kind f t pair e some known =
    (tcp-fits kind f t pair tests.SynNotAck some (initial-known kind) (ap needs_tcp e), tt)
option-fits options.Rst mode kind f t pair e some known =
    (tcp-fits kind f t pair tests.Rst some (rst-known kind) (ap needs_tcp e), tt)

conditions-sound : (kind : Kind) (families : Families) (f : Family) (t : Term) (pair : SidePair) (cs : List Conditions) → covers families f ≡ true
    → is_pair_empty f t pair ≡ false → NoHeader f t → AllByRecursion (Fits kind f t) cs
    → AllByRecursion (IsSoundRule kind families) (map (rule_of kind f t pair) cs)
conditions-sound kind families f t pair [] covered some header h = tt
conditions-sound kind families f t pair (c ∷ cs) covered some header h =
    (rule-sound kind families f t pair c covered some header h.0, conditions-sound kind families f t pair cs covered some header h.1)

pub pair-sound : (kind : Kind) (mode : Mode) (families : Families) (f : Family) (t : Term) (pair : SidePair) → covers families f ≡ true
    → is_pair_empty f t pair ≡ false → NoHeader f t → KnowsTests kind mode
    → AllByRecursion (IsSoundRule kind families) (map (rule_of kind f t pair) (conditions_by t.option mode f t pair.ports))
pair-sound kind mode families f t pair covered some header known =
    conditions-sound kind families f t pair (conditions_by t.option mode f t pair.ports) covered some header
    (option-fits t.option mode kind f t pair refl some known)
