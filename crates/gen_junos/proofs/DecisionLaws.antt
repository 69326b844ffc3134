-- The section of an accepted filter decides packets as the filter does.
use Rattle.std.proofs.Common.{◌≡◌, ◌^◌, ◌<◌, Bool, true, false, ◌&&◌, cond, List, [], ◌∷◌, map, None, Some, refl, ap, sym, subst, ◌∙◌}
use Rattle.std.specs.List.{AllByRecursion}
use Rattle.std.proofs.lemmas.Bool.{false≢true}
use Rattle.acl_packet.specs.declared.addresses.Families.{Families}
use Rattle.acl_packet.specs.declared.addresses.Families.TheVariants.{Inet, Inet6, Mixed}
use Rattle.acl_packet.specs.declared.addresses.Family.{Family}
use Rattle.acl_packet.specs.declared.addresses.Family.TheVariants.{V4, V6}
use Rattle.acl_packet.specs.declared.filtering.Outcome.{Outcome}
use Rattle.acl_packet.specs.declared.filtering.Verdict.TheVariants as verdicts
use Rattle.acl_packet.specs.declared.packet_fields.Field.TheVariants.{Protocol, SourcePort, DestinationPort, IcmpType, IcmpCode}
use Rattle.acl_packet.specs.declared.packets.Packet.{Packet}
use Rattle.acl_packet.specs.Addresses.{covers, first_family, same_family, width_of}
use Rattle.acl_packet.specs.Outcomes.{unlogged}
use Rattle.acl_packet.specs.Packets.{IsPacket}
use Rattle.acl_packet.specs.AddressLists.{any_has}
use Rattle.acl_sets.specs.Ranges.{holds}
use Rattle.acl_target.specs.declared.targets.Ending.{Ending}
use Rattle.acl_target.specs.declared.targets.Ending.TheVariants.{Deny}
use Rattle.acl_target.specs.declared.targets.Kind.TheVariants.{Juniper}
use Rattle.acl_target.specs.Clashes.{is_mixed}
use Rattle.acl_target.specs.FilterEndings.{ending_outcome}
use Rattle.acl_platform.specs.declared.filters.Filter.{Filter}
use Rattle.acl_platform.specs.declared.rules.Rule.{Rule}
use Rattle.acl_platform.specs.declared.rules.Test.{Test}
use Rattle.acl_platform.specs.declared.rules.Test.TheVariants.{Plain, AckOrRst, SynNotAck, Rst, State}
use Rattle.acl_platform.specs.Platforms.{DecidesAs, IsAccepted}
use Rattle.acl_platform.specs.Rules.{decided_by, passes, rule_holds, rules_outcome, sets_hold}
use Rattle.acl_platform.specs.SoundFilters.{has_test, IsSoundRule}
use Rattle.acl_platform.proofs.AcceptedFilters.{rules-are, target-fits}
use Rattle.acl_platform.proofs.ElementLaws.{addresses-hold, numbers-hold, ports-hold}
use Rattle.acl_platform.proofs.FieldLaws.{sets-told}
use Rattle.acl_platform.proofs.SoundRules.{in-tops}
use Rattle.junos_lang.specs.Walks.{section_outcome, term_holds, test_holds, walk}
use Rattle.gen_junos.specs.Limits.{is_for_junos, limit_of}
use Rattle.gen_junos.specs.Sections.{default_term, section_of, term_of, terms_of, test_of}

-- ---- a rule

test-same : (test : Test) (p : Packet) → has_test Juniper test ≡ true → test_holds (test_of test) p.flags ≡ passes test p
test-same Plain p h = refl
test-same AckOrRst p h = refl
test-same SynNotAck p h = refl
test-same Rst p h = refl
test-same State p h = absurd (false≢true h)

regrouped : (proto src dst sport dport itype icode test : Bool)
    → ((src && dst) && ((sport && dport) && (proto && (itype && (icode && test)))))
    ≡ ((proto && (src && (dst && (sport && (dport && (itype && icode)))))) && test)
regrouped false false dst sport dport itype icode test = refl
regrouped false true false sport dport itype icode test = refl
regrouped false true true false dport itype icode test = refl
regrouped false true true true false itype icode test = refl
regrouped false true true true true itype icode test = refl
regrouped true false dst sport dport itype icode test = refl
regrouped true true false sport dport itype icode test = refl
regrouped true true true false dport itype icode test = refl
regrouped true true true true false itype icode test = refl
regrouped true true true true true false icode test = refl
regrouped true true true true true true icode test = refl

eight-same : {src dst sport dport proto itype icode test a b c d e f g h : Bool} → src ≡ a → dst ≡ b → sport ≡ c → dport ≡ d → proto ≡ e → itype ≡ f
    → icode ≡ g → test ≡ h
    → ((src && dst) && ((sport && dport) && (proto && (itype && (icode && test))))) ≡ ((a && b) && ((c && d) && (e && (f && (g && h)))))
eight-same {src = src} {dst = dst} {sport = sport} {dport = dport} {proto = proto} {itype = itype} {icode = icode} {test = test}
    {a = a} {b = b} {c = c} {d = d} {e = e} {f = f} {g = g} {h = h} i j k l m n o q =
    ap (λ x. (x && dst) && ((sport && dport) && (proto && (itype && (icode && test))))) i
    ∙ ap (λ x. (a && x) && ((sport && dport) && (proto && (itype && (icode && test))))) j
    ∙ ap (λ x. (a && b) && ((x && dport) && (proto && (itype && (icode && test))))) k
    ∙ ap (λ x. (a && b) && ((c && x) && (proto && (itype && (icode && test))))) l
    ∙ ap (λ x. (a && b) && ((c && d) && (x && (itype && (icode && test))))) m
    ∙ ap (λ x. (a && b) && ((c && d) && (e && (x && (icode && test))))) n
    ∙ ap (λ x. (a && b) && ((c && d) && (e && (f && (x && test))))) o
    ∙ ap (λ x. (a && b) && ((c && d) && (e && (f && (g && x))))) q

term-same : (families : Families) (r : Rule) (p : Packet) → IsSoundRule Juniper families r → IsPacket p → p.family ≡ r.family
    → term_holds (term_of r) p ≡ (sets_hold r p && passes r.test p)
term-same families r p h k e =
    let source = subst (λ f. p.src < 2 ^ width_of f) e k.source in
    let destination = subst (λ f. p.dst < 2 ^ width_of f) e k.destination in
    let tops = in-tops Juniper families r p h k in
    eight-same (addresses-hold r.family r.src p.src h.sources source) (addresses-hold r.family r.dst p.dst h.destinations destination)
    (ports-hold r.sports p.sport (h.numbers SourcePort).some (tops SourcePort)) (ports-hold r.dports p.dport (h.numbers DestinationPort).some (tops DestinationPort))
    (numbers-hold 255 r.protos p.proto (h.numbers Protocol) (tops Protocol)) (numbers-hold 255 r.itypes p.itype (h.numbers IcmpType) (tops IcmpType))
    (numbers-hold 255 r.icodes p.icode (h.numbers IcmpCode) (tops IcmpCode)) (test-same r.test p h.test_known)
    ∙ regrouped (holds r.protos.ranges p.proto) (any_has r.src p.src) (any_has r.dst p.dst) (holds r.sports.ranges p.sport)
    (holds r.dports.ranges p.dport) (holds r.itypes.ranges p.itype) (holds r.icodes.ranges p.icode) (passes r.test p)
    ∙ ap (λ b. b && passes r.test p) (sym (sets-told r p))

-- ---- families

-- a filter of one family covers that family alone
pub one-family : (fs : Families) (f : Family) → is_mixed fs ≡ false → covers fs f ≡ true → f ≡ first_family fs
one-family Inet V4 h k = refl
one-family Inet V6 h k = absurd (false≢true k)
one-family Inet6 V4 h k = absurd (false≢true k)
one-family Inet6 V6 h k = refl
one-family Mixed f h k = absurd (false≢true (sym h))

itself : (f : Family) → same_family f f ≡ true
itself V4 = refl
itself V6 = refl

same : (f g : Family) → f ≡ g → same_family f g ≡ true
same f g e = ap (same_family f) (sym e) ∙ itself f

-- ---- all rules

rule-same : (fs : Families) (r : Rule) (p : Packet) → is_mixed fs ≡ false → p.family ≡ first_family fs → IsSoundRule Juniper fs r → IsPacket p
    → term_holds (term_of r) p ≡ rule_holds r p
rule-same fs r p m e h k =
    let families : p.family ≡ r.family = e ∙ sym (one-family fs r.family m h.family) in
    let both = sets_hold r p && passes r.test p in
    term-same fs r p h k families ∙ ap (λ b. b && both) (sym (same r.family p.family (sym families)))

over-rules : (fs : Families) (rules : List Rule) (p : Packet) → is_mixed fs ≡ false → p.family ≡ first_family fs
    → AllByRecursion (IsSoundRule Juniper fs) rules → IsPacket p → walk (map term_of rules) p ≡ rules_outcome Deny rules p
unfolding walk rules_outcome ending_outcome
over-rules fs [] p m e h k = refl
over-rules fs (r ∷ rules) p m e h k =
    let later = walk (map term_of rules) p in
    ap (λ b. cond b (decided_by r) later) (rule-same fs r p m e h.0 k)
    ∙ ap (λ o. cond (rule_holds r p) (decided_by r) o) (over-rules fs rules p m e h.1 k)

denied : (b : Bool) → cond b (unlogged verdicts.Deny) (unlogged verdicts.Deny) ≡ unlogged verdicts.Deny
denied true = refl
denied false = refl

over-terms : (fs : Families) (rules : List Rule) (p : Packet) → is_mixed fs ≡ false → p.family ≡ first_family fs
    → AllByRecursion (IsSoundRule Juniper fs) rules → IsPacket p → walk (terms_of rules) p ≡ rules_outcome Deny rules p
unfolding walk rules_outcome ending_outcome
over-terms fs [] p m e h k = denied (term_holds default_term p)
over-terms fs (r ∷ rules) p m e h k = over-rules fs (r ∷ rules) p m e h k

in-family : (b : Bool) (o : Outcome) → b ≡ true → cond b (Some o) None ≡ Some o
in-family true o h = refl
in-family false o h = absurd (false≢true h)

pub section_decides : (f : Filter) → IsAccepted is_for_junos limit_of f → DecidesAs f (section_outcome (section_of f))
section_decides f h = λ p packet family.
    let target = (target-fits Juniper limit_of f h).1 in
    let mixed = target.1 in
    let e : p.family ≡ first_family f.families = one-family f.families p.family mixed family in
    let end : f.ending ≡ Deny = target.0.ending_is in
    in-family (same_family (first_family f.families) p.family) (walk (terms_of f.rules) p) (same (first_family f.families) p.family (sym e))
    ∙ ap Some (over-terms f.families f.rules p mixed e (rules-are Juniper limit_of f h) packet
    ∙ ap (λ (x : Ending). rules_outcome x f.rules p) (sym end))
