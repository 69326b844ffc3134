-- The section of an accepted filter decides packets as the filter does.
use Rattle.std.proofs.Common.{◌≡◌, ◌≢◌, ℕ, ◌≤◌, ◌<◌, ◌^◌, Bool, true, false, ◌&&◌, ◌||◌, cond, unwrap_or, List, [], ◌∷◌, ◌++◌, map, flat_map, Option, None, Some, refl, ap, sym, subst, ◌∙◌, append_assoc, arith}
use Rattle.std.specs.List.{AllByRecursion, list_all}
use Rattle.std.proofs.lemmas.Bool.{and_from, and_parts, false≢true}
use Rattle.std.proofs.lemmas.List.Folds.{list_any-append}
use Rattle.acl_packet.specs.declared.addresses.Families.TheVariants.{Inet}
use Rattle.acl_packet.specs.declared.addresses.Family.{Family}
use Rattle.acl_packet.specs.declared.addresses.Family.TheVariants.{V4, V6}
use Rattle.acl_packet.specs.declared.addresses.Prefix.{Prefix}
use Rattle.acl_packet.specs.declared.filtering.Outcome.{Outcome}
use Rattle.acl_packet.specs.declared.filtering.Verdict.{Verdict}
use Rattle.acl_packet.specs.declared.filtering.Verdict.TheVariants.{Accept, Deny, Reject, Reset, Left}
use Rattle.acl_packet.specs.declared.packet_fields.Field.{Field}
use Rattle.acl_packet.specs.declared.packets.Packet.{Packet}
use Rattle.acl_packet.specs.AddressLists.{any_has}
use Rattle.acl_packet.specs.Addresses.{covers, everywhere, has_address, same_family, width_of}
use Rattle.acl_packet.specs.Outcomes.{unlogged}
use Rattle.acl_packet.specs.Packets.{fields, IsPacket, is_neighbour_discovery, number_of}
use Rattle.acl_sets.specs.ComputableSets.{is_all}
use Rattle.acl_sets.specs.Ranges.{holds}
use Rattle.acl_sets.proofs.ComputableSetLaws.{covers-holds}
use Rattle.acl_target.specs.declared.targets.Ending.{Ending}
use Rattle.acl_target.specs.declared.targets.Ending.TheVariants.{Neighbours}
use Rattle.acl_target.specs.declared.targets.Kind.TheVariants.{Cisco}
use Rattle.acl_target.specs.FilterEndings.{ending_outcome}
use Rattle.acl_platform.specs.declared.filters.Filter.{Filter}
use Rattle.acl_platform.specs.declared.rules.Rule.{Rule}
use Rattle.acl_platform.specs.declared.rules.Test.{Test}
use Rattle.acl_platform.specs.declared.rules.Test.TheVariants.{Plain, AckOrRst, SynNotAck, Rst, State}
use Rattle.acl_platform.specs.Platforms.{DecidesAs, IsAccepted}
use Rattle.acl_platform.specs.Remarks.{remarks}
use Rattle.acl_platform.specs.Rules.{decided_by, passes, rule_holds, rules_outcome, set_of}
use Rattle.acl_platform.specs.SoundFilters.{has_verdict, IsFullList, IsSoundRule}
use Rattle.acl_platform.proofs.ElementLaws.{addresses-hold, is_nil}
use Rattle.acl_platform.proofs.EntryLaws.{over-items}
use Rattle.acl_platform.proofs.SoundRules.{in-tops}
use Rattle.std_lang.specs.declared.documents.Item.{Item}
use Rattle.std_lang.specs.declared.documents.Item.TheVariants.{Remark, Entry as AnEntry}
use Rattle.std_lang.specs.Walks.{first_holding, has_entries, is_entry, section_outcome, walk}
use Rattle.cisco_lang.specs.Walks.{verdict_of}
use Rattle.gen_acltool.specs.Limits.{has_all_addresses, is_for_standard, is_plain, limit_of}
use Rattle.gen_acltool.specs.Sections.{entry_of, list_items, permits, rule_items, section_of}
use Rattle.gen_acltool.proofs.SectionLaws.{device-is, families-are, family-is, IsWithin, rules-are, rules-are-within}

-- ---- a rule that asks for sources alone holds the packets that they have

abbrev IsRule : Rule → Type 0
IsRule r = IsSoundRule Cisco Inet r × IsWithin r

all-addresses : (f : Family) (ps : List Prefix) (a : ℕ) → IsFullList f ps → a < 2 ^ width_of f → has_all_addresses ps ≡ true → any_has ps a ≡ true
all-addresses f ps a h within e =
    sym (addresses-hold f ps a h within) ∙ ap (λ b. is_nil (cond b [] ps) || any_has (cond b [] ps) a) e

all-numbers : (r : Rule) (p : Packet) → ((field : Field) → number_of field p ≤ (set_of field r).top) → (fs : List Field)
    → list_all (λ field. is_all (set_of field r)) fs ≡ true → list_all (λ field. holds (set_of field r).ranges (number_of field p)) fs ≡ true
all-numbers r p within [] h = refl
all-numbers r p within (f ∷ fs) h =
    let parts = and_parts (is_all (set_of f r)) (list_all (λ field. is_all (set_of field r)) fs) h in
    let s = set_of f r in
    and_from (holds s.ranges (number_of f p)) (list_all (λ field. holds (set_of field r).ranges (number_of field p)) fs)
    (covers-holds s.ranges 0 s.top (number_of f p) parts.0 (omega arith) (within f)) (all-numbers r p within fs parts.1)

plain-passes : (t : Test) (p : Packet) → is_plain t ≡ true → passes t p ≡ true
plain-passes Plain p h = refl
plain-passes AckOrRst p h = absurd (false≢true h)
plain-passes SynNotAck p h = absurd (false≢true h)
plain-passes Rst p h = absurd (false≢true h)
plain-passes State p h = absurd (false≢true h)

narrowed : (family src dst numbers test : Bool) → family ≡ true → dst ≡ true → numbers ≡ true → test ≡ true
    → (family && ((src && (dst && numbers)) && test)) ≡ src
narrowed family true dst numbers test f d n t = and_from family ((dst && numbers) && test) f (and_from (dst && numbers) test (and_from dst numbers d n) t)
narrowed true false dst numbers test f d n t = refl
narrowed false false dst numbers test f d n t = refl

own-family : (f g : Family) → f ≡ V4 → g ≡ V4 → same_family f g ≡ true
own-family f g e k = ap (λ a. same_family a g) e ∙ ap (same_family V4) k

pub holds-sources : (r : Rule) (p : Packet) → IsRule r → IsPacket p → p.family ≡ V4 → rule_holds r p ≡ any_has r.src p.src
holds-sources r p h k e =
    let sound = h.0 in
    let family = family-is r sound in
    let said = and_parts (has_all_addresses r.dst) (list_all (λ field. is_all (set_of field r)) fields && is_plain r.test) h.1.1 in
    let rest = and_parts (list_all (λ field. is_all (set_of field r)) fields) (is_plain r.test) said.1 in
    let within : p.dst < 2 ^ width_of r.family = subst (λ f. p.dst < 2 ^ width_of f) (e ∙ sym family) k.destination in
    narrowed (same_family r.family p.family) (any_has r.src p.src) (any_has r.dst p.dst)
    (list_all (λ field. holds (set_of field r).ranges (number_of field p)) fields) (passes r.test p) (own-family r.family p.family family e)
    (all-addresses r.family r.dst p.dst sound.destinations within said.0) (all-numbers r p (in-tops Cisco Inet r p sound k) fields rest.0)
    (plain-passes r.test p rest.1)

-- ---- one rule

abbrev decision : Bool → Verdict → Outcome
decision log v = record { verdict = v; logged = log }

decision-same : (v : Verdict) (log : Bool) → has_verdict Cisco v ≡ true → decision log (verdict_of (permits v)) ≡ decision log v
decision-same Accept log h = refl
decision-same Deny log h = refl
decision-same Reject log h = absurd (false≢true h)
decision-same Reset log h = absurd (false≢true h)
decision-same Left log h = absurd (false≢true h)

past-remarks : (texts : List (List ℕ)) (items : List Item) (p : Packet) → first_holding (map (λ text. Remark text) texts ++ items) p ≡ first_holding items p
unfolding first_holding
past-remarks [] items p = refl
past-remarks (text ∷ texts) items p = past-remarks texts items p

one-entry : (r : Rule) (p : Packet) → has_verdict Cisco r.verdict ≡ true → (s : Prefix) (more : List Item)
    → first_holding (AnEntry (entry_of r s) ∷ more) p ≡ cond (has_address s p.src) (Some (decided_by r)) (first_holding more p)
unfolding first_holding
one-entry r p h s more = ap (λ d. cond (has_address s p.src) (Some d) (first_holding more p)) (decision-same r.verdict r.log h)

over-rule : (r : Rule) (rest : List Item) (p : Packet) → IsRule r → IsPacket p → p.family ≡ V4
    → first_holding (rule_items r ++ rest) p ≡ cond (rule_holds r p) (Some (decided_by r)) (first_holding rest p)
over-rule r rest p h k e =
    let entry : Prefix → Item = λ s. AnEntry (entry_of r s) in
    let texts = map (λ text. Remark text) (remarks r) in
    let walk_on : List Item → Option Outcome = λ items. first_holding items p in
    let d = Some (decided_by r) in
    ap walk_on (append_assoc texts (map entry r.src) rest) ∙ past-remarks (remarks r) (map entry r.src ++ rest) p
    ∙ over-items walk_on entry (λ s. has_address s p.src) d (λ s more. one-entry r p h.0.verdict_known s more) r.src rest
    ∙ ap (λ b. cond b d (first_holding rest p)) (sym (holds-sources r p h k e))

-- ---- all rules

unwrapped : (b : Bool) (x z : Outcome) (o : Option Outcome) → unwrap_or (cond b (Some x) o) z ≡ cond b x (unwrap_or o z)
unwrapped true x z o = refl
unwrapped false x z o = refl

ending-same : (p : Packet) → p.family ≡ V4 → unlogged Deny ≡ ending_outcome Neighbours p
unfolding ending_outcome
ending-same p e =
    let out : Family → Outcome = λ g. unlogged (cond (same_family V6 g && is_neighbour_discovery p) Accept Deny) in
    ap out (sym e)

both : (rules : List Rule) → AllByRecursion (IsSoundRule Cisco Inet) rules → AllByRecursion IsWithin rules → AllByRecursion IsRule rules
both [] h w = tt
both (r ∷ rules) h w = ((h.0, w.0), both rules h.1 w.1)

over-rules : (rules : List Rule) (p : Packet) → AllByRecursion IsRule rules → IsPacket p → p.family ≡ V4
    → unwrap_or (first_holding (flat_map rule_items rules) p) (unlogged Deny) ≡ rules_outcome Neighbours rules p
unfolding first_holding rules_outcome
over-rules [] p h k e = ending-same p e
over-rules (r ∷ rules) p h k e =
    let later = first_holding (flat_map rule_items rules) p in
    let end = unlogged Deny in
    ap (λ o. unwrap_or o end) (over-rule r (flat_map rule_items rules) p h.0 k e)
    ∙ unwrapped (rule_holds r p) (decided_by r) end later
    ∙ ap (λ o. cond (rule_holds r p) (decided_by r) o) (over-rules rules p h.1 k e)

-- ---- the list

denied : (b : Bool) → unwrap_or (cond b (Some (unlogged Deny)) None) (unlogged Deny) ≡ unlogged Deny
denied true = refl
denied false = refl

over-list : (rules : List Rule) (p : Packet) → AllByRecursion IsRule rules → IsPacket p → p.family ≡ V4
    → unwrap_or (first_holding (list_items rules) p) (unlogged Deny) ≡ rules_outcome Neighbours rules p
unfolding first_holding rules_outcome
over-list [] p h k e = denied (has_address (everywhere V4) p.src) ∙ ending-same p e
over-list (r ∷ rules) p h k e = over-rules (r ∷ rules) p h k e

some-entry : (r : Rule) (sources : List Prefix) → sources ≢ [] → has_entries (map (λ s. AnEntry (entry_of r s)) sources) ≡ true
some-entry r [] h = absurd (h refl)
some-entry r (s ∷ sources) h = refl

some-behind : (texts : List (List ℕ)) (items : List Item) → has_entries items ≡ true → has_entries (map (λ text. Remark text) texts ++ items) ≡ true
some-behind [] items h = h
some-behind (text ∷ texts) items h = some-behind texts items h

has-entry : (rules : List Rule) → AllByRecursion IsRule rules → has_entries (list_items rules) ≡ true
has-entry [] h = refl
has-entry (r ∷ rules) h =
    let own = some-behind (remarks r) (map (λ s. AnEntry (entry_of r s)) r.src) (some-entry r r.src h.0.0.sources.some) in
    list_any-append is_entry (rule_items r) (flat_map rule_items rules) ∙ ap (λ b. b || has_entries (flat_map rule_items rules)) own

list-decides : (rules : List Rule) (p : Packet) → AllByRecursion IsRule rules → IsPacket p → p.family ≡ V4
    → walk (list_items rules) p ≡ rules_outcome Neighbours rules p
unfolding walk
list-decides rules p h k e =
    let items = list_items rules in
    ap (λ b. cond b (unwrap_or (first_holding items p) (unlogged Deny)) (unlogged Accept)) (has-entry rules h) ∙ over-list rules p h k e

-- ---- the section

only-inet : (f : Family) → covers Inet f ≡ true → f ≡ V4
only-inet V4 h = refl
only-inet V6 h = absurd (false≢true h)

pub section_decides : (first : ℕ) (f : Filter) → IsAccepted (is_for_standard first) limit_of f → DecidesAs f (section_outcome (section_of first f))
unfolding section_outcome
section_decides first f h = λ p packet family.
    let inet = subst (λ fs. covers fs p.family ≡ true) (families-are first f h.handled) family in
    let v4 = only-inet p.family inet in
    let rules = both f.rules (rules-are first f h) (rules-are-within f h.within) in
    let end : Ending → Outcome = λ e. rules_outcome e f.rules p in
    ap (λ b. cond b (Some (walk (list_items f.rules) p)) None) (own-family p.family V4 v4 refl)
    ∙ ap Some (list-decides f.rules p rules packet v4 ∙ ap end (sym (device-is first f h).1.ending_is))
