-- The section of an accepted filter decides packets as the filter does.
use Rattle.std.proofs.Common.{zero-le, ◌≡◌, ◌≢◌, ℕ, ◌^◌, ◌<◌, ◌≤◌, Bool, true, false, ◌&&◌, ◌||◌, ◌==◌, cond, unwrap_or, List, [], ◌∷◌, ◌++◌, map, flat_map, Option, None, Some, refl, ap, sym, subst, ◌∙◌, append_assoc}
use Rattle.std.specs.List.{AllByRecursion, list_any}
use Rattle.std.proofs.lemmas.Bool.{false≢true}
use Rattle.acl_packet.specs.declared.addresses.Families.{Families}
use Rattle.acl_packet.specs.declared.addresses.Family.{Family}
use Rattle.acl_packet.specs.declared.addresses.Prefix.{Prefix}
use Rattle.acl_packet.specs.declared.filtering.Outcome.{Outcome}
use Rattle.acl_packet.specs.declared.packet_fields.Field.TheVariants.{Protocol, SourcePort, DestinationPort, IcmpType, IcmpCode}
use Rattle.acl_packet.specs.declared.packets.Packet.{Packet}
use Rattle.acl_packet.specs.Addresses.{has_address, same_family, width_of}
use Rattle.acl_packet.specs.Outcomes.{unlogged}
use Rattle.acl_packet.specs.Packets.{has_flag, is_initial, IsPacket}
use Rattle.acl_rows.proofs.DecisionLaws.{family_decides}
use Rattle.acl_sets.specs.ComputableSets.{is_all}
use Rattle.acl_packet.specs.AddressLists.{any_has}
use Rattle.acl_sets.specs.Ranges.{holds, Numbers}
use Rattle.acl_sets.proofs.ComputableSetLaws.{covers-holds}
use Rattle.acl_target.specs.declared.targets.Ending.{Ending}
use Rattle.acl_target.specs.declared.targets.Ending.TheVariants.{Accept, Deny, Left, Neighbours}
use Rattle.acl_target.specs.declared.targets.Kind.TheVariants.{Nftables}
use Rattle.acl_target.specs.FilterEndings.{ending_outcome}
use Rattle.acl_target.specs.TargetData.{is_verdict}
use Rattle.acl_platform.specs.declared.filters.Filter.{Filter}
use Rattle.acl_platform.specs.declared.rules.Rule.{Rule}
use Rattle.acl_platform.specs.declared.rules.Test.{Test}
use Rattle.acl_platform.specs.declared.rules.Test.TheVariants.{Plain, AckOrRst, SynNotAck, Rst, State}
use Rattle.acl_platform.specs.Choices.{is_chosen, number_choices, numbers_of}
use Rattle.acl_platform.specs.Elements.{address_elements, number_elements, port_elements}
use Rattle.acl_platform.specs.Platforms.{DecidesAs}
use Rattle.acl_platform.specs.Rules.{decided_by, passes, rule_holds, rules_outcome, sets_hold}
use Rattle.acl_platform.specs.SoundFilters.{has_test, IsFull, IsFullList, IsSoundRule}
use Rattle.acl_platform.proofs.ChoiceLaws.{any-number, numbers-any, some-numbers}
use Rattle.acl_platform.proofs.ElementLaws.{addresses-hold, is_nil, ports-hold}
use Rattle.acl_platform.proofs.EntryLaws.{over-items}
use Rattle.acl_platform.proofs.FieldLaws.{sets-told}
use Rattle.acl_platform.proofs.SoundRules.{in-tops}
use Rattle.acl_rows.specs.RuleParts.{addresses_hold, has_port, number_holds, ports_hold, set_holds, state_holds}
use Rattle.nft_lang.specs.declared.documents.Item.{Item}
use Rattle.nft_lang.specs.declared.documents.Item.TheVariants.{Remark, Rule as ARule}
use Rattle.nft_lang.specs.Walks.{first_holding, flags_hold, policy_verdict, rule_holds as chain_rule_holds, section_outcome, walk}
use Rattle.gen_nftables.proofs.SectionLaws.{hooked-is, IsTaken, sound-rules}
use Rattle.gen_nftables.specs.Sections.{accepts, asks_state, chain_rule, flags_of, remarks_in, rule_items, section_of}

-- ---- the sets of a rule

set-same : {A : Type 0} (has : A → ℕ → Bool) (xs : List A) (v : ℕ) → set_holds has xs v ≡ (is_nil xs || list_any (λ x. has x v) xs)
set-same has [] v = refl
set-same has (x ∷ xs) v = refl

addresses-same : (f : Family) (ps : List Prefix) (a : ℕ) → IsFullList f ps → a < 2 ^ width_of f
    → set_holds has_address (address_elements ps) a ≡ any_has ps a
addresses-same f ps a h k = set-same has_address (address_elements ps) a ∙ addresses-hold f ps a h k

ports-same : (s : Numbers) (x : ℕ) → s.ranges ≢ [] → x ≤ s.top → set_holds has_port (port_elements s) x ≡ holds s.ranges x
ports-same s x some h = set-same has_port (port_elements s) x ∙ ports-hold s x some h

some-held : {A : Type 0} (has : A → ℕ → Bool) (xs : List A) (v : ℕ) → xs ≢ [] → set_holds has xs v ≡ list_any (λ x. has x v) xs
some-held has [] v h = absurd (h refl)
some-held has (x ∷ xs) v h = refl

numbers-by : (s : Numbers) (x : ℕ) (b : Bool) → is_all s ≡ b → IsFull 255 s → x ≤ s.top
    → set_holds (λ t n. n == t) (numbers_of (cond b [] s.ranges)) x ≡ holds s.ranges x
numbers-by s x true e full h = sym (covers-holds s.ranges 0 s.top x e zero-le h)
numbers-by s x false e full h =
    some-held (λ t n. n == t) (numbers_of s.ranges) x (some-numbers 0 255 s.ranges full.normal full.some) ∙ numbers-any s.ranges x

icmp-same : (types icodes : Numbers) (x y : ℕ) → IsFull 255 types → IsFull 255 icodes → x ≤ types.top → y ≤ icodes.top
    → (set_holds (λ t n. n == t) (number_elements types) x && set_holds (λ c n. n == c) (number_elements icodes) y)
    ≡ (holds types.ranges x && holds icodes.ranges y)
icmp-same types icodes x y t c h k =
    ap (λ b. b && set_holds (λ c n. n == c) (number_elements icodes) y) (numbers-by types x (is_all types) refl t h)
    ∙ ap (λ b. holds types.ranges x && b) (numbers-by icodes y (is_all icodes) refl c k)

-- ---- the test of a rule

and-true : (b : Bool) → (b && true) ≡ b
and-true true = refl
and-true false = refl

test-same : (test : Test) (p : Packet) → has_test Nftables test ≡ true
    → (flags_hold (flags_of test) p.flags && state_holds (asks_state test) p.conn) ≡ passes test p
test-same Plain p h = refl
test-same AckOrRst p h = absurd (false≢true h)
test-same SynNotAck p h = and-true (is_initial p)
test-same Rst p h = and-true (has_flag p.flags 4)
test-same State p h = refl

-- ---- a rule

number-same : (o : Option ℕ) (n : ℕ) → number_holds o n ≡ is_chosen o n
number-same None n = refl
number-same (Some m) n = refl

any-step : (family here later rest : Bool) → (((family && here) && rest) || ((family && later) && rest)) ≡ ((family && (here || later)) && rest)
any-step false here later rest = refl
any-step true true true true = refl
any-step true true true false = refl
any-step true true false true = refl
any-step true true false false = refl
any-step true false later rest = refl

any-none : (family rest : Bool) → false ≡ ((family && false) && rest)
any-none true rest = refl
any-none false rest = refl

any-protocol : (family rest : Bool) (n : ℕ) (os : List (Option ℕ))
    → list_any (λ o. (family && number_holds o n) && rest) os ≡ ((family && list_any (λ o. is_chosen o n) os) && rest)
any-protocol family rest n [] = any-none family rest
any-protocol family rest n (o ∷ os) =
    let later = list_any (λ q. is_chosen q n) os in
    ap (λ t. ((family && number_holds o n) && rest) || t) (any-protocol family rest n os)
    ∙ ap (λ t. ((family && t) && rest) || ((family && later) && rest)) (number-same o n)
    ∙ any-step family (is_chosen o n) later rest

regrouped : (family proto src dst sport dport icmp : Bool) {tests passed : Bool} → tests ≡ passed
    → ((family && proto) && ((src && dst) && ((sport && dport) && (icmp && tests))))
    ≡ (family && ((proto && (src && (dst && (sport && (dport && icmp))))) && passed))
regrouped false proto src dst sport dport icmp e = refl
regrouped true false src dst sport dport icmp e = refl
regrouped true true false dst sport dport icmp e = refl
regrouped true true true false sport dport icmp e = refl
regrouped true true true true false dport icmp e = refl
regrouped true true true true true false icmp e = refl
regrouped true true true true true true false e = refl
regrouped true true true true true true true e = e

five-same : (family proto tests : Bool) {a b c d e : Bool} {v w x y z : Bool} → a ≡ v → b ≡ w → c ≡ x → d ≡ y → e ≡ z
    → ((family && proto) && ((a && b) && ((c && d) && (e && tests)))) ≡ ((family && proto) && ((v && w) && ((x && y) && (z && tests))))
five-same family proto tests {b = b} {c = c} {d = d} {e = e} {v = v} {w = w} {x = x} {y = y} h i j k l =
    ap (λ t. (family && proto) && ((t && b) && ((c && d) && (e && tests)))) h
    ∙ ap (λ t. (family && proto) && ((v && t) && ((c && d) && (e && tests)))) i
    ∙ ap (λ t. (family && proto) && ((v && w) && ((t && d) && (e && tests)))) j
    ∙ ap (λ t. (family && proto) && ((v && w) && ((x && t) && (e && tests)))) k
    ∙ ap (λ t. (family && proto) && ((v && w) && ((x && y) && (t && tests)))) l

-- what the rules of the chain test, but for family and protocol
abbrev rest_holds : Rule → Packet → Bool
rest_holds r p = addresses_hold (address_elements r.src) (address_elements r.dst) p
    && (ports_hold (port_elements r.sports) (port_elements r.dports) p
    && ((set_holds (λ t n. n == t) (number_elements r.itypes) p.itype && set_holds (λ c n. n == c) (number_elements r.icodes) p.icode)
    && (flags_hold (flags_of r.test) p.flags && state_holds (asks_state r.test) p.conn)))

of-family : (families : Families) (r : Rule) (p : Packet) → IsSoundRule Nftables families r → IsPacket p → r.family ≡ p.family
    → ((same_family r.family p.family && holds r.protos.ranges p.proto) && rest_holds r p) ≡ rule_holds r p
of-family families r p h k e =
    let top : (a : ℕ) → a < 2 ^ width_of p.family → a < 2 ^ width_of r.family = λ a l. subst (λ f. a < 2 ^ width_of f) (sym e) l in
    let tops = in-tops Nftables families r p h k in
    five-same (same_family r.family p.family) (holds r.protos.ranges p.proto) (flags_hold (flags_of r.test) p.flags && state_holds (asks_state r.test) p.conn)
    (addresses-same r.family r.src p.src h.sources (top p.src k.source))
    (addresses-same r.family r.dst p.dst h.destinations (top p.dst k.destination))
    (ports-same r.sports p.sport (h.numbers SourcePort).some (tops SourcePort))
    (ports-same r.dports p.dport (h.numbers DestinationPort).some (tops DestinationPort))
    (icmp-same r.itypes r.icodes p.itype p.icode (h.numbers IcmpType) (h.numbers IcmpCode) (tops IcmpType) (tops IcmpCode))
    ∙ regrouped (same_family r.family p.family) (holds r.protos.ranges p.proto) (any_has r.src p.src) (any_has r.dst p.dst)
    (holds r.sports.ranges p.sport) (holds r.dports.ranges p.dport) (holds r.itypes.ranges p.itype && holds r.icodes.ranges p.icode) (test-same r.test p h.test_known)
    ∙ ap (λ b. same_family r.family p.family && (b && passes r.test p)) (sym (sets-told r p))

family-by : (families : Families) (r : Rule) (p : Packet) (b : Bool) → same_family r.family p.family ≡ b → IsSoundRule Nftables families r → IsPacket p
    → ((same_family r.family p.family && holds r.protos.ranges p.proto) && rest_holds r p) ≡ rule_holds r p
family-by families r p true e h k = of-family families r p h k ((family_decides r.family p.family).0 e)
family-by families r p false e h k =
    ap (λ t. (t && holds r.protos.ranges p.proto) && rest_holds r p) e ∙ sym (ap (λ t. t && (sets_hold r p && passes r.test p)) e)

-- Some rule of the chain holds a packet exactly where the filter's rule does.
rule-any : (families : Families) (r : Rule) (p : Packet) → IsSoundRule Nftables families r → IsPacket p
    → list_any (λ o. chain_rule_holds (chain_rule r o) p) (number_choices r.protos) ≡ rule_holds r p
rule-any families r p h k =
    any-protocol (same_family r.family p.family) (rest_holds r p) p.proto (number_choices r.protos)
    ∙ ap (λ t. (same_family r.family p.family && t) && rest_holds r p) (any-number r.protos p.proto (in-tops Nftables families r p h k Protocol))
    ∙ family-by families r p (same_family r.family p.family) refl h k

past-remarks : (texts : List (List ℕ)) (items : List Item) (p : Packet) → first_holding (map (λ text. Remark text) texts ++ items) p ≡ first_holding items p
unfolding first_holding
past-remarks [] items p = refl
past-remarks (text ∷ texts) items p = past-remarks texts items p

one-rule : (r : Rule) (p : Packet) (o : Option ℕ) (more : List Item)
    → first_holding (ARule (chain_rule r o) ∷ [] ++ more) p ≡ cond (chain_rule_holds (chain_rule r o) p) (Some (decided_by r)) (first_holding more p)
unfolding first_holding
one-rule r p o more = refl

over-rule : (families : Families) (verbose : Bool) (r : Rule) (rest : List Item) (p : Packet) → IsSoundRule Nftables families r → IsPacket p
    → first_holding (rule_items verbose r ++ rest) p ≡ cond (rule_holds r p) (Some (decided_by r)) (first_holding rest p)
over-rule families verbose r rest p h k =
    let rule : Option ℕ → Item = λ o. ARule (chain_rule r o) in
    let protocols = number_choices r.protos in
    let texts = map (λ text. Remark text) (remarks_in verbose r) in
    let walk_on : List Item → Option Outcome = λ items. first_holding items p in
    let test : Option ℕ → Bool = λ o. chain_rule_holds (chain_rule r o) p in
    let d = Some (decided_by r) in
    let later = first_holding rest p in
    ap walk_on (append_assoc texts (map rule protocols) rest) ∙ past-remarks (remarks_in verbose r) (map rule protocols ++ rest) p
    ∙ over-items walk_on rule test d (λ o more. one-rule r p o more) protocols rest
    ∙ ap (λ b. cond b d later) (rule-any families r p h k)

-- ---- all rules

unwrapped : (b : Bool) (x z : Outcome) (o : Option Outcome) → unwrap_or (cond b (Some x) o) z ≡ cond b x (unwrap_or o z)
unwrapped true x z o = refl
unwrapped false x z o = refl

ending-same : (ending : Ending) (p : Packet) → is_verdict ending ≡ true → unlogged (policy_verdict (accepts ending)) ≡ ending_outcome ending p
unfolding ending_outcome
ending-same Accept p h = refl
ending-same Deny p h = refl
ending-same Left p h = absurd (false≢true h)
ending-same Neighbours p h = absurd (false≢true h)

over-rules : (families : Families) (verbose : Bool) (ending : Ending) (rules : List Rule) (p : Packet) → is_verdict ending ≡ true
    → AllByRecursion (IsSoundRule Nftables families) rules → IsPacket p
    → walk (accepts ending) (flat_map (rule_items verbose) rules) p ≡ rules_outcome ending rules p
unfolding first_holding rules_outcome
over-rules families verbose ending [] p v h k = ending-same ending p v
over-rules families verbose ending (r ∷ rules) p v h k =
    let later = flat_map (rule_items verbose) rules in
    let end = unlogged (policy_verdict (accepts ending)) in
    ap (λ o. unwrap_or o end) (over-rule families verbose r later p h.0 k)
    ∙ unwrapped (rule_holds r p) (decided_by r) end (first_holding later p)
    ∙ ap (λ o. cond (rule_holds r p) (decided_by r) o) (over-rules families verbose ending rules p v h.1 k)

pub section_decides : (f : Filter) → IsTaken f → DecidesAs f (section_outcome (section_of f))
unfolding section_outcome
section_decides f h = λ p packet family.
    let items = flat_map (rule_items f.verbose) f.rules in
    ap (λ b. cond b (Some (walk (accepts f.ending) items p)) None) family
    ∙ ap Some (over-rules f.families f.verbose f.ending f.rules p (hooked-is f h).1.ending_is (sound-rules f h) packet)
