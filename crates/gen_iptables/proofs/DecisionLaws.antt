-- The section of an accepted filter decides packets as the filter does.
use Rattle.std.proofs.Common.{◌≡◌, ℕ, ◌^◌, ◌<◌, ◌≤◌, Bool, true, false, ◌&&◌, ◌||◌, ◌==◌, cond, List, [], ◌∷◌, ◌++◌, map, Option, None, Some, refl, ap, sym, subst, ◌∙◌, append-nil}
use Rattle.std.specs.List.{AllByRecursion, list_any}
use Rattle.std.proofs.lemmas.Bool.{false≢true, or_parts, or_right}
use Rattle.acl_packet.specs.declared.addresses.Families.{Families}
use Rattle.acl_packet.specs.declared.addresses.Family.{Family}
use Rattle.acl_packet.specs.declared.addresses.Prefix.{Prefix}
use Rattle.acl_packet.specs.declared.filtering.Outcome.{Outcome}
use Rattle.acl_packet.specs.declared.filtering.Verdict.{Verdict}
use Rattle.acl_packet.specs.declared.filtering.Verdict.TheVariants.{Accept, Deny, Reject, Reset, Left}
use Rattle.acl_packet.specs.declared.packet_fields.Field.TheVariants.{Protocol, SourcePort, DestinationPort, IcmpType, IcmpCode}
use Rattle.acl_packet.specs.declared.packets.Packet.{Packet}
use Rattle.acl_packet.specs.Addresses.{first_family, has_address, width_of}
use Rattle.acl_packet.specs.Packets.{has_flag, is_initial, IsPacket}
use Rattle.acl_rows.proofs.DecisionLaws.{family_decides}
use Rattle.acl_sets.specs.declared.sets.Range.{Range}
use Rattle.acl_packet.specs.AddressLists.{any_has}
use Rattle.acl_sets.specs.Ranges.{holds}
use Rattle.acl_target.specs.declared.targets.Ending.{Ending}
use Rattle.acl_target.specs.declared.targets.Ending.TheVariants as endings
use Rattle.acl_target.specs.declared.targets.Kind.TheVariants.{Iptables}
use Rattle.acl_target.specs.Clashes.{is_mixed}
use Rattle.acl_target.specs.FilterEndings.{ending_outcome}
use Rattle.acl_target.specs.TargetData.{is_neighbours}
use Rattle.acl_platform.specs.declared.filters.Filter.{Filter}
use Rattle.acl_platform.specs.declared.rules.Rule.{Rule}
use Rattle.acl_platform.specs.declared.rules.Test.{Test}
use Rattle.acl_platform.specs.declared.rules.Test.TheVariants.{Plain, AckOrRst, SynNotAck, Rst, State}
use Rattle.acl_platform.specs.Choices.{is_chosen, number_choices, pairs}
use Rattle.acl_platform.specs.Platforms.{DecidesAs}
use Rattle.acl_platform.specs.Rules.{decided_by, passes, rule_holds, rules_outcome, sets_hold}
use Rattle.acl_platform.specs.SoundFilters.{has_verdict, IsFullList, IsSoundRule}
use Rattle.acl_platform.proofs.ChoiceLaws.{any-number}
use Rattle.acl_platform.proofs.CombinationLaws.{any-same}
use Rattle.acl_platform.proofs.ElementLaws.{addresses-hold, is_nil}
use Rattle.acl_platform.proofs.EntryLaws.{over-entries}
use Rattle.acl_platform.proofs.FieldLaws.{sets-told}
use Rattle.acl_platform.proofs.PairLaws.{any-pairs}
use Rattle.acl_platform.proofs.SoundRules.{in-tops}
use Rattle.acl_rows.specs.RuleParts.{number_holds, state_holds}
use Rattle.ipt_lang.specs.declared.documents.Act.TheVariants.{Log, Decide}
use Rattle.ipt_lang.specs.declared.documents.Flags.{Flags}
use Rattle.ipt_lang.specs.declared.documents.Rule.{Rule as ChainRule}
use Rattle.ipt_lang.specs.Walks.{address_holds, chains_walk, flags_hold, go_on, is_left, outcome_so_far, policy_verdict, rules_walk, section_outcome, walk}
use Rattle.gen_iptables.proofs.GroupLaws.{any-group, group_holds}
use Rattle.gen_iptables.specs.Groups.{group_choices}
use Rattle.gen_iptables.proofs.SectionLaws.{chain-target, IsTaken, one-family, sound-rules}
use Rattle.gen_iptables.specs.Sections.{address_of, asks_state, Back, backs, chain_of, chain_rule, chain_rules, combinations, flag_choices, Front, fronts, ChainParts, policy_of, rules_for, section_of}

-- ---- addresses

-- some prefix is all addresses
all-by : (p : Prefix) (a : ℕ) (later rest b : Bool) → (b || rest) ≡ true → (rest ≡ true → later ≡ true)
    → (address_holds (cond b None (Some p)) a || later) ≡ true
all-by p a later rest true h k = refl
all-by p a later rest false h k = or_right (has_address p a) later (k h)

some-all : (ps : List Prefix) (a : ℕ) → list_any (λ p. p.len == 0) ps ≡ true → list_any (λ p. address_holds (address_of p) a) ps ≡ true
some-all [] a e = absurd (false≢true e)
some-all (p ∷ ps) a e =
    all-by p a (list_any (λ q. address_holds (address_of q) a) ps) (list_any (λ q. q.len == 0) ps) (p.len == 0) e (some-all ps a)

-- no prefix is all addresses
none-all : (ps : List Prefix) (a : ℕ) → list_any (λ p. p.len == 0) ps ≡ false → list_any (λ p. address_holds (address_of p) a) ps ≡ any_has ps a
none-all [] a e = refl
none-all (p ∷ ps) a e =
    let parts = or_parts (p.len == 0) (list_any (λ q. q.len == 0) ps) e in
    ap (λ b. address_holds (cond b None (Some p)) a || list_any (λ q. address_holds (address_of q) a) ps) parts.0
    ∙ ap (λ t. has_address p a || t) (none-all ps a parts.1)

address-by : (f : Family) (ps : List Prefix) (a : ℕ) → IsFullList f ps → a < 2 ^ width_of f → (b : Bool) → list_any (λ p. p.len == 0) ps ≡ b
    → list_any (λ p. address_holds (address_of p) a) ps ≡ any_has ps a
address-by f ps a h k true e =
    let all : true ≡ any_has ps a = ap (λ t. is_nil (cond t [] ps) || any_has (cond t [] ps) a) (sym e) ∙ addresses-hold f ps a h k in
    some-all ps a e ∙ all
address-by f ps a h k false e = none-all ps a e

-- Some prefix, as it is written, holds an address exactly where the list does.
address-any : (f : Family) (ps : List Prefix) (a : ℕ) → IsFullList f ps → a < 2 ^ width_of f
    → list_any (λ p. address_holds (address_of p) a) ps ≡ any_has ps a
address-any f ps a h k = address-by f ps a h k (list_any (λ p. p.len == 0) ps) refl

-- ---- protocols, types and tests

number-same : (o : Option ℕ) (n : ℕ) → number_holds o n ≡ is_chosen o n
number-same None n = refl
number-same (Some m) n = refl

one-test : (b : Bool) → ((b && true) || false) ≡ b
one-test true = refl
one-test false = refl

two-tests : (a b : Bool) → ((a && true) || ((b && true) || false)) ≡ (a || b)
two-tests true b = refl
two-tests false true = refl
two-tests false false = refl

or-none : (b : Bool) → (b || false) ≡ b
or-none true = refl
or-none false = refl

-- Some choice of flags, with the state, holds a packet exactly where the test passes it.
test-any : (test : Test) (p : Packet) → list_any (λ o. flags_hold o p.flags && state_holds (asks_state test) p.conn) (flag_choices test) ≡ passes test p
test-any Plain p = refl
test-any AckOrRst p = two-tests (has_flag p.flags 16) (has_flag p.flags 4)
test-any SynNotAck p = one-test (is_initial p)
test-any Rst p = one-test (has_flag p.flags 4)
test-any State p = or-none (state_holds true p.conn)

-- ---- a rule

abbrev front_holds : Packet → Front → Bool
front_holds p c = number_holds c.0 p.proto && (address_holds (address_of c.1.0) p.src && address_holds (address_of c.1.1) p.dst)

abbrev back_holds : Test → Packet → Back → Bool
back_holds test p c = (number_holds c.0 p.itype && number_holds c.1.0 p.icode)
    && (flags_hold c.1.1 p.flags && state_holds (asks_state test) p.conn)

-- what a rule of the chain asks of a packet, whatever its act
abbrev parts_hold : Rule → Packet → ChainParts → Bool
parts_hold r p c = front_holds p c.0 && ((group_holds p.sport c.1.0 && group_holds p.dport c.1.1.0) && back_holds r.test p c.1.1.1)

and-assoc : (a b c : Bool) → ((a && b) && c) ≡ (a && (b && c))
and-assoc true b c = refl
and-assoc false b c = refl

front-any : (r : Rule) (p : Packet) → p.proto ≤ r.protos.top → IsFullList r.family r.src → IsFullList r.family r.dst
    → p.src < 2 ^ width_of r.family → p.dst < 2 ^ width_of r.family
    → list_any (front_holds p) (fronts r) ≡ (holds r.protos.ranges p.proto && (any_has r.src p.src && any_has r.dst p.dst))
front-any r p top src dst k l =
    let proto : Option ℕ → Bool = λ o. number_holds o p.proto in
    let from : Prefix → Bool = λ q. address_holds (address_of q) p.src in
    let into : Prefix → Bool = λ q. address_holds (address_of q) p.dst in
    let ends : Prefix × Prefix → Bool = λ c. from c.0 && into c.1 in
    let protos = number_choices r.protos in
    any-pairs proto ends protos (pairs r.src r.dst)
    ∙ ap (λ t. t && list_any ends (pairs r.src r.dst))
    (any-same proto (λ o. is_chosen o p.proto) (λ o. number-same o p.proto) protos ∙ any-number r.protos p.proto top)
    ∙ ap (λ t. holds r.protos.ranges p.proto && t) (any-pairs from into r.src r.dst
    ∙ ap (λ t. t && list_any into r.dst) (address-any r.family r.src p.src src k)
    ∙ ap (λ t. any_has r.src p.src && t) (address-any r.family r.dst p.dst dst l))

back-any : (r : Rule) (p : Packet) → p.itype ≤ r.itypes.top → p.icode ≤ r.icodes.top
    → list_any (back_holds r.test p) (backs r) ≡ (holds r.itypes.ranges p.itype && (holds r.icodes.ranges p.icode && passes r.test p))
back-any r p type_top code_top =
    let itype : Option ℕ → Bool = λ o. number_holds o p.itype in
    let icode : Option ℕ → Bool = λ o. number_holds o p.icode in
    let test : Option Flags → Bool = λ o. flags_hold o p.flags && state_holds (asks_state r.test) p.conn in
    let last : Option ℕ × Option Flags → Bool = λ c. icode c.0 && test c.1 in
    let turned : Back → Bool = λ c. itype c.0 && last c.1 in
    let types = number_choices r.itypes in
    let codes = number_choices r.icodes in
    let flags = flag_choices r.test in
    any-same (back_holds r.test p) turned (λ c. and-assoc (itype c.0) (icode c.1.0) (test c.1.1)) (backs r)
    ∙ any-pairs itype last types (pairs codes flags)
    ∙ ap (λ t. t && list_any last (pairs codes flags))
    (any-same itype (λ o. is_chosen o p.itype) (λ o. number-same o p.itype) types ∙ any-number r.itypes p.itype type_top)
    ∙ ap (λ t. holds r.itypes.ranges p.itype && t) (any-pairs icode test codes flags
    ∙ ap (λ t. t && list_any test flags)
    (any-same icode (λ o. is_chosen o p.icode) (λ o. number-same o p.icode) codes ∙ any-number r.icodes p.icode code_top)
    ∙ ap (λ t. holds r.icodes.ranges p.icode && t) (test-any r.test p))

regrouped : (proto src dst sport dport itype icode test : Bool)
    → ((proto && (src && dst)) && (sport && (dport && (itype && (icode && test)))))
    ≡ ((proto && (src && (dst && (sport && (dport && (itype && icode)))))) && test)
regrouped false src dst sport dport itype icode test = refl
regrouped true false dst sport dport itype icode test = refl
regrouped true true false sport dport itype icode test = refl
regrouped true true true false dport itype icode test = refl
regrouped true true true true false itype icode test = refl
regrouped true true true true true false icode test = refl
regrouped true true true true true true icode test = refl

-- Some combination holds a packet exactly where the rule's sets and test do.
any-parts : (families : Families) (r : Rule) (p : Packet) → IsSoundRule Iptables families r → IsPacket p → r.family ≡ p.family
    → list_any (parts_hold r p) (combinations r) ≡ (sets_hold r p && passes r.test p)
any-parts families r p h k e =
    let tops = in-tops Iptables families r p h k in
    let top : (a : ℕ) → a < 2 ^ width_of p.family → a < 2 ^ width_of r.family = λ a l. subst (λ f. a < 2 ^ width_of f) (sym e) l in
    let front : Front → Bool = front_holds p in
    let from : List Range → Bool = group_holds p.sport in
    let into : List Range → Bool = group_holds p.dport in
    let back : Back → Bool = back_holds r.test p in
    let last : List Range × Back → Bool = λ c. into c.0 && back c.1 in
    let ports : List Range × (List Range × Back) → Bool = λ c. from c.0 && last c.1 in
    let turned : ChainParts → Bool = λ c. front c.0 && ports c.1 in
    let sports = group_choices r.sports in
    let dports = group_choices r.dports in
    any-same (parts_hold r p) turned (λ c. ap (λ t. front c.0 && t) (and-assoc (from c.1.0) (into c.1.1.0) (back c.1.1.1))) (combinations r)
    ∙ any-pairs front ports (fronts r) (pairs sports (pairs dports (backs r)))
    ∙ ap (λ t. list_any front (fronts r) && t) (any-pairs from last sports (pairs dports (backs r))
    ∙ ap (λ t. list_any from sports && t) (any-pairs into back dports (backs r)
    ∙ ap (λ t. t && list_any back (backs r)) (any-group r.dports p.dport (tops DestinationPort))
    ∙ ap (λ t. holds r.dports.ranges p.dport && t) (back-any r p (tops IcmpType) (tops IcmpCode)))
    ∙ ap (λ t. t && (holds r.dports.ranges p.dport && (holds r.itypes.ranges p.itype && (holds r.icodes.ranges p.icode && passes r.test p))))
    (any-group r.sports p.sport (tops SourcePort)))
    ∙ ap (λ t. t && (holds r.sports.ranges p.sport && (holds r.dports.ranges p.dport && (holds r.itypes.ranges p.itype && (holds r.icodes.ranges p.icode && passes r.test p)))))
    (front-any r p (tops Protocol) h.sources h.destinations (top p.src k.source) (top p.dst k.destination))
    ∙ regrouped (holds r.protos.ranges p.proto) (any_has r.src p.src) (any_has r.dst p.dst) (holds r.sports.ranges p.sport)
    (holds r.dports.ranges p.dport) (holds r.itypes.ranges p.itype) (holds r.icodes.ranges p.icode) (passes r.test p)
    ∙ ap (λ b. b && passes r.test p) (sym (sets-told r p))

-- ---- a chain

twice : (b : Bool) (d more rest : Outcome) → cond b (cond b d more) rest ≡ cond b d rest
twice true d more rest = refl
twice false d more rest = refl

-- Where a combination is logged, its second rule meets the packets that its first one has marked.
acts-by : (r : Rule) (c : ChainParts) (p : Packet) (more : List ChainRule) (b : Bool)
    → rules_walk (map (chain_rule r c) (cond b (Log ∷ Decide r.verdict ∷ []) (Decide r.verdict ∷ [])) ++ more) p false
    ≡ cond (parts_hold r p c) (outcome_so_far r.verdict b) (rules_walk more p false)
unfolding rules_walk
acts-by r c p more true =
    let b = parts_hold r p c in
    let rest = rules_walk more p false in
    twice b (outcome_so_far r.verdict true) (rules_walk more p true) (cond b (outcome_so_far r.verdict false) rest)
    ∙ skipped b (outcome_so_far r.verdict true) (outcome_so_far r.verdict false) rest
  where
    skipped : (b : Bool) (d e rest : Outcome) → cond b d (cond b e rest) ≡ cond b d rest
    skipped true d e rest = refl
    skipped false d e rest = refl
acts-by r c p more false = refl

over-chain : (families : Families) (r : Rule) (p : Packet) → IsSoundRule Iptables families r → IsPacket p → r.family ≡ p.family
    → rules_walk (chain_rules r) p false ≡ cond (rule_holds r p) (decided_by r) (outcome_so_far Left false)
unfolding rules_walk
over-chain families r p h k e =
    let walk_on : List ChainRule → Outcome = λ rules. rules_walk rules p false in
    let d = decided_by r in
    let own = sets_hold r p && passes r.test p in
    ap walk_on (sym (append-nil (chain_rules r)))
    ∙ over-entries walk_on (rules_for r) (parts_hold r p) d (λ c more. acts-by r c p more r.log) (combinations r) []
    ∙ ap (λ b. cond b d (outcome_so_far Left false)) (any-parts families r p h k e
    ∙ sym (ap (λ b. b && own) ((family_decides r.family p.family).1 e)))

-- ---- all chains

decides : (v : Verdict) → has_verdict Iptables v ≡ true → is_left v ≡ false
decides Accept h = refl
decides Deny h = refl
decides Reject h = refl
decides Reset h = refl
decides Left h = absurd (false≢true h)

stays : (d : Outcome) (next : Bool → Outcome) → is_left d.verdict ≡ false → go_on d next ≡ d
stays d next e = ap (λ b. cond b (next d.logged) d) e

gone-on : (b : Bool) (d : Outcome) (next end : Bool → Outcome) → is_left d.verdict ≡ false
    → go_on (go_on (cond b d (outcome_so_far Left false)) next) end ≡ cond b d (go_on (next false) end)
gone-on true d next end e = ap (λ o. go_on o end) (stays d next e) ∙ stays d end e
gone-on false d next end e = refl

ending-same : (ending : Ending) (p : Packet) → is_neighbours ending ≡ false → outcome_so_far (policy_verdict (policy_of ending)) false ≡ ending_outcome ending p
unfolding ending_outcome
ending-same endings.Accept p h = refl
ending-same endings.Deny p h = refl
ending-same endings.Left p h = refl
ending-same endings.Neighbours p h = absurd (false≢true (sym h))

over-rules : (families : Families) (ending : Ending) (rules : List Rule) (p : Packet) → is_mixed families ≡ false → is_neighbours ending ≡ false
    → AllByRecursion (IsSoundRule Iptables families) rules → IsPacket p → p.family ≡ first_family families
    → walk (policy_of ending) (map chain_of rules) p ≡ rules_outcome ending rules p
unfolding chains_walk rules_outcome
over-rules families ending [] p m n h k e = ending-same ending p n
over-rules families ending (r ∷ rules) p m n h k e =
    let next : Bool → Outcome = λ marked. chains_walk (map chain_of rules) p marked in
    let end : Bool → Outcome = λ logged. outcome_so_far (policy_verdict (policy_of ending)) logged in
    let own = one-family families r.family m h.0.family ∙ sym e in
    ap (λ o. go_on (go_on o next) end) (over-chain families r p h.0 k own)
    ∙ gone-on (rule_holds r p) (decided_by r) next end (decides r.verdict h.0.verdict_known)
    ∙ ap (λ o. cond (rule_holds r p) (decided_by r) o) (over-rules families ending rules p m n h.1 k e)

pub section_decides : (f : Filter) → IsTaken f → DecidesAs f (section_outcome (section_of f))
section_decides f h = λ p packet family.
    let target = (chain-target f h).1 in
    let own = one-family f.families p.family target.one_family family in
    let chains = map chain_of f.rules in
    ap (λ b. cond b (Some (walk (policy_of f.ending) chains p)) None) ((family_decides (first_family f.families) p.family).1 (sym own))
    ∙ ap Some (over-rules f.families f.ending f.rules p target.one_family target.ending_is (sound-rules f h) packet own)
