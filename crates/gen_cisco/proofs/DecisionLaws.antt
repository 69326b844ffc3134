-- The section of an accepted filter decides packets as the filter does.
use Rattle.std.proofs.Common.{zero-le, ◌≡◌, ◌≢◌, ℕ, ◌^◌, ◌<◌, Bool, true, false, ◌&&◌, ◌||◌, ◌==◌, cond, nat_le, nat_lt, unwrap_or, List, [], ◌∷◌, ◌++◌, ◌⊎◌, map, flat_map, Option, None, Some, inl, inr, refl, ap, sym, subst, ◌∙◌, append_assoc}
use Rattle.std.specs.List.{AllByRecursion, list_any}
use Rattle.std.proofs.lemmas.Bool.{and_from, false≢true, lt-ltb}
use Rattle.std.proofs.lemmas.List.Folds.{list_any-append}
use Rattle.acl_packet.specs.declared.addresses.Families.{Families}
use Rattle.acl_packet.specs.declared.addresses.Families.TheVariants.{Inet, Inet6, Mixed}
use Rattle.acl_packet.specs.declared.addresses.Family.{Family}
use Rattle.acl_packet.specs.declared.addresses.Family.TheVariants.{V4, V6}
use Rattle.acl_packet.specs.declared.filtering.Outcome.{Outcome}
use Rattle.acl_packet.specs.declared.filtering.Verdict.{Verdict}
use Rattle.acl_packet.specs.declared.filtering.Verdict.TheVariants.{Accept, Deny, Reject, Reset, Left}
use Rattle.acl_packet.specs.declared.packets.Packet.{Packet}
use Rattle.acl_packet.specs.Addresses.{covers, has_address, same_family, width_of, everywhere}
use Rattle.acl_packet.specs.Outcomes.{unlogged}
use Rattle.acl_packet.specs.Packets.{IsPacket, is_neighbour_discovery}
use Rattle.acl_rows.proofs.DecisionLaws.{le_decides}
use Rattle.acl_target.specs.declared.targets.Ending.{Ending}
use Rattle.acl_target.specs.declared.targets.Ending.TheVariants.{Neighbours}
use Rattle.acl_target.specs.declared.targets.Kind.TheVariants.{Cisco}
use Rattle.acl_target.specs.FilterEndings.{ending_outcome}
use Rattle.acl_platform.specs.declared.combinations.Combination.{Combination}
use Rattle.acl_platform.specs.declared.filters.Filter.{Filter}
use Rattle.acl_platform.specs.declared.rules.Rule.{Rule}
use Rattle.acl_platform.specs.declared.rules.Test.{Test}
use Rattle.acl_platform.specs.declared.rules.Test.TheVariants.{Plain, AckOrRst, SynNotAck, Rst, State}
use Rattle.acl_platform.specs.Choices.{in_range, is_chosen}
use Rattle.acl_platform.specs.Combinations.{combination_holds, combinations}
use Rattle.acl_platform.specs.Platforms.{DecidesAs, IsAccepted}
use Rattle.acl_platform.specs.Remarks.{remarks}
use Rattle.acl_platform.specs.Rules.{decided_by, passes, rule_holds, rules_outcome, sets_hold}
use Rattle.acl_platform.specs.SoundFilters.{has_test, has_verdict, IsSoundRule}
use Rattle.acl_platform.proofs.CombinationLaws.{any-combination, any-same, some-combination}
use Rattle.acl_platform.proofs.EntryLaws.{over-items}
use Rattle.acl_platform.proofs.FieldLaws.{combination-told}
use Rattle.acl_rows.specs.RuleParts.{number_holds}
use Rattle.cisco_lang.specs.declared.documents.Item.{Item}
use Rattle.cisco_lang.specs.declared.documents.Item.TheVariants.{Remark, Entry as AnEntry}
use Rattle.cisco_lang.specs.Documents.{heads_of}
use Rattle.cisco_lang.specs.Walks.{ending, entry_holds, first_holding, flags_hold, has_entries, is_entry, items_of, port_holds, section_outcome, verdict_of, walk}
use Rattle.gen_cisco.specs.Limits.{is_for_cisco, limit_of}
use Rattle.gen_cisco.proofs.SectionLaws.{device-is, rules-are}
use Rattle.gen_cisco.specs.Sections.{closed, closing_entries, entry_of, flags_of, items_in, list_items, list_of, permits, rule_items, section_of, wide_entry}

-- ---- one entry

number-same : (o : Option ℕ) (n : ℕ) → number_holds o n ≡ is_chosen o n
number-same None n = refl
number-same (Some m) n = refl

ports-same : (o : Option (ℕ × ℕ)) (n : ℕ) → port_holds o n ≡ in_range o n
ports-same None n = refl
ports-same (Some q) n = refl

regrouped : (proto src dst sport dport itype icode flags : Bool)
    → ((proto && (src && dst)) && ((sport && dport) && ((itype && icode) && flags)))
    ≡ ((proto && (src && (dst && (sport && (dport && (itype && icode)))))) && flags)
regrouped false src dst sport dport itype icode flags = refl
regrouped true false dst sport dport itype icode flags = refl
regrouped true true false sport dport itype icode flags = refl
regrouped true true true false dport itype icode flags = refl
regrouped true true true true false itype icode flags = refl
regrouped true true true true true itype icode flags = refl

five-same : {a d e f g : Bool} (b c k : Bool) {v w x y z : Bool} → a ≡ v → d ≡ w → e ≡ x → f ≡ y → g ≡ z
    → ((a && (b && c)) && ((d && e) && ((f && g) && k))) ≡ ((v && (b && c)) && ((w && x) && ((y && z) && k)))
five-same {a = a} {d = d} {e = e} {f = f} {g = g} b c k {v = v} {w = w} {x = x} {y = y} {z = z} p q r s t =
    ap (λ u. (u && (b && c)) && ((d && e) && ((f && g) && k))) p ∙ ap (λ u. (v && (b && c)) && ((u && e) && ((f && g) && k))) q
    ∙ ap (λ u. (v && (b && c)) && ((w && u) && ((f && g) && k))) r ∙ ap (λ u. (v && (b && c)) && ((w && x) && ((u && g) && k))) s
    ∙ ap (λ u. (v && (b && c)) && ((w && x) && ((y && u) && k))) t

entry-same : (r : Rule) (p : Packet) (c : Combination) → entry_holds (entry_of r c) p ≡ (combination_holds p c && flags_hold (flags_of r.test) p.flags)
entry-same r p c =
    five-same (has_address c.src p.src) (has_address c.dst p.dst) (flags_hold (flags_of r.test) p.flags)
    (number-same c.proto p.proto) (ports-same c.sport p.sport) (ports-same c.dport p.dport) (number-same c.itype p.itype) (number-same c.icode p.icode)
    ∙ regrouped (is_chosen c.proto p.proto) (has_address c.src p.src) (has_address c.dst p.dst) (in_range c.sport p.sport)
    (in_range c.dport p.dport) (is_chosen c.itype p.itype) (is_chosen c.icode p.icode) (flags_hold (flags_of r.test) p.flags)
    ∙ ap (λ b. b && flags_hold (flags_of r.test) p.flags) (sym (combination-told p c))

test-same : (test : Test) (p : Packet) → has_test Cisco test ≡ true → flags_hold (flags_of test) p.flags ≡ passes test p
test-same Plain p h = refl
test-same AckOrRst p h = refl
test-same SynNotAck p h = refl
test-same Rst p h = refl
test-same State p h = absurd (false≢true h)

verdict-same : (v : Verdict) → has_verdict Cisco v ≡ true → verdict_of (permits v) ≡ v
verdict-same Accept h = refl
verdict-same Deny h = refl
verdict-same Reject h = absurd (false≢true h)
verdict-same Reset h = absurd (false≢true h)
verdict-same Left h = absurd (false≢true h)

abbrev with_log : Bool → Verdict → Outcome
with_log log v = record { verdict = v; logged = log }

decision-same : (v : Verdict) (log : Bool) → has_verdict Cisco v ≡ true → with_log log (verdict_of (permits v)) ≡ with_log log v
decision-same v log h = ap (with_log log) (verdict-same v h)

-- ---- a rule

out-of : (here later b : Bool) → ((here && b) || (later && b)) ≡ ((here || later) && b)
out-of true true true = refl
out-of true true false = refl
out-of true false true = refl
out-of true false false = refl
out-of false later b = refl

any-and : {A : Type 0} (f : A → Bool) (b : Bool) (xs : List A) → list_any (λ x. f x && b) xs ≡ (list_any f xs && b)
any-and f b [] = refl
any-and f b (x ∷ xs) = ap (λ t. (f x && b) || t) (any-and f b xs) ∙ out-of (f x) (list_any f xs) b

past-remarks : (texts : List (List ℕ)) (items : List Item) (p : Packet) → first_holding (map (λ text. Remark text) texts ++ items) p ≡ first_holding items p
unfolding first_holding
past-remarks [] items p = refl
past-remarks (text ∷ texts) items p = past-remarks texts items p

one-entry : (r : Rule) (p : Packet) → has_verdict Cisco r.verdict ≡ true → (c : Combination) (more : List Item)
    → first_holding (AnEntry (entry_of r c) ∷ [] ++ more) p ≡ cond (entry_holds (entry_of r c) p) (Some (decided_by r)) (first_holding more p)
unfolding first_holding
one-entry r p h c more =
    ap (λ d. cond (entry_holds (entry_of r c) p) (Some d) (first_holding more p)) (decision-same r.verdict r.log h)

over-rule : (families : Families) (r : Rule) (rest : List Item) (p : Packet) → IsSoundRule Cisco families r → IsPacket p
    → first_holding (rule_items r ++ rest) p ≡ cond (sets_hold r p && passes r.test p) (Some (decided_by r)) (first_holding rest p)
over-rule families r rest p h k =
    let entry : Combination → Item = λ c. AnEntry (entry_of r c) in
    let texts = map (λ text. Remark text) (remarks r) in
    let walk_on : List Item → Option Outcome = λ items. first_holding items p in
    let test : Combination → Bool = λ c. entry_holds (entry_of r c) p in
    let flags = flags_hold (flags_of r.test) p.flags in
    let d = Some (decided_by r) in
    let later = first_holding rest p in
    ap walk_on (append_assoc texts (map entry (combinations r)) rest) ∙ past-remarks (remarks r) (map entry (combinations r) ++ rest) p
    ∙ over-items walk_on entry test d (λ c more. one-entry r p h.verdict_known c more) (combinations r) rest
    ∙ ap (λ b. cond b d later) (any-same test (λ c. combination_holds p c && flags) (entry-same r p) (combinations r)
    ∙ any-and (combination_holds p) flags (combinations r)
    ∙ ap (λ b. b && flags) (any-combination Cisco families r p h k)
    ∙ ap (λ b. sets_hold r p && b) (test-same r.test p h.test_known))

over-by : (families : Families) (r : Rule) (rest : List Item) (p : Packet) (b : Bool) → IsSoundRule Cisco families r → IsPacket p
    → first_holding (cond b (rule_items r) [] ++ rest) p ≡ cond (b && (sets_hold r p && passes r.test p)) (Some (decided_by r)) (first_holding rest p)
over-by families r rest p true h k = over-rule families r rest p h k
over-by families r rest p false h k = refl

-- ---- all rules

unwrapped : (b : Bool) (x z : Outcome) (o : Option Outcome) → unwrap_or (cond b (Some x) o) z ≡ cond b x (unwrap_or o z)
unwrapped true x z o = refl
unwrapped false x z o = refl

ending-same : (f : Family) (p : Packet) → p.family ≡ f → ending f p ≡ ending_outcome Neighbours p
unfolding ending_outcome
ending-same V4 p e =
    let out : Family → Outcome = λ g. unlogged (cond (same_family V6 g && is_neighbour_discovery p) Accept Deny) in
    ap out (sym e)
ending-same V6 p e =
    let out : Family → Outcome = λ g. unlogged (cond (same_family V6 g && is_neighbour_discovery p) Accept Deny) in
    ap out (sym e)

over-rules : (families : Families) (rules : List Rule) (p : Packet) → AllByRecursion (IsSoundRule Cisco families) rules → IsPacket p
    → unwrap_or (first_holding (flat_map (items_in p.family) rules) p) (ending p.family p) ≡ rules_outcome Neighbours rules p
unfolding first_holding rules_outcome
over-rules families [] p h k = ending-same p.family p refl
over-rules families (r ∷ rules) p h k =
    let later = first_holding (flat_map (items_in p.family) rules) p in
    let end = ending p.family p in
    ap (λ o. unwrap_or o end) (over-by families r (flat_map (items_in p.family) rules) p (same_family r.family p.family) h.0 k)
    ∙ unwrapped (rule_holds r p) (decided_by r) end later
    ∙ ap (λ o. cond (rule_holds r p) (decided_by r) o) (over-rules families rules p h.1 k)

-- ---- the closing entries

from-everywhere : (f : Family) (a : ℕ) → a < 2 ^ width_of f → has_address (everywhere f) a ≡ true
from-everywhere V4 a h = and_from (nat_le 0 a) (nat_lt a (2 ^ 32)) ((le_decides 0 a).1 zero-le) (lt-ltb a (2 ^ 32) h)
from-everywhere V6 a h = and_from (nat_le 0 a) (nat_lt a (2 ^ 128)) ((le_decides 0 a).1 zero-le) (lt-ltb a (2 ^ 128) h)

denied : (b : Bool) (o : Outcome) → o ≡ unlogged Deny → unwrap_or (cond b (Some (unlogged Deny)) None) o ≡ o
denied true o e = sym e
denied false o e = refl

neighbours : (proto a b s d last : Bool) → s ≡ true → d ≡ true
    → unwrap_or (cond ((proto && (s && d)) && ((true && true) && ((a && true) && true))) (Some (unlogged Accept))
    (cond ((proto && (s && d)) && ((true && true) && ((b && true) && true))) (Some (unlogged Accept)) (cond last (Some (unlogged Deny)) None)))
    (unlogged (verdict_of (proto && (a || b)))) ≡ unlogged (verdict_of (proto && (a || b)))
neighbours false a b s d last e f = denied last (unlogged Deny) refl
neighbours true a b false d last e f = absurd (false≢true e)
neighbours true a b true false last e f = absurd (false≢true f)
neighbours true true b true true last e f = refl
neighbours true false true true true last e f = refl
neighbours true false false true true last e f = denied last (unlogged Deny) refl

closing-decides : (f : Family) (p : Packet) → p.src < 2 ^ width_of f → p.dst < 2 ^ width_of f
    → unwrap_or (first_holding (map (λ e. AnEntry e) (closing_entries f)) p) (ending f p) ≡ ending f p
unfolding first_holding
closing-decides V4 p h k = denied (entry_holds (wide_entry V4 false None None) p) (unlogged Deny) refl
closing-decides V6 p h k =
    neighbours (p.proto == 58) (p.itype == 136) (p.itype == 135) (has_address (everywhere V6) p.src) (has_address (everywhere V6) p.dst)
    (entry_holds (wide_entry V6 false None None) p) (from-everywhere V6 p.src h) (from-everywhere V6 p.dst k)

past-closing : (f : Family) (items : List Item) (p : Packet) → p.src < 2 ^ width_of f → p.dst < 2 ^ width_of f
    → unwrap_or (first_holding (closed f items) p) (ending f p) ≡ unwrap_or (first_holding items p) (ending f p)
unfolding first_holding
past-closing f [] p h k = closing-decides f p h k
past-closing f (item ∷ items) p h k = refl

-- ---- a list has an entry

-- A list is empty, or has an entry.
abbrev IsFull : List Item → Type 0
IsFull items = (items ≡ []) ⊎ (has_entries items ≡ true)

full-append : (xs ys : List Item) → IsFull xs → IsFull ys → IsFull (xs ++ ys)
full-append xs ys (inl e) k = let P : List Item → Type 0 = λ l. IsFull (l ++ ys) in subst P (sym e) k
full-append xs ys (inr h) k = inr (list_any-append is_entry xs ys ∙ ap (λ b. b || has_entries ys) h)

some-entry : (r : Rule) (cs : List Combination) → cs ≢ [] → has_entries (map (λ c. AnEntry (entry_of r c)) cs) ≡ true
some-entry r [] h = absurd (h refl)
some-entry r (c ∷ cs) h = refl

some-behind : (texts : List (List ℕ)) (items : List Item) → has_entries items ≡ true → has_entries (map (λ text. Remark text) texts ++ items) ≡ true
some-behind [] items h = h
some-behind (text ∷ texts) items h = some-behind texts items h

full-by : (families : Families) (r : Rule) (b : Bool) → IsSoundRule Cisco families r → IsFull (cond b (rule_items r) [])
full-by families r true h =
    inr (some-behind (remarks r) (map (λ c. AnEntry (entry_of r c)) (combinations r)) (some-entry r (combinations r) (some-combination Cisco families r h)))
full-by families r false h = inl refl

full-rules : (families : Families) (f : Family) (rules : List Rule) → AllByRecursion (IsSoundRule Cisco families) rules → IsFull (flat_map (items_in f) rules)
full-rules families f [] h = inl refl
full-rules families f (r ∷ rules) h =
    full-append (items_in f r) (flat_map (items_in f) rules) (full-by families r (same_family r.family f) h.0) (full-rules families f rules h.1)

closing-has : (f : Family) → has_entries (closed f []) ≡ true
closing-has V4 = refl
closing-has V6 = refl

has-closed : (f : Family) (items : List Item) → IsFull items → has_entries (closed f items) ≡ true
has-closed f items (inl e) = ap (λ l. has_entries (closed f l)) e ∙ closing-has f
has-closed f [] (inr h) = absurd (false≢true h)
has-closed f (item ∷ items) (inr h) = h

-- ---- the section

list-decides : (families : Families) (rules : List Rule) (p : Packet) → AllByRecursion (IsSoundRule Cisco families) rules → IsPacket p
    → walk p.family (list_items p.family rules) p ≡ rules_outcome Neighbours rules p
unfolding walk
list-decides families rules p h k =
    let own = flat_map (items_in p.family) rules in
    let items = list_items p.family rules in
    ap (λ b. cond b (unwrap_or (first_holding items p) (ending p.family p)) (unlogged Accept)) (has-closed p.family own (full-rules families p.family rules h))
    ∙ past-closing p.family own p k.source k.destination ∙ over-rules families rules p h k

own-list : (rules : List Rule) (fs : Families) (f : Family) (name : List ℕ) → covers fs f ≡ true
    → items_of f (map (list_of rules) (heads_of fs name)) ≡ list_items f rules
unfolding items_of
own-list rules Inet V4 name h = refl
own-list rules Inet V6 name h = absurd (false≢true h)
own-list rules Inet6 V4 name h = absurd (false≢true h)
own-list rules Inet6 V6 name h = refl
own-list rules Mixed V4 name h = refl
own-list rules Mixed V6 name h = refl

pub section_decides : (f : Filter) → IsAccepted is_for_cisco limit_of f → DecidesAs f (section_outcome (section_of f))
unfolding section_outcome
section_decides f h = λ p packet family.
    let lists = (section_of f).lists in
    let end : Ending → Outcome = λ e. rules_outcome e f.rules p in
    ap (λ b. cond b (Some (walk p.family (items_of p.family lists) p)) None) family
    ∙ ap (λ items. Some (walk p.family items p)) (own-list f.rules f.families p.family f.name family)
    ∙ ap Some (list-decides f.families f.rules p (rules-are f h) packet ∙ ap end (sym (device-is f h).1.ending_is))
