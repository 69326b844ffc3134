-- How many entries a section has.
use Rattle.std.proofs.Common.{◌≡◌, ℕ, ◌+◌, min, Bool, true, false, ◌||◌, cond, List, [], ◌∷◌, ◌++◌, length, map, flat_map, count_by, refl, ap, sym, ◌∙◌, append-nil, arith}
use Rattle.std.specs.List.{list_any, sum_by}
use Rattle.std.proofs.lemmas.Bool.{or_parts, true≢false}
use Rattle.std.proofs.lemmas.List.Sums.{sum_by-append, sum_by-cons}
use Rattle.acl_packet.specs.declared.addresses.Families.{Families}
use Rattle.acl_packet.specs.declared.addresses.Families.TheVariants.{Inet, Inet6, Mixed}
use Rattle.acl_packet.specs.declared.addresses.Family.{Family}
use Rattle.acl_packet.specs.declared.addresses.Family.TheVariants.{V4, V6}
use Rattle.acl_packet.specs.Addresses.{same_family}
use Rattle.acl_text.specs.Output.{COUNT_END}
use Rattle.acl_platform.specs.declared.combinations.Combination.{Combination}
use Rattle.acl_platform.specs.declared.rules.Rule.{Rule}
use Rattle.acl_platform.specs.Combinations.{combinations}
use Rattle.acl_platform.specs.Remarks.{remarks}
use Rattle.cisco_lang.specs.declared.documents.Item.{Item}
use Rattle.cisco_lang.specs.declared.documents.Item.TheVariants.{Remark, Entry as AnEntry}
use Rattle.cisco_lang.specs.Documents.{heads_of}
use Rattle.cisco_lang.specs.Walks.{is_entry}
use Rattle.gen_cisco.specs.CountSteps.{closing_count, rule_count}
use Rattle.gen_cisco.specs.Sections.{closed, closing_entries, entry_of, items_in, list_items, list_of, rule_items}

abbrev pub entries : List Item → ℕ
entries items = count_by is_entry items

abbrev one : Item → ℕ
one item = cond (is_entry item) 1 0

entries-cons : (x : Item) (xs : List Item) → entries (x ∷ xs) ≡ cond (is_entry x) 1 0 + entries xs
entries-cons x xs = sum_by-cons one x xs

entries-append : (xs ys : List Item) → entries (xs ++ ys) ≡ entries xs + entries ys
entries-append xs ys = sum_by-append one xs ys

no-entry : (texts : List (List ℕ)) → entries (map (λ text. Remark text) texts) ≡ 0
no-entry [] = refl
no-entry (text ∷ texts) =
    let step = entries-cons (Remark text) (map (λ t. Remark t) texts) in
    let rest = no-entry texts in
    omega (arith, step, rest)

each-entry : (r : Rule) (cs : List Combination) → entries (map (λ c. AnEntry (entry_of r c)) cs) ≡ length cs
each-entry r [] = refl
each-entry r (c ∷ cs) =
    let step = entries-cons (AnEntry (entry_of r c)) (map (λ d. AnEntry (entry_of r d)) cs) in
    let rest = each-entry r cs in
    omega (arith, step, rest)

entries-of : (r : Rule) → entries (rule_items r) ≡ length (combinations r)
entries-of r =
    let both = entries-append (map (λ text. Remark text) (remarks r)) (map (λ c. AnEntry (entry_of r c)) (combinations r)) in
    let none = no-entry (remarks r) in
    let all = each-entry r (combinations r) in
    omega (arith, both, none, all)

entries-by : (r : Rule) (b : Bool) → entries (cond b (rule_items r) []) ≡ cond b (length (combinations r)) 0
entries-by r true = entries-of r
entries-by r false = refl

entries-in : (family : Family) (rules : List Rule) → entries (flat_map (items_in family) rules) ≡ sum_by (rule_count family) rules
entries-in family [] = refl
entries-in family (r ∷ rules) =
    let both = entries-append (items_in family r) (flat_map (items_in family) rules) in
    let here = entries-by r (same_family r.family family) in
    let rest = entries-in family rules in
    let all = sum_by-cons (rule_count family) r rules in
    omega (arith, both, here, rest, all)

-- ---- the closing entries stand in a list without a rule alone

no-items-by : (r : Rule) (b : Bool) (rest : List Item) → b ≡ false → cond b (rule_items r) [] ++ rest ≡ rest
no-items-by r true rest h = absurd (true≢false h)
no-items-by r false rest h = refl

pub no-items : (family : Family) (rules : List Rule) → list_any (λ r. same_family r.family family) rules ≡ false → flat_map (items_in family) rules ≡ []
no-items family [] h = refl
no-items family (r ∷ rules) h =
    let p = or_parts (same_family r.family family) (list_any (λ q. same_family q.family family) rules) h in
    no-items-by r (same_family r.family family) (flat_map (items_in family) rules) p.0 ∙ no-items family rules p.1

same-by : (family : Family) (r : Rule) (b : Bool) (later : Bool) (rest : List Item) → (b || later) ≡ true → (later ≡ true → closed family rest ≡ rest)
    → closed family (cond b (rule_items r) [] ++ rest) ≡ cond b (rule_items r) [] ++ rest
same-by family r true later rest h k = refl
same-by family r false later rest h k = k h

pub same-items : (family : Family) (rules : List Rule) → list_any (λ r. same_family r.family family) rules ≡ true
    → list_items family rules ≡ flat_map (items_in family) rules
same-items family [] h = absurd (true≢false (sym h))
same-items family (r ∷ rules) h =
    same-by family r (same_family r.family family) (list_any (λ q. same_family q.family family) rules) (flat_map (items_in family) rules) h
    (same-items family rules)

pub closing-items : (family : Family) (rules : List Rule) → list_any (λ r. same_family r.family family) rules ≡ false
    → list_items family rules ≡ map (λ e. AnEntry e) (closing_entries family)
closing-items family rules h = ap (closed family) (no-items family rules h)

closing-entries : (family : Family) → entries (map (λ e. AnEntry e) (closing_entries family)) ≡ closing_count family
closing-entries V4 = refl
closing-entries V6 = refl

pub closing-list : (family : Family) (rules : List Rule) → list_any (λ r. same_family r.family family) rules ≡ false
    → entries (list_items family rules) ≡ closing_count family
closing-list family rules h = ap entries (closing-items family rules h) ∙ closing-entries family

pub closing-min : (family : Family) → closing_count family ≡ min (closing_count family) COUNT_END
closing-min V4 = omega arith
closing-min V6 = omega arith

pub rule-list : (family : Family) (rules : List Rule) → list_any (λ r. same_family r.family family) rules ≡ true
    → entries (list_items family rules) ≡ sum_by (rule_count family) rules
rule-list family rules h = ap entries (same-items family rules h) ∙ entries-in family rules

-- ---- a section

abbrev pub lists-count : Families → List Rule → List ℕ → ℕ
lists-count fs rules name = entries (flat_map (λ l. l.items) (map (list_of rules) (heads_of fs name)))

pub inet-count : (rules : List Rule) (name : List ℕ) → lists-count Inet rules name ≡ entries (list_items V4 rules)
inet-count rules name = ap entries (append-nil (list_items V4 rules))

pub inet6-count : (rules : List Rule) (name : List ℕ) → lists-count Inet6 rules name ≡ entries (list_items V6 rules)
inet6-count rules name = ap entries (append-nil (list_items V6 rules))

pub mixed-count : (rules : List Rule) (name : List ℕ) → lists-count Mixed rules name ≡ entries (list_items V4 rules) + entries (list_items V6 rules)
mixed-count rules name =
    entries-append (list_items V4 rules) (list_items V6 rules ++ [])
    ∙ ap (λ items. entries (list_items V4 rules) + entries items) (append-nil (list_items V6 rules))
