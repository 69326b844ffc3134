-- How many entries a list has.
use Rattle.std.proofs.Common.{◌≡◌, ℕ, ◌+◌, min, true, false, cond, List, [], ◌∷◌, ◌++◌, length, map, flat_map, count_by, refl, ap, sym, ◌∙◌, arith}
use Rattle.std.specs.List.{sum_by}
use Rattle.std.proofs.lemmas.Bool.{true≢false}
use Rattle.std.proofs.lemmas.List.Sums.{sum_by-append, sum_by-cons}
use Rattle.acl_packet.specs.declared.addresses.Prefix.{Prefix}
use Rattle.acl_text.specs.Output.{COUNT_END}
use Rattle.acl_platform.specs.declared.rules.Rule.{Rule}
use Rattle.acl_platform.specs.Remarks.{remarks}
use Rattle.acl_rows.specs.RuleParts.{is_empty}
use Rattle.std_lang.specs.declared.documents.Item.{Item}
use Rattle.std_lang.specs.declared.documents.Item.TheVariants.{Remark, Entry as AnEntry}
use Rattle.std_lang.specs.Walks.{is_entry}
use Rattle.gen_acltool.specs.CountSteps.{rule_count}
use Rattle.gen_acltool.specs.Sections.{denial, entry_of, list_items, rule_items}

-- ---- a list with and without rules

pub no-rule : (rules : List Rule) → is_empty rules ≡ true → list_items rules ≡ AnEntry denial ∷ []
no-rule [] h = refl
no-rule (r ∷ rules) h = absurd (true≢false (sym h))

pub some-rule : (rules : List Rule) → is_empty rules ≡ false → list_items rules ≡ flat_map rule_items rules
some-rule [] h = absurd (true≢false h)
some-rule (r ∷ rules) h = refl

-- ---- entries

abbrev pub entries : List Item → ℕ
entries items = count_by is_entry items

abbrev one : Item → ℕ
one item = cond (is_entry item) 1 0

entries-cons : (x : Item) (xs : List Item) → entries (x ∷ xs) ≡ cond (is_entry x) 1 0 + entries xs
entries-cons x xs = sum_by-cons one x xs

entries-append : (xs ys : List Item) → entries (xs ++ ys) ≡ entries xs + entries ys
entries-append xs ys = sum_by-append one xs ys

no-entry : (texts : List (List ℕ)) → entries (map (λ text. Remark text) texts) ≡ 0
no-entry [] = refl
no-entry (text ∷ texts) =
    let step = entries-cons (Remark text) (map (λ t. Remark t) texts) in
    let rest = no-entry texts in
    omega (arith, step, rest)

each-entry : (r : Rule) (sources : List Prefix) → entries (map (λ s. AnEntry (entry_of r s)) sources) ≡ length sources
each-entry r [] = refl
each-entry r (s ∷ sources) =
    let step = entries-cons (AnEntry (entry_of r s)) (map (λ t. AnEntry (entry_of r t)) sources) in
    let rest = each-entry r sources in
    omega (arith, step, rest)

entries-of : (r : Rule) → entries (rule_items r) ≡ length r.src
entries-of r =
    let both = entries-append (map (λ text. Remark text) (remarks r)) (map (λ s. AnEntry (entry_of r s)) r.src) in
    let none = no-entry (remarks r) in
    let all = each-entry r r.src in
    omega (arith, both, none, all)

entries-in : (rules : List Rule) → entries (flat_map rule_items rules) ≡ sum_by rule_count rules
entries-in [] = refl
entries-in (r ∷ rules) =
    let both = entries-append (rule_items r) (flat_map rule_items rules) in
    let here = entries-of r in
    let rest = entries-in rules in
    let all = sum_by-cons rule_count r rules in
    omega (arith, both, here, rest, all)

pub one-entry : (rules : List Rule) → is_empty rules ≡ true → 1 ≡ min (entries (list_items rules)) COUNT_END
one-entry rules h = closing ∙ ap (λ items. min (entries items) COUNT_END) (sym (no-rule rules h)) where
  closing : 1 ≡ min 1 COUNT_END
  closing = omega arith

pub rules-entries : (rules : List Rule) → is_empty rules ≡ false → entries (list_items rules) ≡ sum_by rule_count rules
rules-entries rules h = ap entries (some-rule rules h) ∙ entries-in rules
