-- The rows of a section as they are put.
use Rattle.std.proofs.Common.{◌≡◌, ℕ, Bool, true, false, cond, List, [], ◌∷◌, ◌++◌, map, flat_map, codes, refl, append-nil, ap, sym, ◌∙◌}
use Rattle.std.specs.List.{list_any}
use Rattle.std.proofs.lemmas.Bool.{false≢true}
use Rattle.std.proofs.lemmas.List.Folds.{flat_map-map}
use Rattle.std.proofs.lemmas.Grind.{flat_map-append}
use Rattle.acl_packet.specs.declared.addresses.Families.{Families}
use Rattle.acl_packet.specs.declared.addresses.Families.TheVariants.{Mixed}
use Rattle.acl_packet.specs.declared.addresses.Family.{Family}
use Rattle.acl_packet.specs.declared.addresses.Family.TheVariants.{V4, V6}
use Rattle.acl_packet.specs.Addresses.{same_family}
use Rattle.acl_rows.specs.Rows.{Row, text_of_rows}
use Rattle.acl_rows.proofs.DecisionLaws.{family_decides}
use Rattle.acl_rows.proofs.ListLaws.{flat_twice}
use Rattle.acl_platform.specs.declared.rules.Rule.{Rule}
use Rattle.acl_platform.specs.Combinations.{combinations}
use Rattle.acl_platform.specs.Remarks.{remarks}
use Rattle.acl_platform.specs.declared.combinations.Combination.{Combination}
use Rattle.cisco_lang.specs.declared.documents.Item.{Item}
use Rattle.cisco_lang.specs.declared.documents.Item.TheVariants.{Remark, Entry as AnEntry}
use Rattle.cisco_lang.specs.Documents.{heads_of}
use Rattle.cisco_lang.specs.Texts.{head_rows, item_rows, list_rows, section_row, section_rows, text_of}
use Rattle.gen_cisco.specs.RowSteps.{items_rows, list_body}
use Rattle.gen_cisco.specs.Sections.{entry_of, items_in, list_items, list_of, rule_items}
use Rattle.gen_cisco.proofs.EntryCounts.{same-items}

-- the rows of a rule: those of its remarks, and one for each entry
rule-rows : (family : Family) (r : Rule)
    → flat_map (λ text. item_rows family (Remark text)) (remarks r) ++ flat_map (λ c. item_rows family (AnEntry (entry_of r c))) (combinations r)
    ≡ items_rows family (rule_items r)
rule-rows family r =
    let entry : Combination → Item = λ c. AnEntry (entry_of r c) in
    ap (λ rows. flat_map (λ text. item_rows family (Remark text)) (remarks r) ++ rows) (sym (flat_map-map (item_rows family) entry (combinations r)))
    ∙ ap (λ rows. rows ++ items_rows family (map entry (combinations r))) (sym (flat_map-map (item_rows family) (λ text. Remark text) (remarks r)))
    ∙ sym (flat_map-append (item_rows family) (map (λ text. Remark text) (remarks r)) (map entry (combinations r)))

own-by : (family : Family) (r : Rule) (b : Bool) → b ≡ true → items_rows family (rule_items r) ≡ items_rows family (cond b (rule_items r) [])
own-by family r true h = refl
own-by family r false h = absurd (false≢true h)

pub own-rule : (family : Family) (r : Rule) → same_family r.family family ≡ true
    → flat_map (λ text. item_rows family (Remark text)) (remarks r) ++ flat_map (λ c. item_rows r.family (AnEntry (entry_of r c))) (combinations r)
    ≡ items_rows family (items_in family r)
own-rule family r e =
    let same = (family_decides r.family family).0 e in
    ap (λ f. flat_map (λ text. item_rows family (Remark text)) (remarks r) ++ flat_map (λ c. item_rows f (AnEntry (entry_of r c))) (combinations r)) same
    ∙ rule-rows family r ∙ own-by family r (same_family r.family family) e

pub own-rows : (family : Family) (rules : List Rule) → list_any (λ r. same_family r.family family) rules ≡ true
    → flat_map (λ r. items_rows family (items_in family r)) rules ≡ items_rows family (list_items family rules)
own-rows family rules h = flat_twice (item_rows family) (items_in family) rules ∙ ap (items_rows family) (sym (same-items family rules h))

abbrev pub lists_rows : Families → List Rule → List ℕ → List Row
lists_rows fs rules name = flat_map list_rows (map (list_of rules) (heads_of fs name))

pub one-list : (family : Family) (name : List ℕ) (rules : List Rule) → head_rows family name ++ list_body family rules ≡ list_rows (list_of rules (family, name)) ++ []
unfolding list_rows
one-list family name rules = sym (append-nil (head_rows family name ++ list_body family rules))

pub both-lists : (name : List ℕ) (rules : List Rule)
    → (head_rows V4 name ++ list_body V4 rules) ++ (head_rows V6 (codes "ipv6-" ++ name) ++ list_body V6 rules) ≡ lists_rows Mixed rules name
unfolding list_rows
both-lists name rules =
    ap (λ rows. (head_rows V4 name ++ list_body V4 rules) ++ rows) (one-list V6 (codes "ipv6-" ++ name) rules)

pub section-text : (name : List ℕ) (fs : Families) (rules : List Rule) (rows : List Row) → rows ≡ lists_rows fs rules name
    → text_of_rows (section_row name fs ∷ [] ++ rows) ≡ text_of (record { name = name; families = fs; lists = map (list_of rules) (heads_of fs name) } ∷ [])
unfolding section_rows
section-text name fs rules rows e =
    ap (λ x. text_of_rows (section_row name fs ∷ x)) e ∙ ap text_of_rows (sym (append-nil (section_row name fs ∷ lists_rows fs rules name)))
