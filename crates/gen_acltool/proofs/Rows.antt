-- The rows of a section as they are put.
use Rattle.std.proofs.Common.{◌≡◌, ℕ, false, List, [], ◌∷◌, ◌++◌, map, flat_map, append-nil, ap, sym, ◌∙◌}
use Rattle.std.proofs.lemmas.Grind.{flat_map-append}
use Rattle.std.proofs.lemmas.List.Folds.{flat_map-map}
use Rattle.acl_packet.specs.declared.addresses.Prefix.{Prefix}
use Rattle.acl_rows.specs.Rows.{text_of_rows}
use Rattle.acl_rows.specs.RuleParts.{is_empty}
use Rattle.acl_rows.proofs.ListLaws.{flat_twice}
use Rattle.acl_platform.specs.declared.filters.Filter.{Filter}
use Rattle.acl_platform.specs.declared.rules.Rule.{Rule}
use Rattle.acl_platform.specs.Remarks.{remarks}
use Rattle.std_lang.specs.declared.documents.Item.{Item}
use Rattle.std_lang.specs.declared.documents.Item.TheVariants.{Remark, Entry as AnEntry}
use Rattle.std_lang.specs.Texts.{head_rows, item_rows, section_rows, text_of}
use Rattle.gen_acltool.specs.RowSteps.{items_rows}
use Rattle.gen_acltool.specs.Sections.{entry_of, list_items, list_number, rule_items, section_of}
use Rattle.gen_acltool.proofs.EntryCounts.{some-rule}

-- the rows of a rule: those of its remarks, and one for each entry
pub rule-rows : (n : ℕ) (r : Rule)
    → flat_map (λ text. item_rows n (Remark text)) (remarks r) ++ flat_map (λ s. item_rows n (AnEntry (entry_of r s))) r.src
    ≡ items_rows n (rule_items r)
rule-rows n r =
    let entry : Prefix → Item = λ s. AnEntry (entry_of r s) in
    ap (λ rows. flat_map (λ text. item_rows n (Remark text)) (remarks r) ++ rows) (sym (flat_map-map (item_rows n) entry r.src))
    ∙ ap (λ rows. rows ++ items_rows n (map entry r.src)) (sym (flat_map-map (item_rows n) (λ text. Remark text) (remarks r)))
    ∙ sym (flat_map-append (item_rows n) (map (λ text. Remark text) (remarks r)) (map entry r.src))

pub rules-rows : (n : ℕ) (rules : List Rule) → is_empty rules ≡ false
    → flat_map (λ r. items_rows n (rule_items r)) rules ≡ items_rows n (list_items rules)
rules-rows n rules h = flat_twice (item_rows n) rule_items rules ∙ ap (items_rows n) (sym (some-rule rules h))

pub section-text : (first : ℕ) (f : Filter) → text_of_rows (head_rows (list_number first f) ++ items_rows (list_number first f) (list_items f.rules))
    ≡ text_of (section_of first f ∷ [])
unfolding section_rows
section-text first f =
    let n = list_number first f in ap text_of_rows (sym (append-nil (head_rows n ++ items_rows n (list_items f.rules))))
