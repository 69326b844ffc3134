-- The rows of a section as they are put.
use Rattle.std.proofs.Common.{◌≡◌, ℕ, Bool, List, [], ◌∷◌, ◌++◌, map, flat_map, Option, append-nil, ap, sym, ◌∙◌}
use Rattle.std.proofs.lemmas.List.Folds.{flat_map-map}
use Rattle.std.proofs.lemmas.Grind.{flat_map-append}
use Rattle.acl_packet.specs.declared.addresses.Families.{Families}
use Rattle.acl_rows.specs.Rows.{Row, text_of_rows}
use Rattle.acl_rows.proofs.ListLaws.{flat_twice}
use Rattle.acl_platform.specs.declared.filters.Filter.{Filter}
use Rattle.acl_platform.specs.declared.rules.Rule.{Rule}
use Rattle.acl_platform.specs.Choices.{number_choices}
use Rattle.nft_lang.specs.declared.chain_rows.TableHead.{TableHead}
use Rattle.nft_lang.specs.declared.documents.Item.{Item}
use Rattle.nft_lang.specs.declared.documents.Item.TheVariants.{Remark, Rule as ARule}
use Rattle.nft_lang.specs.Texts.{end_rows, head_rows, item_rows, section_rows, text_of}
use Rattle.gen_nftables.specs.RowSteps.{head_of, items_rows}
use Rattle.gen_nftables.specs.Sections.{chain_rule, remarks_in, rule_items, section_of}

-- the rows of a rule: those of its remarks, and one for each protocol
pub rule-rows : (families : Families) (verbose : Bool) (r : Rule)
    → flat_map (λ text. item_rows families (Remark text)) (remarks_in verbose r) ++ flat_map (λ o. item_rows families (ARule (chain_rule r o))) (number_choices r.protos)
    ≡ items_rows families (rule_items verbose r)
rule-rows families verbose r =
    let rule : Option ℕ → Item = λ o. ARule (chain_rule r o) in
    let texts = remarks_in verbose r in
    let protocols = number_choices r.protos in
    ap (λ rows. flat_map (λ text. item_rows families (Remark text)) texts ++ rows) (sym (flat_map-map (item_rows families) rule protocols))
    ∙ ap (λ rows. rows ++ items_rows families (map rule protocols)) (sym (flat_map-map (item_rows families) (λ text. Remark text) texts))
    ∙ sym (flat_map-append (item_rows families) (map (λ text. Remark text) texts) (map rule protocols))

pub all-rows : (families : Families) (verbose : Bool) (rules : List Rule)
    → flat_map (λ r. items_rows families (rule_items verbose r)) rules ≡ items_rows families (flat_map (rule_items verbose) rules)
all-rows families verbose rules = flat_twice (item_rows families) (rule_items verbose) rules

pub section-text : (f : Filter) {head : TableHead} {rules : List Rule} → head ≡ head_of f → rules ≡ f.rules
    → text_of_rows (head_rows head.hook head.families head.number head.priority head.accept
    ++ (items_rows f.families (flat_map (rule_items f.verbose) rules) ++ end_rows))
    ≡ text_of (section_of f ∷ [])
unfolding section_rows
section-text f {head = head} {rules = rules} e h =
    let front : TableHead → List Row = λ s. head_rows s.hook s.families s.number s.priority s.accept in
    let items : List Rule → List Row = λ rs. items_rows f.families (flat_map (rule_items f.verbose) rs) ++ end_rows in
    ap (λ s. text_of_rows (front s ++ items rules)) e ∙ ap (λ rs. text_of_rows (front (head_of f) ++ items rs)) h
    ∙ ap text_of_rows (sym (append-nil (front (head_of f) ++ items f.rules)))
