-- How many entries a section has.
use Rattle.std.proofs.Common.{◌≡◌, ℕ, suc, zero-add, ◌+◌, ◌*◌, Bool, List, [], ◌∷◌, length, map, flat_map, sum_by, Option, None, refl, ap, sym, ◌∙◌, arith}
use Rattle.std.proofs.lemmas.List.Sums.{sum_by-append, sum_by-cons}
use Rattle.acl_platform.specs.declared.rules.Rule.{Rule}
use Rattle.acl_platform.specs.Choices.{number_choices}
use Rattle.nft_lang.specs.declared.documents.Item.{Item}
use Rattle.nft_lang.specs.declared.documents.Item.TheVariants.{Remark, Rule as ARule}
use Rattle.gen_nftables.specs.CountSteps.{rule_count}
use Rattle.gen_nftables.specs.Sections.{chain_rule, item_size, remarks_in, rule_items, rule_size}

abbrev sizes : List Item → ℕ
sizes items = sum_by item_size items

remark-sizes : (texts : List (List ℕ)) → sizes (map (λ text. Remark text) texts) ≡ 0
remark-sizes [] = refl
remark-sizes (text ∷ texts) =
    let step = sum_by-cons item_size (Remark text) (map (λ t. Remark t) texts) in
    let rest = remark-sizes texts in
    omega (arith, step, rest)

one-more-times : (n s : ℕ) → s + n * s ≡ suc n * s
one-more-times n s = omega arith

protocol-sizes : (r : Rule) (os : List (Option ℕ)) → sizes (map (λ o. ARule (chain_rule r o)) os) ≡ length os * rule_size (chain_rule r None)
protocol-sizes r [] = omega arith
protocol-sizes r (o ∷ os) =
    let size = rule_size (chain_rule r None) in
    let step : sizes (map (λ q. ARule (chain_rule r q)) (o ∷ os)) ≡ size + sizes (map (λ q. ARule (chain_rule r q)) os) =
    sum_by-cons item_size (ARule (chain_rule r o)) (map (λ q. ARule (chain_rule r q)) os) in
    step ∙ ap (λ n. size + n) (protocol-sizes r os) ∙ one-more-times (length os) size

rule-sizes : (verbose : Bool) (r : Rule) → sizes (rule_items verbose r) ≡ rule_count r
rule-sizes verbose r =
    let rules = map (λ o. ARule (chain_rule r o)) (number_choices r.protos) in
    sum_by-append item_size (map (λ text. Remark text) (remarks_in verbose r)) rules
    ∙ ap (λ n. n + sizes rules) (remark-sizes (remarks_in verbose r)) ∙ zero-add (sizes rules) ∙ protocol-sizes r (number_choices r.protos)

pub all-sizes : (verbose : Bool) (rules : List Rule) → sizes (flat_map (rule_items verbose) rules) ≡ sum_by rule_count rules
all-sizes verbose [] = refl
all-sizes verbose (r ∷ rules) =
    sum_by-append item_size (rule_items verbose r) (flat_map (rule_items verbose) rules)
    ∙ ap (λ n. n + sizes (flat_map (rule_items verbose) rules)) (rule-sizes verbose r)
    ∙ ap (λ n. rule_count r + n) (all-sizes verbose rules) ∙ sym (sum_by-cons rule_count r rules)
