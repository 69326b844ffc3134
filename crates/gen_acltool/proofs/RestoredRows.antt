-- The rows of a section as they are put.
use Rattle.std.proofs.Common.{◌≡◌, ℕ, Bool, List, [], ◌∷◌, ◌++◌, map, flat_map, Option, append-nil, ap, sym, ◌∙◌}
use Rattle.std.proofs.lemmas.List.Folds.{flat_map-map}
use Rattle.acl_packet.specs.declared.addresses.Family.{Family}
use Rattle.acl_packet.specs.declared.filtering.Hook.{Hook}
use Rattle.acl_packet.specs.Addresses.{first_family}
use Rattle.acl_rows.specs.Rows.{Row, text_of_rows}
use Rattle.acl_platform.specs.declared.filters.Filter.{Filter}
use Rattle.acl_platform.specs.declared.rules.Rule.{Rule}
use Rattle.acl_platform.specs.Remarks.{remarks}
use Rattle.ipt_lang.specs.declared.documents.Chain.{Chain}
use Rattle.ipt_lang.specs.Texts.{jump_row, remark_rows, rule_rows}
use Rattle.ipr_lang.specs.Texts.{chain_rows, commit_row, declared_rows, head_rows, section_rows, text_of}
use Rattle.gen_iptables.specs.Sections.{chain_of, chain_rules, policy_of, section_of}

pub chain-text : (hook : Hook) (family : Family) (r : Rule) {name : List ℕ} → name ≡ r.name
    → text_of_rows (flat_map remark_rows (remarks r) ++ (flat_map (rule_rows hook family r.name) (chain_rules r) ++ jump_row hook name ∷ []))
    ≡ text_of_rows (chain_rows hook family (chain_of r))
unfolding chain_rows
chain-text hook family r {name = name} e =
    let rules = flat_map (rule_rows hook family r.name) (chain_rules r) in
    ap (λ n. text_of_rows (flat_map remark_rows (remarks r) ++ (rules ++ jump_row hook n ∷ []))) e

abbrev declared : Hook → List Rule → List Row
declared hook rules = flat_map (λ r. declared_rows hook r.name) rules

abbrev filled : Hook → Family → List Rule → List Row
filled hook family rules = flat_map (λ r. chain_rows hook family (chain_of r)) rules

pub section-text : (f : Filter) {accept : Option Bool} {family : Family} {rules : List Rule} → accept ≡ policy_of f.ending
    → family ≡ first_family f.families → rules ≡ f.rules
    → text_of_rows (head_rows f.hook family accept ++ (declared f.hook rules ++ (filled f.hook family rules ++ commit_row ∷ [])))
    ≡ text_of (section_of f ∷ [])
unfolding section_rows
section-text f {accept = accept} {family = family} {rules = rules} e h k =
    let all : Option Bool → Family → List Row → List Row → List Row = λ o g ds cs. head_rows f.hook g o ++ (ds ++ (cs ++ commit_row ∷ [])) in
    let of : Option Bool → Family → List Rule → List ℕ = λ o g rs. text_of_rows (all o g (declared f.hook rs) (filled f.hook g rs)) in
    let policy = policy_of f.ending in
    let own = first_family f.families in
    let chains = map chain_of f.rules in
    let named : Chain → List Row = λ c. declared_rows f.hook c.name in
    let as_chains = flat_map (chain_rows f.hook own) chains in
    ap (λ o. of o family rules) e ∙ ap (λ g. of policy g rules) h ∙ ap (of policy own) k
    ∙ ap (λ ds. text_of_rows (all policy own ds (filled f.hook own f.rules))) (sym (flat_map-map named chain_of f.rules))
    ∙ ap (λ cs. text_of_rows (all policy own (flat_map named chains) cs)) (sym (flat_map-map (chain_rows f.hook own) chain_of f.rules))
    ∙ ap text_of_rows (sym (append-nil (all policy own (flat_map named chains) as_chains)))
