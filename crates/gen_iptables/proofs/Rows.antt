-- The rows of a section as they are put.
use Rattle.std.proofs.Common.{◌≡◌, ℕ, List, [], ◌∷◌, ◌++◌, map, flat_map, append-nil, refl, ap, sym, ◌∙◌}
use Rattle.std.proofs.lemmas.List.Folds.{flat_map-map}
use Rattle.acl_packet.specs.declared.addresses.Family.{Family}
use Rattle.acl_packet.specs.declared.filtering.Hook.{Hook}
use Rattle.acl_rows.specs.Rows.{Row, text_of_rows}
use Rattle.acl_rows.proofs.ListLaws.{flat_twice}
use Rattle.acl_platform.specs.declared.filters.Filter.{Filter}
use Rattle.acl_platform.specs.declared.rules.Rule.{Rule}
use Rattle.acl_platform.specs.Choices.{pairs}
use Rattle.acl_platform.specs.Remarks.{remarks}
use Rattle.acl_platform.proofs.ElementLaws.{each-range}
use Rattle.acl_platform.proofs.PairLaws.{over-pairs}
use Rattle.acl_sets.specs.declared.sets.Range.{Range}
use Rattle.ipt_lang.specs.declared.chain_rows.SectionHead.{SectionHead}
use Rattle.ipt_lang.specs.Texts.{chain_row, chain_rows, head_rows, jump_row, ports_words, proto_words, range_word, remark_rows, rule_row, rule_rows, section_rows, text_of}
use Rattle.ipt_lang.specs.declared.documents.Rule.{Rule as ChainRule}
use Rattle.ipt_lang.specs.RuleLines.{destination_words, source_words}
use Rattle.ipt_lang.proofs.LineLaws.{own_ports, words_of_parts}
use Rattle.gen_iptables.specs.Groups.{group_choices}
use Rattle.gen_iptables.specs.ChainRowSteps.{combination_rows, head_of, rows_behind_front, rows_behind_sources}
use Rattle.acl_packet.specs.Addresses.{first_family}
use Rattle.gen_iptables.specs.Sections.{Back, backs, chain_of, chain_rules, combinations, ends_of, Front, fronts, ChainParts, rules_for, section_of}
use Rattle.gen_iptables.specs.TailSteps.{port_words}

-- ---- a rule of a chain

-- a range as it is put
abbrev pub range_in : Range → List ℕ
range_in r = range_word (ends_of r)

pub group-ports : (sports dports : List Range)
    → ports_words (map range_in sports) (map range_in dports) ≡ ports_words (port_words sports) (port_words dports)
group-ports sports dports =
    ap (λ words. ports_words words (map range_in dports)) (each-range range_word sports)
    ∙ ap (ports_words (port_words sports)) (each-range range_word dports)

pub rule-text : (hook : Hook) (family : Family) (name : List ℕ) (rule : ChainRule) {ports : List (List ℕ)} → ports ≡ own_ports rule
    → text_of_rows (rule_row hook name (proto_words family rule.proto ++ (source_words rule.src
    ++ destination_words family rule.dst ports rule.itype rule.icode rule.flags rule.state rule.act)) ∷ [])
    ≡ text_of_rows (rule_rows hook family name rule)
unfolding rule_rows
rule-text hook family name rule e =
    let proto = proto_words family rule.proto in
    let source = source_words rule.src in
    let text : List (List ℕ) → List ℕ = λ words. text_of_rows (rule_row hook name words ∷ []) in
    ap (λ ports. text (proto ++ (source ++ destination_words family rule.dst ports rule.itype rule.icode rule.flags rule.state rule.act))) e
    ∙ ap text (words_of_parts family rule)

-- ---- the rules of a chain, part by part

pub flat-same : {A B : Type 0} (f g : A → List B) → ((x : A) → f x ≡ g x) → (xs : List A) → flat_map f xs ≡ flat_map g xs
flat-same f g e [] = refl
flat-same f g e (x ∷ xs) = ap (λ t. t ++ flat_map f xs) (e x) ∙ ap (λ t. g x ++ t) (flat-same f g e xs)

pub all-parts : (hook : Hook) (family : Family) (r : Rule)
    → flat_map (rows_behind_front hook family r) (fronts r) ≡ flat_map (rule_rows hook family r.name) (chain_rules r)
all-parts hook family r =
    let rows : ChainParts → List Row = combination_rows hook family r in
    let sports = group_choices r.sports in
    let dports = group_choices r.dports in
    let of_front : Front → List Range × (List Range × Back) → List Row = λ front c. rows (front, c) in
    let of_sources : Front → List Range → List Range × Back → List Row = λ front s c. rows (front, (s, c)) in
    let sources : (front : Front) (s : List Range) → rows_behind_sources hook family r front s ≡ flat_map (of_sources front s) (pairs dports (backs r)) =
    λ front s. over-pairs (of_sources front s) dports (backs r) in
    let behind : (front : Front) → rows_behind_front hook family r front ≡ flat_map (of_front front) (pairs sports (pairs dports (backs r))) =
    λ front. flat-same (rows_behind_sources hook family r front) (λ s. flat_map (of_sources front s) (pairs dports (backs r))) (sources front) sports
    ∙ over-pairs (of_front front) sports (pairs dports (backs r)) in
    flat-same (rows_behind_front hook family r) (λ front. flat_map (of_front front) (pairs sports (pairs dports (backs r)))) behind (fronts r)
    ∙ over-pairs rows (fronts r) (pairs sports (pairs dports (backs r)))
    ∙ flat_twice (rule_rows hook family r.name) (rules_for r) (combinations r)

-- ---- a chain, and a section

pub chain-text : (hook : Hook) (family : Family) (r : Rule) {name : List ℕ} → name ≡ r.name
    → text_of_rows (flat_map remark_rows (remarks r)
    ++ (chain_row hook name ∷ [] ++ (flat_map (rule_rows hook family r.name) (chain_rules r) ++ jump_row hook name ∷ [])))
    ≡ text_of_rows (chain_rows hook family (chain_of r))
unfolding chain_rows
chain-text hook family r {name = name} e =
    let rules = flat_map (rule_rows hook family r.name) (chain_rules r) in
    ap (λ n. text_of_rows (flat_map remark_rows (remarks r) ++ (chain_row hook n ∷ [] ++ (rules ++ jump_row hook n ∷ [])))) e

pub section-text : (f : Filter) {head : SectionHead} {family : Family} {rules : List Rule} → head ≡ head_of f → family ≡ first_family f.families → rules ≡ f.rules
    → text_of_rows (head_rows head.hook head.family head.accept ++ flat_map (λ r. chain_rows f.hook family (chain_of r)) rules)
    ≡ text_of (section_of f ∷ [])
unfolding section_rows
section-text f {head = head} {family = family} {rules = rules} e h k =
    let front : SectionHead → List Row = λ s. head_rows s.hook s.family s.accept in
    let chains : Family → List Rule → List Row = λ g rs. flat_map (λ r. chain_rows f.hook g (chain_of r)) rs in
    let own = first_family f.families in
    ap (λ s. text_of_rows (front s ++ chains family rules)) e ∙ ap (λ g. text_of_rows (front (head_of f) ++ chains g rules)) h
    ∙ ap (λ rs. text_of_rows (front (head_of f) ++ chains own rs)) k
    ∙ ap (λ rows. text_of_rows (front (head_of f) ++ rows)) (sym (flat_map-map (chain_rows f.hook own) chain_of f.rules))
    ∙ ap text_of_rows (sym (append-nil (front (head_of f) ++ flat_map (chain_rows f.hook own) (map chain_of f.rules))))
