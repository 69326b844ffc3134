-- The rows of a section that begin with `-A`.
use Rattle.std.proofs.Common.{◌≡◌, ℕ, Bool, cond, List, [], ◌∷◌, ◌++◌, length, flat_map, sum_by, Option, None, Some, refl, arith}
use Rattle.std.proofs.lemmas.List.Sums.{sum_by-append, sum_by-cons}
use Rattle.acl_packet.specs.declared.addresses.Family.{Family}
use Rattle.acl_packet.specs.declared.filtering.Hook.{Hook}
use Rattle.acl_rows.specs.Rows.{Row}
use Rattle.ipt_lang.specs.declared.documents.Chain.{Chain}
use Rattle.ipt_lang.specs.declared.documents.Rule.{Rule}
use Rattle.ipt_lang.specs.Texts.{chain_row, chain_rows, head_rows, jump_row, default_rows, remark_rows, rule_rows, section_rows, target_row}
use Rattle.gen_iptables.specs.EntryRows.{CountIsOfAppends, is_append}
use Rattle.gen_iptables.specs.Sections.{chain_size, section_of}

abbrev one : Row → ℕ
one r = cond (is_append r) 1 0

remarks-none : (texts : List (List ℕ)) → sum_by one (flat_map remark_rows texts) ≡ 0
unfolding remark_rows
remarks-none [] = refl
remarks-none (text ∷ texts) =
    let all = sum_by-append one (remark_rows text) (flat_map remark_rows texts) in
    let none : sum_by one (remark_rows text) ≡ 0 = refl in
    let rest = remarks-none texts in
    omega (arith, all, none, rest)

rules-each : (hook : Hook) (family : Family) (name : List ℕ) (rules : List Rule)
    → sum_by one (flat_map (rule_rows hook family name) rules) ≡ length rules
unfolding rule_rows
rules-each hook family name [] = refl
rules-each hook family name (r ∷ rules) =
    let here = sum_by-append one (rule_rows hook family name r) (flat_map (rule_rows hook family name) rules) in
    let rest = rules-each hook family name rules in
    let first : sum_by one (rule_rows hook family name r) ≡ 1 = refl in
    omega (arith, here, rest, first)

chain-each : (hook : Hook) (family : Family) (c : Chain) → sum_by one (chain_rows hook family c) ≡ chain_size c
unfolding chain_rows
chain-each hook family c =
    let rules = flat_map (rule_rows hook family c.name) c.rules in
    let end = jump_row hook c.name ∷ [] in
    let all = sum_by-append one (flat_map remark_rows c.remarks) (chain_row hook c.name ∷ (rules ++ end)) in
    let head = sum_by-cons one (chain_row hook c.name) (rules ++ end) in
    let none : one (chain_row hook c.name) ≡ 0 = refl in
    let both = sum_by-append one rules end in
    let jump : sum_by one end ≡ 1 = refl in
    let remarks = remarks-none c.remarks in
    let each = rules-each hook family c.name c.rules in
    omega (arith, all, head, none, both, jump, remarks, each)

chains-each : (hook : Hook) (family : Family) (cs : List Chain)
    → sum_by one (flat_map (chain_rows hook family) cs) ≡ sum_by chain_size cs
chains-each hook family [] = refl
chains-each hook family (c ∷ cs) =
    let here = sum_by-append one (chain_rows hook family c) (flat_map (chain_rows hook family) cs) in
    let first = chain-each hook family c in
    let rest = chains-each hook family cs in
    let both = sum_by-cons chain_size c cs in
    omega (arith, here, first, rest, both)

policy-none : (hook : Hook) (o : Option Bool) → sum_by one (default_rows hook o) ≡ 0
unfolding default_rows
policy-none hook None = refl
policy-none hook (Some accept) = refl

head-none : (hook : Hook) (family : Family) (o : Option Bool) → sum_by one (head_rows hook family o) ≡ 0
unfolding head_rows
head-none hook family o =
    let all = sum_by-cons one (target_row hook family) (default_rows hook o) in
    let none : one (target_row hook family) ≡ 0 = refl in
    let rest = policy-none hook o in
    omega (arith, all, none, rest)

pub count_is_of_appends : CountIsOfAppends
unfolding section_rows
count_is_of_appends f =
    let s = section_of f in
    let all = sum_by-append one (head_rows s.hook s.family s.accept) (flat_map (chain_rows s.hook s.family) s.chains) in
    let none = head-none s.hook s.family s.accept in
    let rest = chains-each s.hook s.family s.chains in
    omega (arith, all, none, rest)
