-- Each row of a document can be found again in its text.
use Rattle.std.proofs.Common.{ℕ, Bool, true, false, List, [], ◌∷◌, ◌++◌, flat_map, codes, Option, None, Some, refl}
use Rattle.std.specs.List.{AllByRecursion}
use Rattle.acl_packet.specs.declared.addresses.Family.{Family}
use Rattle.acl_packet.specs.declared.filtering.Hook.{Hook}
use Rattle.acl_text.proofs.ListLaws.{all_append}
use Rattle.acl_rows.specs.Rows.{Row}
use Rattle.acl_rows.specs.RowSteps.{IsWord, IsRow, AreRows}
use Rattle.acl_rows.proofs.ListLaws.{all_flat}
use Rattle.acl_rows.proofs.WordLaws.{word, joined_word}
use Rattle.ipt_lang.specs.declared.documents.Section.{Section}
use Rattle.ipt_lang.specs.declared.documents.Chain.{Chain}
use Rattle.ipt_lang.specs.Documents.{hook_word, IsChain, IsRemark, IsRule}
use Rattle.ipt_lang.specs.Texts.{chain_name, default_word, jump_row, remark_rows, rule_rows}
use Rattle.ipt_lang.proofs.SafeRowLaws.{family_safe, hook_safe, name_safe, remark_safe, rule_safe}
use Rattle.ipr_lang.specs.Documents.{IsSection}
use Rattle.ipr_lang.specs.Texts.{chain_rows, commit_row, declaration_row, declared_rows, head_rows, policy_rows, section_rows}

declaration_safe : (name policy : List ℕ) → IsWord name → IsWord policy → IsRow (declaration_row name policy)
declaration_safe name policy h k =
    let first = joined_word (codes ":") name (search word) h in
    record { start = refl; words = (first, (k, (search word, tt))) }

policy_safe : (accept : Bool) → IsWord (default_word accept)
policy_safe true = search word
policy_safe false = search word

policies_safe : (hook : Hook) (o : Option Bool) → AreRows (policy_rows hook o)
unfolding policy_rows
policies_safe hook None = tt
policies_safe hook (Some accept) =
    (declaration_safe (hook_word hook) (default_word accept) (hook_safe hook) (policy_safe accept), tt)

head_safe : (hook : Hook) (f : Family) (o : Option Bool) → AreRows (head_rows hook f o)
unfolding head_rows
head_safe hook f o = search (word, hook_safe hook, family_safe f, policies_safe hook o)

declared_safe : (hook : Hook) (f : Family) (c : Chain) → IsChain f c → AreRows (declared_rows hook c.name)
declared_safe hook f c h =
    (declaration_safe (chain_name hook c.name) (codes "-") (name_safe hook c.name h.named) (search word), tt)

chain_safe : (hook : Hook) (f : Family) (c : Chain) → IsChain f c → AreRows (chain_rows hook f c)
unfolding chain_rows rule_rows
chain_safe hook f c h =
    let name = name_safe hook c.name h.named in
    let jumped : IsRow (jump_row hook c.name) = search (word, hook_safe hook) in
    let rules = all_flat (IsRule f) IsRow (rule_rows hook f c.name) (λ r k. (record { start = refl; words = (search word, (name, rule_safe f r k)) }, tt)) c.rules h.rules in
    all_append IsRow (flat_map remark_rows c.remarks) _ (all_flat IsRemark IsRow remark_rows remark_safe c.remarks h.remarks)
    (all_append IsRow (flat_map (rule_rows hook f c.name) c.rules) (jump_row hook c.name ∷ []) rules (jumped, tt))

section_safe : (s : Section) → IsSection s → AreRows (section_rows s)
unfolding section_rows
section_safe s h =
    let chains = h.valid.chains in
    let declared : Chain → List Row = λ c. declared_rows s.hook c.name in
    let filled = flat_map (chain_rows s.hook s.family) s.chains in
    let last : IsRow commit_row = search word in
    all_append IsRow (head_rows s.hook s.family s.accept) (flat_map declared s.chains ++ (filled ++ commit_row ∷ []))
    (head_safe s.hook s.family s.accept)
    (all_append IsRow (flat_map declared s.chains) (filled ++ commit_row ∷ [])
    (all_flat (IsChain s.family) IsRow declared (declared_safe s.hook s.family) s.chains chains)
    (all_append IsRow filled (commit_row ∷ [])
    (all_flat (IsChain s.family) IsRow (chain_rows s.hook s.family) (chain_safe s.hook s.family) s.chains chains) (last, tt)))

pub sections_safe : (doc : List Section) → AllByRecursion IsSection doc → AreRows (flat_map section_rows doc)
sections_safe doc h = all_flat IsSection IsRow section_rows section_safe doc h
