-- What is written of a document is read again.
use Rattle.std.proofs.Common.{◌≡◌, ℕ, Bool, true, false, cond, List, [], ◌∷◌, ◌++◌, flat_map, Option, None, Some, refl, ap, sym, ◌∙◌, append_assoc, append-nil}
use Rattle.std.specs.List.{fold, AllByRecursion}
use Rattle.std.proofs.lemmas.List.Sums.{fold-append}
use Rattle.acl_packet.specs.declared.addresses.Family.{Family}
use Rattle.acl_packet.specs.declared.filtering.Hook.{Hook}
use Rattle.acl_rows.specs.Rows.{Row}
use Rattle.acl_rows.specs.RowSteps.{document_in, few_in, row_in, rows_in}
use Rattle.acl_rows.proofs.RowLaws.{fold-again, fold-members}
use Rattle.ipt_lang.specs.declared.documents.Section.{Section}
use Rattle.ipt_lang.specs.declared.documents.Chain.{Chain}
use Rattle.ipt_lang.specs.declared.documents.Rule.{Rule}
use Rattle.ipt_lang.specs.declared.chains_drafts.ChainsDraft.{ChainsDraft}
use Rattle.ipt_lang.specs.Documents.{IsChain, IsRemark, IsRule}
use Rattle.ipt_lang.specs.Texts.{chain_name, jump_row, remark_rows, rule_row, rule_rows, rule_words, target_row}
use Rattle.ipt_lang.specs.ReadingSteps.{end_chain, ended, no_chain, no_draft, take_few, take_named, take_row, take_words, with_name}
use Rattle.ipt_lang.proofs.DocumentLaws.{at, no_hook, own_hook, section}
use Rattle.ipt_lang.proofs.DocumentLaws as arguments
use Rattle.ipr_lang.specs.declared.drafts.RestoreDraft.{RestoreDraft}
use Rattle.ipr_lang.specs.Documents.{IsSection}
use Rattle.ipr_lang.specs.Texts.{chain_rows, commit_row, declared_rows, head_rows, policy_rows, section_rows, table_row, text_of}
use Rattle.ipr_lang.specs.ReadingSteps.{prepared, take_appended, take_declared, take_restored, take_target}
use Rattle.ipr_lang.proofs.SafeRestoreRows.{sections_safe}

abbrev read : ChainsDraft → List Row → ChainsDraft
read d rows = fold take_restored d rows

then : (d m e : ChainsDraft) (xs ys : List Row) → read d xs ≡ m → read m ys ≡ e → read d (xs ++ ys) ≡ e
then d m e xs ys h k = fold-append take_restored d xs ys ∙ ap (λ s. read s ys) h ∙ k

-- ---- chains

remark_read : (ss : List Section) (s : Section) (c : Chain) (text : List ℕ) → IsRemark text
    → read (at ss s c) (remark_rows text) ≡ at ss s (record c { remarks = c.remarks ++ text ∷ [] })
unfolding remark_rows prepared
remark_read ss s c text h = arguments.remark_read ss s c text h

rule_read : (ss : List Section) (s : Section) (c : Chain) (name : List ℕ) (r : Rule) → IsRule s.family r
    → read (at ss s c) (rule_rows s.hook s.family name r) ≡ at ss s (record c { rules = c.rules ++ r ∷ [] })
unfolding rule_rows prepared take_appended
rule_read ss s c name r h =
    let d = at ss s c in
    let words = rule_words s.family r in
    ap (λ b. take_row (cond b (take_target d (few_in words)) d) (rule_row s.hook name words)) (no_hook s.hook name)
    ∙ arguments.rule_read ss s c name r h

jump_read : (ss : List Section) (s : Section) (c : Chain) (name : List ℕ)
    → read (at ss s c) (jump_row s.hook name ∷ []) ≡ end_chain (at ss s (record c { name = name }))
unfolding prepared take_appended take_target
jump_read ss s c name =
    let d = at ss s c in
    ap (λ b. take_row (cond b (with_name d (chain_name s.hook name)) d) (jump_row s.hook name)) (own_hook s.hook)
    ∙ arguments.jump_read ss s (record c { name = name }) name

chain_read : (ss : List Section) (s : Section) (c : Chain) → IsChain s.family c
    → read (at ss s no_chain) (chain_rows s.hook s.family c) ≡ at ss (record s { chains = s.chains ++ c ∷ [] }) no_chain
unfolding chain_rows
chain_read ss s c h =
    let noted : Chain = record no_chain { remarks = c.remarks } in
    let ruled : Chain = record noted { rules = c.rules } in
    let end = at ss (record s { chains = s.chains ++ c ∷ [] }) no_chain in
    let rules = flat_map (rule_rows s.hook s.family c.name) c.rules in
    let last = jump_row s.hook c.name ∷ [] in
    let remarked = fold-members take_restored remark_rows (λ ts. at ss s (record no_chain { remarks = ts })) IsRemark
    (λ ts text k. remark_read ss s (record no_chain { remarks = ts }) text k) [] c.remarks h.remarks in
    let filled = fold-members take_restored (rule_rows s.hook s.family c.name) (λ rs. at ss s (record noted { rules = rs })) (IsRule s.family)
    (λ rs r k. rule_read ss s (record noted { rules = rs }) c.name r k) [] c.rules h.rules in
    then (at ss s no_chain) (at ss s noted) end (flat_map remark_rows c.remarks) (rules ++ last) remarked
    (then (at ss s noted) (at ss s ruled) end rules last filled (jump_read ss s ruled c.name))

chains_read : (ss : List Section) (s : Section) (cs : List Chain) → AllByRecursion (IsChain s.family) cs
    → read (at ss s no_chain) (flat_map (chain_rows s.hook s.family) cs) ≡ at ss (record s { chains = s.chains ++ cs }) no_chain
chains_read ss s cs h =
    fold-members take_restored (chain_rows s.hook s.family) (λ ds. at ss (record s { chains = ds }) no_chain) (IsChain s.family)
    (λ ds c k. chain_read ss (record s { chains = ds }) c k) s.chains cs h

-- ---- what says nothing, and the policy

declared_read : (d : ChainsDraft) (hook : Hook) (cs : List Chain) → read d (flat_map (λ c. declared_rows hook c.name) cs) ≡ d
unfolding prepared take_declared take_words take_named take_few
declared_read d hook [] = refl
declared_read d hook (c ∷ cs) = declared_read d hook cs

table_read : (d : ChainsDraft) → read d (table_row ∷ []) ≡ d
unfolding prepared take_words take_named take_few
table_read d = refl

commit_read : (d : ChainsDraft) → read d (commit_row ∷ []) ≡ d
unfolding prepared take_words take_named take_few
commit_read d = refl

policy_read : (ss : List Section) (h : Hook) (f : Family) (o : Option Bool)
    → read (at ss (section h f None) no_chain) (policy_rows h o) ≡ at ss (section h f o) no_chain
unfolding policy_rows prepared take_declared take_words take_named take_few
policy_read ss h f None = refl
policy_read ss h f (Some true) = refl
policy_read ss h f (Some false) = refl

-- ---- sections

target_read : (d : ChainsDraft) (h : Hook) (f : Family) → read d (target_row h f ∷ []) ≡ at (ended d) (section h f None) no_chain
unfolding prepared
target_read d h f = arguments.target_read d h f

head_read : (d : ChainsDraft) (h : Hook) (f : Family) (o : Option Bool) → read d (head_rows h f o) ≡ at (ended d) (section h f o) no_chain
unfolding head_rows
head_read d h f o =
    let begun = at (ended d) (section h f None) no_chain in
    let end = at (ended d) (section h f o) no_chain in
    then d begun end (target_row h f ∷ []) (table_row ∷ policy_rows h o) (target_read d h f)
    (then begun begun end (table_row ∷ []) (policy_rows h o) (table_read begun) (policy_read (ended d) h f o))

section_read : (d : ChainsDraft) (s : Section) → IsSection s → read d (section_rows s) ≡ at (ended d) s no_chain
unfolding section_rows
section_read d s h =
    let ss = ended d in
    let empty = at ss (section s.hook s.family s.accept) no_chain in
    let end = at ss s no_chain in
    let declared = flat_map (λ c. declared_rows s.hook c.name) s.chains in
    let filled = flat_map (chain_rows s.hook s.family) s.chains in
    let last = commit_row ∷ [] in
    then d empty end (head_rows s.hook s.family s.accept) (declared ++ (filled ++ last)) (head_read d s.hook s.family s.accept)
    (then empty empty end declared (filled ++ last) (declared_read empty s.hook s.chains)
    (then empty end end filled last (chains_read ss (section s.hook s.family s.accept) s.chains h.valid.chains) (commit_read end)))

sections_read : (d : ChainsDraft) (doc : List Section) → AllByRecursion IsSection doc → ended (read d (flat_map section_rows doc)) ≡ ended d ++ doc
sections_read d [] h = sym (append-nil (ended d))
sections_read d (s ∷ doc) h =
    let rest = flat_map section_rows doc in
    let next = at (ended d) s no_chain in
    ap ended (then d next (read next rest) (section_rows s) rest (section_read d s h.0) refl)
    ∙ sections_read next doc h.1 ∙ append_assoc (ended d) (s ∷ []) doc

-- ---- documents

empty_row : (d : ChainsDraft) → take_restored d (row_in []) ≡ d
unfolding row_in prepared take_words take_named take_few
empty_row d = refl

abbrev step : RestoreDraft → Row → RestoreDraft
step d r = record { chains = take_restored d.chains r }

abbrev nothing : RestoreDraft
nothing = record { chains = no_draft }

-- a draft holds one of chains
inside : (d : RestoreDraft) (rows : List Row) → (fold step d rows).chains ≡ read d.chains rows
inside d [] = refl
inside d (r ∷ rows) = inside (step d r) rows

pub document_again : (doc : List Section) → AllByRecursion IsSection doc
    → document_in step nothing (λ (d : RestoreDraft). ended d.chains) (text_of doc) ≡ doc
document_again doc h =
    let rows = flat_map section_rows doc in
    let end = read no_draft rows in
    ap ended (inside nothing (rows_in (text_of doc)) ∙ fold-again take_restored no_draft end rows (sections_safe doc h) refl (empty_row end))
    ∙ sections_read no_draft doc h
