-- What is written of a document is read again.
use Rattle.std.proofs.Common.{◌≡◌, ℕ, Bool, true, false, cond, List, [], ◌∷◌, ◌++◌, flat_map, codes, Option, None, Some, refl, ap, sym, ◌∙◌, append_assoc, append-nil}
use Rattle.std.specs.List.{fold, AllByRecursion}
use Rattle.std.specs.Str.{bytes_eq}
use Rattle.std.proofs.lemmas.List.Splits.{join_with_byte-slice_split}
use Rattle.std.proofs.lemmas.List.Sums.{fold-append}
use Rattle.acl_packet.specs.declared.addresses.Family.{Family}
use Rattle.acl_packet.specs.declared.addresses.Family.TheVariants.{V4, V6}
use Rattle.acl_packet.specs.declared.filtering.Hook.{Hook}
use Rattle.acl_packet.specs.declared.filtering.Hook.TheVariants.{Input, Output, Forward}
use Rattle.acl_rows.specs.Rows.{Row}
use Rattle.acl_rows.specs.RowSteps.{document_in, row_in}
use Rattle.acl_rows.proofs.RowLaws.{fold-again, fold-members}
use Rattle.acl_rows.specs.FamilyWords.{family_in}
use Rattle.ipt_lang.specs.declared.documents.Section.{Section}
use Rattle.ipt_lang.specs.declared.documents.Chain.{Chain}
use Rattle.ipt_lang.specs.declared.documents.Rule.{Rule}
use Rattle.ipt_lang.specs.declared.chains_drafts.ChainsDraft.{ChainsDraft}
use Rattle.ipt_lang.specs.Documents.{IsRule, IsRemark, IsChain, IsSection, hook_word, family_word}
use Rattle.ipt_lang.specs.Texts.{rule_words, chain_name, remark_rows, rule_rows, chain_row, jump_row, chain_rows, default_rows, target_row, head_rows, section_rows, text_of}
use Rattle.ipt_lang.specs.ReadingSteps.{rule_in, no_chain, no_draft, hook_in, ended, end_chain, with_rule, take_appended, take_target, take_policy, take_few, take_name, take_named, take_words, take_row}
use Rattle.ipt_lang.proofs.RuleReadingLaws.{rule_again}
use Rattle.ipt_lang.proofs.SafeRowLaws.{sections_safe}

abbrev pub at : List Section → Section → Chain → ChainsDraft
at ss s c = record { sections = ss; begun = true; section = s; chain = c }

abbrev pub read : ChainsDraft → List Row → ChainsDraft
read d rows = fold take_row d rows

then : (d m e : ChainsDraft) (xs ys : List Row) → read d xs ≡ m → read m ys ≡ e → read d (xs ++ ys) ≡ e
then d m e xs ys h k = fold-append take_row d xs ys ∙ ap (λ s. read s ys) h ∙ k

-- ---- chains

pub remark_read : (ss : List Section) (s : Section) (c : Chain) (text : List ℕ) → IsRemark text
    → read (at ss s c) (remark_rows text) ≡ at ss s (record c { remarks = c.remarks ++ text ∷ [] })
unfolding remark_rows take_words take_named
remark_read ss s c text h = ap (λ t. at ss s (record c { remarks = c.remarks ++ t ∷ [] })) (join_with_byte-slice_split 32 text)

-- a chain of its own is none of the hooks, and a jump is appended to the hook
pub no_hook : (h : Hook) (name : List ℕ) → bytes_eq (chain_name h name) (hook_word h) ≡ false
no_hook Input name = refl
no_hook Output name = refl
no_hook Forward name = refl

pub own_hook : (h : Hook) → bytes_eq (hook_word h) (hook_word h) ≡ true
own_hook Input = refl
own_hook Output = refl
own_hook Forward = refl

pub rule_read : (ss : List Section) (s : Section) (c : Chain) (name : List ℕ) (r : Rule) → IsRule s.family r
    → read (at ss s c) (rule_rows s.hook s.family name r) ≡ at ss s (record c { rules = c.rules ++ r ∷ [] })
unfolding rule_rows take_words take_named take_appended
rule_read ss s c name r h =
    let d = at ss s c in
    ap (λ b. cond b (end_chain d) (with_rule d (rule_in s.family (rule_words s.family r)))) (no_hook s.hook name)
    ∙ ap (with_rule d) (rule_again s.family r h)

pub jump_read : (ss : List Section) (s : Section) (c : Chain) (name : List ℕ) → read (at ss s c) (jump_row s.hook name ∷ []) ≡ end_chain (at ss s c)
unfolding take_words take_named take_appended
jump_read ss s c name =
    let d = at ss s c in
    ap (λ b. cond b (end_chain d) (with_rule d (rule_in s.family (codes "-j" ∷ chain_name s.hook name ∷ [])))) (own_hook s.hook)

chain_read : (ss : List Section) (s : Section) (c : Chain) → IsChain s.family c
    → read (at ss s no_chain) (chain_rows s.hook s.family c) ≡ at ss (record s { chains = s.chains ++ c ∷ [] }) no_chain
unfolding chain_rows take_words take_named take_few take_name
chain_read ss s c h =
    let noted : Chain = record no_chain { remarks = c.remarks } in
    let named : Chain = record noted { name = c.name } in
    let end = at ss (record s { chains = s.chains ++ c ∷ [] }) no_chain in
    let rules = flat_map (rule_rows s.hook s.family c.name) c.rules in
    let last = jump_row s.hook c.name ∷ [] in
    let remarked = fold-members take_row remark_rows (λ ts. at ss s (record no_chain { remarks = ts })) IsRemark
    (λ ts text k. remark_read ss s (record no_chain { remarks = ts }) text k) [] c.remarks h.remarks in
    let ruled = fold-members take_row (rule_rows s.hook s.family c.name) (λ rs. at ss s (record named { rules = rs })) (IsRule s.family)
    (λ rs r k. rule_read ss s (record named { rules = rs }) c.name r k) [] c.rules h.rules in
    then (at ss s no_chain) (at ss s noted) end (flat_map remark_rows c.remarks) (chain_row s.hook c.name ∷ (rules ++ last)) remarked
    (then (at ss s named) (at ss s c) end rules last ruled (jump_read ss s c c.name))

chains_read : (ss : List Section) (s : Section) (cs : List Chain) → AllByRecursion (IsChain s.family) cs
    → read (at ss s no_chain) (flat_map (chain_rows s.hook s.family) cs) ≡ at ss (record s { chains = s.chains ++ cs }) no_chain
chains_read ss s cs h =
    fold-members take_row (chain_rows s.hook s.family) (λ ds. at ss (record s { chains = ds }) no_chain) (IsChain s.family)
    (λ ds c k. chain_read ss (record s { chains = ds }) c k) s.chains cs h

-- ---- sections

hook_again : (h : Hook) → hook_in (hook_word h) ≡ h
unfolding hook_in
hook_again Input = refl
hook_again Output = refl
hook_again Forward = refl

family_again : (f : Family) → family_in (family_word f) ≡ f
unfolding family_in
family_again V4 = refl
family_again V6 = refl

abbrev pub section : Hook → Family → Option Bool → Section
section hook family accept = record { hook = hook; family = family; accept = accept; chains = [] }

pub target_read : (d : ChainsDraft) (h : Hook) (f : Family) → read d (target_row h f ∷ []) ≡ at (ended d) (section h f None) no_chain
unfolding take_words take_named take_few take_target
target_read d h f =
    ap (λ g. at (ended d) (section g (family_in (family_word f)) None) no_chain) (hook_again h)
    ∙ ap (λ g. at (ended d) (section h g None) no_chain) (family_again f)

policy_read : (ss : List Section) (h : Hook) (f : Family) (o : Option Bool)
    → read (at ss (section h f None) no_chain) (default_rows h o) ≡ at ss (section h f o) no_chain
unfolding default_rows take_words take_named take_few take_policy
policy_read ss h f None = refl
policy_read ss h f (Some true) = refl
policy_read ss h f (Some false) = refl

section_read : (d : ChainsDraft) (s : Section) → IsSection s → read d (section_rows s) ≡ at (ended d) s no_chain
unfolding section_rows head_rows
section_read d s h =
    let ss = ended d in
    let policy = default_rows s.hook s.accept in
    let chains = flat_map (chain_rows s.hook s.family) s.chains in
    let empty = at ss (section s.hook s.family s.accept) no_chain in
    then d empty (at ss s no_chain) (target_row s.hook s.family ∷ policy) chains
    (then d (at ss (section s.hook s.family None) no_chain) empty (target_row s.hook s.family ∷ []) policy
    (target_read d s.hook s.family) (policy_read ss s.hook s.family s.accept))
    (chains_read ss (section s.hook s.family s.accept) s.chains h.chains)

sections_read : (d : ChainsDraft) (doc : List Section) → AllByRecursion IsSection doc → ended (read d (flat_map section_rows doc)) ≡ ended d ++ doc
sections_read d [] h = sym (append-nil (ended d))
sections_read d (s ∷ doc) h =
    let rest = flat_map section_rows doc in
    let next = at (ended d) s no_chain in
    ap ended (then d next (read next rest) (section_rows s) rest (section_read d s h.0) refl)
    ∙ sections_read next doc h.1 ∙ append_assoc (ended d) (s ∷ []) doc

-- ---- documents

empty_row : (d : ChainsDraft) → take_row d (row_in []) ≡ d
unfolding row_in take_words take_named take_few
empty_row d = refl

pub document_again : (doc : List Section) → AllByRecursion IsSection doc → document_in take_row no_draft ended (text_of doc) ≡ doc
document_again doc h =
    let rows = flat_map section_rows doc in
    let end = read no_draft rows in
    ap ended (fold-again take_row no_draft end rows (sections_safe doc h) refl (empty_row end)) ∙ sections_read no_draft doc h
