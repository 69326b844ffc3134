-- A chain is taken where a text begins with one, and a text begins with one alone.
use Rattle.std.proofs.Common.{◌≡◌, ℕ, ◌<◌, false, List, [], ◌∷◌, ◌++◌, length, flat_map, codes, refl, ap, sym, ◌∙◌, append-nil, subst}
use Rattle.std.specs.List.{AllByRecursion}
use Rattle.acl_packet.specs.declared.addresses.Family.{Family}
use Rattle.acl_packet.specs.declared.filtering.Hook.{Hook}
use Rattle.acl_rows.specs.Rows.{Row, row, text_of_rows, words_in}
use Rattle.acl_rows.specs.RowSteps.{IsRow, begins_with}
use Rattle.ipt_lang.specs.declared.documents.Chain.{Chain}
use Rattle.ipt_lang.specs.declared.documents.Rule.{Rule}
use Rattle.ipt_lang.specs.declared.documents.Section.{Section}
use Rattle.ipt_lang.specs.Documents.{IsChain, IsRemark, IsRule}
use Rattle.ipt_lang.specs.ScanSteps.{IsAny, IsChainName, IsFront, Lacks, name_rows, policy_rows}
use Rattle.ipt_lang.specs.Texts.{chain_name, chain_row, chain_rows, default_rows, head_rows, remark_rows, rule_rows, section_rows, target_row, text_of}
use Rattle.ipt_lang.proofs.FirstRowLaws.{Once, front_once, item_first, no_row, other_row, parts_text, row_shorter}
use Rattle.ipt_lang.proofs.RowScanLaws.{head_safe, jump_once, jump_rows, name_once, no_policy, no_remark, no_rule, remark_once, remark_row_safe, rule_once, target_safe}

-- ---- the parts of a chain's text

abbrev pub ruled_text : Hook → Family → Chain → List ℕ → List ℕ
ruled_text hook f c more = text_of_rows (flat_map (rule_rows hook f c.name) c.rules) ++ (text_of_rows (jump_rows hook c.name) ++ more)

abbrev pub named_text : Hook → Family → Chain → List ℕ → List ℕ
named_text hook f c more = text_of_rows (name_rows hook c.name) ++ ruled_text hook f c more

pub chain_text : (hook : Hook) (f : Family) (c : Chain) (more : List ℕ)
    → text_of_rows (chain_rows hook f c) ++ more ≡ text_of_rows (flat_map remark_rows c.remarks) ++ named_text hook f c more
unfolding chain_rows
chain_text hook f c more =
    let remarks = flat_map remark_rows c.remarks in
    let rules = flat_map (rule_rows hook f c.name) c.rules in
    let jump = jump_rows hook c.name in
    parts_text remarks (name_rows hook c.name ++ (rules ++ jump)) more
    ∙ ap (λ t. text_of_rows remarks ++ t) (parts_text (name_rows hook c.name) (rules ++ jump) more
    ∙ ap (λ t. text_of_rows (name_rows hook c.name) ++ t) (parts_text rules jump more))

-- what is taken of a chain's text is the chain's, part by part
pub remarks_passed : (hook : Hook) (f : Family) (text : List ℕ) (remarks : List (List ℕ)) (rest : List ℕ) → IsFront IsRemark remark_rows text remarks rest
    → (c : Chain) (more : List ℕ) → IsChain f c → text ≡ text_of_rows (chain_rows hook f c) ++ more → (remarks ≡ c.remarks) × (rest ≡ named_text hook f c more)
remarks_passed hook f text remarks rest front c more h e =
    front_once IsRemark remark_rows remark_once remarks c.remarks rest (named_text hook f c more) front.valid h.remarks front.ended
    (no_remark hook c.name (ruled_text hook f c more) h.named) (sym front.written ∙ e ∙ chain_text hook f c more)

pub name_passed : (hook : Hook) (f : Family) (name rest : List ℕ) → IsChainName name → (c : Chain) (more : List ℕ) → IsChain f c
    → text_of_rows (name_rows hook name) ++ rest ≡ named_text hook f c more → (name ≡ c.name) × (rest ≡ ruled_text hook f c more)
name_passed hook f name rest n c more h e = name_once hook name c.name rest (ruled_text hook f c more) n h.named e

pub rules_passed : (hook : Hook) (f : Family) (name text : List ℕ) (rules : List Rule) (rest : List ℕ) → IsFront (IsRule f) (rule_rows hook f name) text rules rest
    → (c : Chain) (more : List ℕ) → IsChain f c → name ≡ c.name → text ≡ ruled_text hook f c more
    → (rules ≡ c.rules) × (rest ≡ text_of_rows (jump_rows hook c.name) ++ more)
rules_passed hook f name text rules rest front c more h same e =
    let own : IsFront (IsRule f) (rule_rows hook f c.name) text rules rest = subst (λ n. IsFront (IsRule f) (rule_rows hook f n) text rules rest) same front in
    front_once (IsRule f) (rule_rows hook f c.name) (rule_once hook f c.name h.named) rules c.rules rest (text_of_rows (jump_rows hook c.name) ++ more)
    own.valid h.rules own.ended (no_rule hook f c.name more h.named) (sym own.written ∙ e)

abbrev chain_of : List (List ℕ) → List ℕ → List Rule → Chain
chain_of remarks name rules = record { remarks = remarks; name = name; rules = rules }

pub chain_once : (hook : Hook) (f : Family) → Once (IsChain f) (chain_rows hook f)
chain_once hook f c d a b h k e =
    let text = text_of_rows (chain_rows hook f c) ++ a in
    let remarked : IsFront IsRemark remark_rows text c.remarks (named_text hook f c a) = record {
      valid = h.remarks;
      written = chain_text hook f c a;
      ended = no_remark hook c.name (ruled_text hook f c a) h.named;
    } in
    let ruled : IsFront (IsRule f) (rule_rows hook f c.name) (ruled_text hook f c a) c.rules (text_of_rows (jump_rows hook c.name) ++ a) = record {
      valid = h.rules;
      written = refl;
      ended = no_rule hook f c.name a h.named;
    } in
    let p = remarks_passed hook f text c.remarks (named_text hook f c a) remarked d b k e in
    let q = name_passed hook f c.name (ruled_text hook f c a) h.named d b k p.1 in
    let r = rules_passed hook f c.name (ruled_text hook f c a) c.rules (text_of_rows (jump_rows hook c.name) ++ a) ruled d b k q.0 q.1 in (
      ap (λ ts. chain_of ts c.name c.rules) p.0 ∙ ap (λ n. chain_of d.remarks n c.rules) q.0 ∙ ap (λ rs. chain_of d.remarks d.name rs) r.0,
      jump_once hook c.name d.name a b h.named k.named r.1,
    )

-- ---- what a chain begins with

-- the first of the rows is none of a section's head
pub record Starts (rows : List Row) : Type 0 where
  pub first : List (List ℕ)
  pub others : List Row
  pub is : rows ≡ row 0 first ∷ others
  pub safe : IsRow (row 0 first)
  pub no_target : begins_with (codes "##") first ≡ false
  pub no_policy : begins_with (codes "-P") first ≡ false

pub chain_starts : (hook : Hook) (f : Family) (c : Chain) → IsChain f c → Starts (chain_rows hook f c)
unfolding chain_rows remark_rows
chain_starts hook f c h = start c.remarks h.remarks (flat_map (rule_rows hook f c.name) c.rules ++ jump_rows hook c.name) where
  start : (remarks : List (List ℕ)) → AllByRecursion IsRemark remarks → (rows : List Row)
      → Starts (flat_map remark_rows remarks ++ (chain_row hook c.name ∷ rows))
  start [] k rows = record {
    first = codes "-N" ∷ chain_name hook c.name ∷ [];
    others = rows;
    is = refl;
    safe = head_safe hook c.name h.named;
    no_target = refl;
    no_policy = refl;
  }
  start (text ∷ remarks) k rows = record {
    first = codes "#" ∷ words_in text;
    others = flat_map remark_rows remarks ++ (chain_row hook c.name ∷ rows);
    is = refl;
    safe = remark_row_safe text k.0;
    no_target = refl;
    no_policy = refl;
  }

pub chain_shorter : (hook : Hook) (f : Family) (c : Chain) (text rest : List ℕ) → IsChain f c → text ≡ text_of_rows (chain_rows hook f c) ++ rest
    → length rest < length text
chain_shorter hook f c text rest h e =
    let s = chain_starts hook f c h in
    row_shorter (row 0 s.first) s.others text rest (e ∙ ap (λ rows. text_of_rows rows ++ rest) s.is)

-- ---- what stands behind the chains of a section

-- the text of a section is that of its first row, and what stands behind
abbrev pub behind_target : Section → List Row
behind_target s = default_rows s.hook s.accept ++ flat_map (chain_rows s.hook s.family) s.chains

pub section_first : (s : Section) → section_rows s ≡ target_row s.hook s.family ∷ behind_target s
unfolding section_rows head_rows
section_first s = refl

pub sections_first : (s : Section) (others : List Section)
    → text_of (s ∷ others) ≡ text_of_rows (target_row s.hook s.family ∷ behind_target s) ++ text_of others
sections_first s others =
    sym (append-nil (text_of (s ∷ others))) ∙ item_first section_rows s others [] ∙ ap (λ t. text_of_rows (section_rows s) ++ t) (append-nil (text_of others))
    ∙ ap (λ rows. text_of_rows rows ++ text_of others) (section_first s)

pub no_chain : (hook : Hook) (f : Family) (others : List Section) → Lacks (IsChain f) (chain_rows hook f) (text_of others)
no_chain hook f [] c more h e =
    let s = chain_starts hook f c h in
    no_row (row 0 s.first) s.others more (e ∙ ap (λ rows. text_of_rows rows ++ more) s.is)
no_chain hook f (o ∷ others) c more h e =
    let s = chain_starts hook f c h in
    other_row (begins_with (codes "##")) _ s.first (behind_target o) s.others (text_of others) more (target_safe o.hook o.family) s.safe refl s.no_target
    (sym (sections_first o others) ∙ e ∙ ap (λ rows. text_of_rows rows ++ more) s.is)

pub policy_ended : (hook : Hook) (f : Family) (chains : List Chain) (others : List Section) → AllByRecursion (IsChain f) chains
    → Lacks IsAny (policy_rows hook) (text_of_rows (flat_map (chain_rows hook f) chains) ++ text_of others)
unfolding default_rows
policy_ended hook f [] [] h accept more k e = no_row _ [] more e
policy_ended hook f [] (o ∷ others) h accept more k e =
    no_policy hook _ (behind_target o) (text_of others) (target_safe o.hook o.family) refl accept more k (sym (sections_first o others) ∙ e)
policy_ended hook f (c ∷ chains) others h accept more k e =
    let s = chain_starts hook f c h.0 in
    let rest = text_of_rows (flat_map (chain_rows hook f) chains) ++ text_of others in
    no_policy hook s.first s.others rest s.safe s.no_policy accept more k
    (sym (item_first (chain_rows hook f) c chains (text_of others) ∙ ap (λ rows. text_of_rows rows ++ rest) s.is) ∙ e)
