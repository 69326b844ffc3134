-- The text of a document for iptables-restore.
-- Sources: iptables-restore(8) (`--noflush`: what stands in the table stays) and iptables-save(8), whose
-- form is read: `*TABLE` begins a table, `:CHAIN POLICY [PACKETS:BYTES]` declares a chain, one of the
-- user where the policy is `-`, the line of a rule is the arguments of one call of iptables, `COMMIT`
-- ends the table, and a line that begins with `#` is a comment.
use Rattle.std.specs.Prelude.{◌≡◌, ℕ, Bool, List, [], ◌∷◌, ◌++◌, flat_map, codes, Option, None, Some}
use Rattle.acl_packet.specs.declared.addresses.Family.{Family}
use Rattle.acl_packet.specs.declared.filtering.Hook.{Hook}
use Rattle.acl_rows.specs.Documents.{IsSpelling}
use Rattle.acl_rows.specs.Rows.{Row, row, text_of_rows}
use Rattle.ipt_lang.specs.declared.documents.Section.{Section}
use Rattle.ipt_lang.specs.declared.documents.Chain.{Chain}
use Rattle.ipt_lang.specs.Documents.{hook_word}
use Rattle.ipt_lang.specs.Texts.{chain_name, default_word, jump_row, remark_rows, rule_rows, target_row}
use Rattle.ipt_lang.specs.Texts as arguments
use Rattle.ipr_lang.specs.Documents.{IsDocument}

-- ---- declarations

-- The declaration of a chain: its name, its policy, and counters that begin at nothing.
abbrev pub declaration_row : List ℕ → List ℕ → Row
declaration_row name policy = row 0 ((codes ":" ++ name) ∷ policy ∷ codes "[0:0]" ∷ [])

-- The hook's own chain has the policy.
unfoldable pub policy_rows : Hook → Option Bool → List Row
policy_rows hook None = []
policy_rows hook (Some accept) = declaration_row (hook_word hook) (default_word accept) ∷ []

-- A chain of the user has none.
abbrev pub declared_rows : Hook → List ℕ → List Row
declared_rows hook name = declaration_row (chain_name hook name) (codes "-") ∷ []

-- ---- chains and sections

abbrev pub table_row : Row
table_row = row 0 (codes "*filter" ∷ [])

abbrev pub commit_row : Row
commit_row = row 0 (codes "COMMIT" ∷ [])

-- A section begins with a comment that names its target, with the table, and with the policy.
unfoldable pub head_rows : Hook → Family → Option Bool → List Row
head_rows hook family accept = target_row hook family ∷ table_row ∷ policy_rows hook accept

-- The remarks of a chain, its rules, and the jump to it.
unfoldable pub chain_rows : Hook → Family → Chain → List Row
chain_rows hook family c = flat_map remark_rows c.remarks
    ++ (flat_map (rule_rows hook family c.name) c.rules ++ jump_row hook c.name ∷ [])

-- All chains are declared before the first rule.
unfoldable pub section_rows : Section → List Row
section_rows s = head_rows s.hook s.family s.accept
    ++ (flat_map (λ c. declared_rows s.hook c.name) s.chains
    ++ (flat_map (chain_rows s.hook s.family) s.chains ++ commit_row ∷ []))

-- The text of a document is its sections, one behind another.
abbrev pub text_of : List Section → List ℕ
text_of doc = text_of_rows (flat_map section_rows doc)

-- The bytes spell the document: it is valid, and they are its text.
abbrev pub Spells : List ℕ → List Section → Type 0
Spells bytes doc = IsSpelling IsDocument text_of bytes doc

-- ---- laws

-- A text has at most one document.
abbrev pub OneDocument : Type 0
OneDocument = (bytes : List ℕ) (a b : List Section) → Spells bytes a → Spells bytes b → a ≡ b

-- A document that is written for iptables-restore has a text there, and one of iptables arguments.
abbrev pub BothTexts : Type 0
BothTexts = (doc : List Section) → IsDocument doc
    → Spells (text_of doc) doc × arguments.Spells (arguments.text_of doc) doc
