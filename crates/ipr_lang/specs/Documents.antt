-- Documents that are written for iptables-restore, and which of them are valid.
-- Sources: iptables-restore(8); iptables(8), "COMMANDS" (`-P`): each built-in chain of a table has a
-- policy, and the line that declares one says it.
use Rattle.std.specs.Prelude.{◌≡◌, true, List, is_some}
use Rattle.acl_rows.specs.Documents.{IsDocumentOf}
use Rattle.ipt_lang.specs.declared.documents.Section.{Section}
use Rattle.ipt_lang.specs.Documents.{hook_names}
use Rattle.ipt_lang.specs.Documents as arguments

-- A section is one of iptables arguments, and says a policy.
pub record IsSection (s : Section) : Type 0 where
  pub valid : arguments.IsSection s
  pub policy : is_some s.accept ≡ true

-- A document is its sections, no two of which have the same hook and family.
abbrev pub IsDocument : List Section → Type 0
IsDocument doc = IsDocumentOf IsSection hook_names doc
