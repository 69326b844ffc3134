-- The entries of a section are the rows of its text that begin with `-A`: such a row appends a rule (iptables(8),
-- "COMMANDS"), one of a chain's own, or the jump to the chain.
use Rattle.std.specs.Prelude.{◌≡◌, ℕ, Bool, false, List, [], ◌∷◌, codes}
use Rattle.std.specs.List.{count_by}
use Rattle.std.specs.Str.{bytes_eq}
use Rattle.acl_rows.specs.Rows.{Row}
use Rattle.acl_platform.specs.declared.filters.Filter.{Filter}
use Rattle.ipt_lang.specs.Texts.{section_rows}
use Rattle.gen_iptables.specs.Sections.{entry_count, section_of}

-- The first of the words is this one.
abbrev pub begin_with : List ℕ → List (List ℕ) → Bool
begin_with word [] = false
begin_with word (first ∷ more) = bytes_eq first word

abbrev pub is_append : Row → Bool
is_append r = begin_with (codes "-A") r.words

abbrev pub CountIsOfAppends : Type 0
CountIsOfAppends = (f : Filter) → entry_count f ≡ count_by is_append (section_rows (section_of f))
