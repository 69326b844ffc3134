-- What the sections of filters begin with, and how their tables are named, by the filters' targets.
use Rattle.std.specs.Prelude.{◌≡◌, ◌≢◌, ◌≤◌, Bool, List, [], ◌∷◌, ◌++◌, map, flat_map, codes, AllPairs}
use Rattle.std.specs.List.{AllByRecursion, IsDistinct}
use Rattle.std.specs.Str.{bytes_eq}
use Rattle.acl_rows.specs.Rows.{Row, text_of_rows}
use Rattle.acl_target.specs.declared.targets.Kind.TheVariants.{Nftables}
use Rattle.acl_target.specs.TargetData.{IsTarget}
use Rattle.acl_target.specs.TargetTexts.{target_text}
use Rattle.acl_platform.specs.declared.filters.Filter.{Filter}
use Rattle.acl_platform.specs.SoundFilters.{target_of}
use Rattle.nft_lang.specs.declared.documents.Section.{Section}
use Rattle.nft_lang.specs.Documents.{table_names}
use Rattle.nft_lang.specs.Texts.{chain_rows, end_rows, item_rows, start_row, table_row, text_of}
use Rattle.gen_nftables.specs.Sections.{section_of}

-- Behind the first line of a section the table is added and deleted, and then made.
abbrev pub table_body : Section → List Row
table_body s = table_row (codes "add") s.families s.number
    ∷ table_row (codes "delete") s.families s.number ∷ start_row s.families s.number
    ∷ (chain_rows s.hook s.priority s.accept ++ (flat_map (item_rows s.families) s.items ++ end_rows))

-- A section is a line of `## ` and its target's text, and behind it the lines of its table.
abbrev pub FirstLine : Type 0
FirstLine = (f : Filter) (stateful : Bool) → f.kind ≡ Nftables → IsTarget (target_of stateful f)
    → text_of (section_of f ∷ []) ≡ (codes "## " ++ target_text (target_of stateful f))
    ++ 10 ∷ text_of_rows (table_body (section_of f))

-- Where the targets of nftables have different numbers, as those of a policy do, no two sections
-- have a table of one name.
abbrev pub TablesDiffer : Type 0
TablesDiffer = (filters : List Filter) (stateful : Bool)
    → AllByRecursion (λ f. (f.kind ≡ Nftables) × (f.number ≤ 64)) filters
    → AllPairs (λ a b. a.kind ≡ b.kind → a.number ≢ b.number) (map (target_of stateful) filters)
    → IsDistinct bytes_eq (flat_map table_names (map section_of filters))
