-- The list of a number that a filter becomes, and how many entries it has. The form of a section is
-- aclgen's own; what its lines mean is said by the language.
use Rattle.std.specs.Prelude.{ℕ, ◌+◌, ◌-◌, Bool, true, false, List, [], ◌∷◌, ◌++◌, map, flat_map, count_by}
use Rattle.acl_packet.specs.declared.addresses.Family.TheVariants.{V4}
use Rattle.acl_packet.specs.declared.addresses.Prefix.{Prefix}
use Rattle.acl_packet.specs.declared.filtering.Verdict.{Verdict}
use Rattle.acl_packet.specs.declared.filtering.Verdict.TheVariants.{Accept}
use Rattle.acl_packet.specs.Addresses.{everywhere}
use Rattle.acl_platform.specs.declared.filters.Filter.{Filter}
use Rattle.acl_platform.specs.declared.rules.Rule.{Rule}
use Rattle.acl_platform.specs.Remarks.{remarks}
use Rattle.std_lang.specs.declared.documents.Section.{Section}
use Rattle.std_lang.specs.declared.documents.Item.{Item}
use Rattle.std_lang.specs.declared.documents.Item.TheVariants.{Remark, Entry as AnEntry}
use Rattle.std_lang.specs.declared.documents.Entry.{Entry}
use Rattle.std_lang.specs.Walks.{is_entry}

abbrev pub permits : Verdict → Bool
permits Accept = true
permits verdict = false

-- The entry of a source of a rule.
abbrev pub entry_of : Rule → Prefix → Entry
entry_of r source = record { permit = permits r.verdict; src = source; log = r.log }

-- A rule is its remarks, and behind them an entry for each source.
abbrev pub rule_items : Rule → List Item
rule_items r = map (λ text. Remark text) (remarks r) ++ map (λ source. AnEntry (entry_of r source)) r.src

-- `deny any`, which is not logged.
abbrev pub denial : Entry
denial = record { permit = false; src = everywhere V4; log = false }

-- The list of a filter. One without an entry would accept all packets, so that of a filter without a
-- rule denies them.
abbrev pub list_items : List Rule → List Item
list_items [] = AnEntry denial ∷ []
list_items (r ∷ rules) = flat_map rule_items (r ∷ rules)

-- The first filter of a policy for Cisco, which has the number 1, has the first list, and so on.
abbrev pub list_number : ℕ → Filter → ℕ
list_number first f = first + f.number - 1

abbrev pub section_of : ℕ → Filter → Section
section_of first f = record { number = list_number first f; items = list_items f.rules }

-- The number of entries.
abbrev pub entry_count : Filter → ℕ
entry_count f = count_by is_entry (list_items f.rules)
