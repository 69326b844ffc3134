-- The section of a Cisco document that a filter becomes, and how many entries it has. The form of
-- a section is aclgen's own; what its lines mean is said by the language.
use Rattle.std.specs.Prelude.{ℕ, Bool, true, false, if◌then◌else◌, List, [], ◌∷◌, ◌++◌, map, flat_map, count_by, Option, None, Some}
use Rattle.acl_packet.specs.declared.addresses.Family.{Family}
use Rattle.acl_packet.specs.declared.addresses.Family.TheVariants.{V4, V6}
use Rattle.acl_packet.specs.declared.filtering.Verdict.{Verdict}
use Rattle.acl_packet.specs.declared.filtering.Verdict.TheVariants.{Accept}
use Rattle.acl_packet.specs.Addresses.{same_family, everywhere}
use Rattle.acl_platform.specs.declared.combinations.Combination.{Combination}
use Rattle.acl_platform.specs.declared.filters.Filter.{Filter}
use Rattle.acl_platform.specs.declared.rules.Rule.{Rule}
use Rattle.acl_platform.specs.declared.rules.Test.{Test}
use Rattle.acl_platform.specs.declared.rules.Test.TheVariants.{Plain, AckOrRst, SynNotAck, Rst, State}
use Rattle.acl_platform.specs.Combinations.{combinations}
use Rattle.acl_platform.specs.Remarks.{remarks}
use Rattle.cisco_lang.specs.declared.documents.Section.{Section}
use Rattle.cisco_lang.specs.declared.documents.AccessList.{AccessList}
use Rattle.cisco_lang.specs.declared.documents.Item.{Item}
use Rattle.cisco_lang.specs.declared.documents.Item.TheVariants.{Remark, Entry as AnEntry}
use Rattle.cisco_lang.specs.declared.documents.Entry.{Entry}
use Rattle.cisco_lang.specs.declared.documents.Flags.{Flags}
use Rattle.cisco_lang.specs.declared.documents.Flags.TheVariants as flags
use Rattle.cisco_lang.specs.Documents.{heads_of}
use Rattle.cisco_lang.specs.Walks.{is_entry}

-- The flags of an entry. A router follows no connection, so that no rule for it asks for one.
abbrev pub flags_of : Test → Option Flags
flags_of Plain = None
flags_of AckOrRst = Some flags.Established
flags_of SynNotAck = Some flags.SynNotAck
flags_of Rst = Some flags.Rst
flags_of State = None

abbrev pub permits : Verdict → Bool
permits Accept = true
permits verdict = false

-- The entry of a combination of a rule's parts.
abbrev pub entry_of : Rule → Combination → Entry
entry_of r c = record {
  permit = permits r.verdict;
  proto = c.proto;
  src = c.src;
  sport = c.sport;
  dst = c.dst;
  dport = c.dport;
  itype = c.itype;
  icode = c.icode;
  flags = flags_of r.test;
  log = r.log;
}

-- A rule is its remarks, and behind them an entry for each combination.
abbrev pub rule_items : Rule → List Item
rule_items r = map (λ text. Remark text) (remarks r)
    ++ map (λ c. AnEntry (entry_of r c)) (combinations r)

-- An entry for a protocol or all of them, and a type or all of them, each with all its codes, from
-- everywhere to everywhere.
abbrev pub wide_entry : Family → Bool → Option ℕ → Option ℕ → Entry
wide_entry family permit proto itype = record {
  permit = permit;
  proto = proto;
  src = everywhere family;
  sport = None;
  dst = everywhere family;
  dport = None;
  itype = itype;
  icode = None;
  flags = None;
  log = false;
}

-- What the end of a list does, as entries: all is denied, in IPv6 behind neighbour advertisements,
-- 136, and solicitations, 135 (RFC 4861 section 4), which are permitted.
abbrev pub closing_entries : Family → List Entry
closing_entries V4 = wide_entry V4 false None None ∷ []
closing_entries V6 = wide_entry V6 true (Some 58) (Some 136)
    ∷ wide_entry V6 true (Some 58) (Some 135) ∷ wide_entry V6 false None None ∷ []

-- A list without an entry would accept all packets, so one without a rule has the closing entries.
abbrev pub closed : Family → List Item → List Item
closed family [] = map (λ e. AnEntry e) (closing_entries family)
closed family (item ∷ items) = item ∷ items

-- What a rule gives a list of the family.
abbrev pub items_in : Family → Rule → List Item
items_in family r = if same_family r.family family then rule_items r else []

abbrev pub list_items : Family → List Rule → List Item
list_items family rules = closed family (flat_map (items_in family) rules)

-- The list of a family and a name.
abbrev pub list_of : List Rule → Family × List ℕ → AccessList
list_of rules head =
    record { family = head.0; name = head.1; items = list_items head.0 rules }

-- The section has a list for each of the filter's families.
abbrev pub section_of : Filter → Section
section_of f = record {
  name = f.name;
  families = f.families;
  lists = map (list_of f.rules) (heads_of f.families f.name);
}

-- The number of entries of all its lists, closing ones included.
abbrev pub entry_count : Filter → ℕ
entry_count f = count_by is_entry (flat_map (λ l. l.items) (section_of f).lists)
