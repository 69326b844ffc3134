-- The head of a section, and the rows of a chain's rules part by part.
use Rattle.std.specs.Prelude.{List, flat_map}
use Rattle.acl_packet.specs.declared.addresses.Family.{Family}
use Rattle.acl_packet.specs.declared.filtering.Hook.{Hook}
use Rattle.acl_rows.specs.Rows.{Row}
use Rattle.acl_sets.specs.declared.sets.Range.{Range}
use Rattle.acl_platform.specs.declared.filters.Filter.{Filter}
use Rattle.acl_platform.specs.declared.rules.Rule.{Rule}
use Rattle.ipt_lang.specs.declared.chain_rows.SectionHead.{SectionHead}
use Rattle.ipt_lang.specs.Texts.{rule_rows}
use Rattle.gen_iptables.specs.Groups.{group_choices}
use Rattle.acl_packet.specs.Addresses.{first_family}
use Rattle.gen_iptables.specs.Sections.{Back, backs, Front, ChainParts, policy_of, rules_for}

abbrev pub head_of : Filter → SectionHead
head_of f = record {
  hook = f.hook;
  family = first_family f.families;
  accept = policy_of f.ending;
}

-- The rows of one combination.
abbrev pub combination_rows : Hook → Family → Rule → ChainParts → List Row
combination_rows hook family r c = flat_map (rule_rows hook family r.name) (rules_for r c)

-- The rows of all combinations that begin with the parts that are given.
abbrev pub rows_behind_ports : Hook → Family → Rule → Front → List Range → List Range → List Row
rows_behind_ports hook family r front sports dports =
    flat_map (λ (back : Back). combination_rows hook family r (front, (sports, (dports, back))))
    (backs r)

abbrev pub rows_behind_sources : Hook → Family → Rule → Front → List Range → List Row
rows_behind_sources hook family r front sports =
    flat_map (rows_behind_ports hook family r front sports) (group_choices r.dports)

abbrev pub rows_behind_front : Hook → Family → Rule → Front → List Row
rows_behind_front hook family r front =
    flat_map (rows_behind_sources hook family r front) (group_choices r.sports)
