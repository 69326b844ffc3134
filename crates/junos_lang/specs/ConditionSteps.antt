-- The conditions of a term, whose values are given as words.
use Rattle.std.specs.Prelude.{ℕ, List, ◌++◌, Option}
use Rattle.acl_packet.specs.declared.addresses.Family.{Family}
use Rattle.acl_packet.specs.declared.addresses.Prefix.{Prefix}
use Rattle.acl_rows.specs.Rows.{Row}
use Rattle.junos_lang.specs.declared.conditions.Condition.TheVariants.{SourcePort, DestinationPort, IcmpType, IcmpCode}
use Rattle.acl_rows.specs.declared.rule_parts.End.TheVariants.{Source, Destination}
use Rattle.junos_lang.specs.declared.documents.JTest.{JTest}
use Rattle.junos_lang.specs.Texts.{address_rows, list_rows, protocol_of, test_rows}

-- those behind the ones on addresses and protocols
abbrev pub last_rows : List (List ℕ) → List (List ℕ) → List (List ℕ) → List (List ℕ) → Option JTest → List Row
last_rows sports dports itypes icodes test =
    list_rows SourcePort sports ++ (list_rows DestinationPort dports
    ++ (list_rows IcmpType itypes ++ (list_rows IcmpCode icodes ++ test_rows test)))

abbrev pub value_rows : Family → List Prefix → List Prefix → List (List ℕ) → List (List ℕ)
    → List (List ℕ) → List (List ℕ) → List (List ℕ) → Option JTest → List Row
value_rows family src dst protos sports dports itypes icodes test =
    address_rows Source src ++ (address_rows Destination dst
    ++ (list_rows (protocol_of family) protos ++ last_rows sports dports itypes icodes test))
