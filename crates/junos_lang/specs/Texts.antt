-- The text of a document of Junos firewall filters.
-- Source: Juniper, Routing Policies, Firewall Filters, and Traffic Policers User Guide, "Guidelines
-- for Configuring Firewall Filters", "Firewall Filter Match Conditions for IPv4 Traffic" and "for IPv6
-- Traffic", "Firewall Filter Terminating Actions" and "Firewall Filter Nonterminating Actions";
-- Junos CLI User Guide, "load" (what `replace:` means) and "Add Comments in a Device Configuration".
use Rattle.std.specs.Prelude.{ℕ, Bool, true, false, List, [], ◌∷◌, ◌++◌, map, flat_map, codes, Option, None, Some}
use Rattle.std.specs.Fmt.{decimal}
use Rattle.acl_packet.specs.declared.addresses.Family.{Family}
use Rattle.acl_packet.specs.declared.addresses.Family.TheVariants.{V4, V6}
use Rattle.acl_packet.specs.declared.addresses.Prefix.{Prefix}
use Rattle.acl_packet.specs.declared.filtering.Verdict.{Verdict}
use Rattle.acl_packet.specs.declared.filtering.Verdict.TheVariants.{Accept, Deny, Reject, Reset, Left}
use Rattle.acl_text.specs.AddressTexts.{prefix_text}
use Rattle.acl_rows.specs.Documents.{IsSpelling}
use Rattle.acl_rows.specs.PortRanges.{range_text}
use Rattle.acl_rows.specs.Rows.{Row, row, words_in, text_of_rows}
use Rattle.junos_lang.specs.declared.documents.Section.{Section}
use Rattle.junos_lang.specs.declared.documents.JTerm.{JTerm}
use Rattle.junos_lang.specs.declared.documents.JTest.{JTest}
use Rattle.junos_lang.specs.declared.documents.JTest.TheVariants.{Established, Initial, Rst}
use Rattle.acl_rows.specs.declared.rule_parts.End.{End}
use Rattle.acl_rows.specs.declared.rule_parts.End.TheVariants.{Source, Destination}
use Rattle.junos_lang.specs.declared.conditions.Condition.{Condition}
use Rattle.junos_lang.specs.declared.conditions.Condition.TheVariants.{Protocol, NextHeader, SourcePort, DestinationPort, IcmpType, IcmpCode}
use Rattle.junos_lang.specs.Documents.{family_word, IsDocument}

-- The row that ends a block.
abbrev pub closing : ℕ → Row
closing indent = row indent (codes "}" ∷ [])

-- ---- the conditions of a term

-- Addresses stand in a block, a prefix each row; no addresses are no condition.
abbrev pub end_word : End → List ℕ
end_word Source = codes "source-address"
end_word Destination = codes "destination-address"

abbrev pub prefix_row : Prefix → Row
prefix_row p = row 24 ((prefix_text p ++ codes ";") ∷ [])

unfoldable pub address_rows : End → List Prefix → List Row
address_rows end [] = []
address_rows end (p ∷ prefixes) =
    row 20 (end_word end ∷ codes "{" ∷ []) ∷ (map prefix_row (p ∷ prefixes) ++ closing 20 ∷ [])

-- Other values stand in one row; no values are no condition.
abbrev pub condition_word : Condition → List ℕ
condition_word Protocol = codes "protocol"
condition_word NextHeader = codes "next-header"
condition_word SourcePort = codes "source-port"
condition_word DestinationPort = codes "destination-port"
condition_word IcmpType = codes "icmp-type"
condition_word IcmpCode = codes "icmp-code"

-- IPv6 names the protocol by the header that comes next.
abbrev pub protocol_of : Family → Condition
protocol_of V4 = Protocol
protocol_of V6 = NextHeader

unfoldable pub list_row : Condition → List (List ℕ) → Row
list_row condition values =
    row 20 (condition_word condition ∷ codes "[" ∷ (values ++ codes "];" ∷ []))

unfoldable pub list_rows : Condition → List (List ℕ) → List Row
list_rows condition [] = []
list_rows condition (v ∷ values) = list_row condition (v ∷ values) ∷ []

-- A `-` stands between the low port and the high one.
abbrev pub range_word : ℕ × ℕ → List ℕ
range_word ports = range_text 45 ports

abbrev pub test_words : JTest → List (List ℕ)
test_words Established = codes "tcp-established;" ∷ []
test_words Initial = codes "tcp-initial;" ∷ []
test_words Rst = codes "tcp-flags" ∷ codes "\"rst\";" ∷ []

unfoldable pub test_rows : Option JTest → List Row
test_rows None = []
test_rows (Some test) = row 20 (test_words test) ∷ []

unfoldable pub condition_rows : Family → JTerm → List Row
condition_rows family t = address_rows Source t.src ++ (address_rows Destination t.dst
    ++ (list_rows (protocol_of family) (map decimal t.protos)
    ++ (list_rows SourcePort (map range_word t.sports)
    ++ (list_rows DestinationPort (map range_word t.dports)
    ++ (list_rows IcmpType (map decimal t.itypes)
    ++ (list_rows IcmpCode (map decimal t.icodes) ++ test_rows t.test))))))

-- Conditions stand in a `from` part, which is only there where there is one.
unfoldable pub from_rows : List Row → List Row
from_rows [] = []
from_rows (r ∷ rows) =
    row 16 (codes "from" ∷ codes "{" ∷ []) ∷ ((r ∷ rows) ++ closing 16 ∷ [])

-- ---- what a term does

-- A denial is `discard`. `Left` has no words of its own, and no valid term has it.
abbrev pub verdict_words : Verdict → List (List ℕ)
verdict_words Accept = codes "accept;" ∷ []
verdict_words Deny = codes "discard;" ∷ []
verdict_words Reject = codes "reject;" ∷ []
verdict_words Reset = codes "reject" ∷ codes "tcp-reset;" ∷ []
verdict_words Left = codes "discard;" ∷ []

abbrev pub syslog_rows : Bool → List Row
syslog_rows true = row 20 (codes "syslog;" ∷ []) ∷ []
syslog_rows false = []

unfoldable pub then_rows : Bool → Verdict → List Row
then_rows syslog verdict = row 16 (codes "then" ∷ codes "{" ∷ [])
    ∷ (syslog_rows syslog ++ row 20 (verdict_words verdict) ∷ closing 16 ∷ [])

-- ---- terms and sections

-- A comment with a free text.
unfoldable pub note_row : List ℕ → Row
note_row text = row 12 (codes "/*" ∷ (words_in text ++ codes "*/" ∷ []))

abbrev pub note_rows : Option (List ℕ) → List Row
note_rows None = []
note_rows (Some text) = note_row text ∷ []

abbrev pub term_row : List ℕ → Row
term_row name = row 12 (codes "term" ∷ name ∷ codes "{" ∷ [])

unfoldable pub term_rows : Family → JTerm → List Row
term_rows family t = note_rows t.note ++ (term_row t.name
    ∷ (from_rows (condition_rows family t) ++ (then_rows t.syslog t.verdict ++ closing 12 ∷ [])))

-- A section begins with a comment that names its target. The filter takes the place of an older one
-- of its name.
unfoldable pub head_rows : List ℕ → List ℕ → List Row
head_rows family name =
    row 0 (codes "/*" ∷ codes "juniper" ∷ name ∷ family ∷ codes "*/" ∷ [])
    ∷ row 0 (codes "firewall" ∷ codes "{" ∷ [])
    ∷ row 4 (codes "family" ∷ family ∷ codes "{" ∷ [])
    ∷ row 8 (codes "replace:" ∷ codes "filter" ∷ name ∷ codes "{" ∷ []) ∷ []

abbrev pub end_rows : List Row
end_rows = closing 8 ∷ closing 4 ∷ closing 0 ∷ []

unfoldable pub section_rows : Section → List Row
section_rows s = head_rows (family_word s.family) s.name
    ++ (flat_map (term_rows s.family) s.terms ++ end_rows)

-- The text of a document is its sections, one behind another.
abbrev pub text_of : List Section → List ℕ
text_of doc = text_of_rows (flat_map section_rows doc)

-- The bytes spell the document: it is valid, and they are its text.
abbrev pub Spells : List ℕ → List Section → Type 0
Spells bytes doc = IsSpelling IsDocument text_of bytes doc
