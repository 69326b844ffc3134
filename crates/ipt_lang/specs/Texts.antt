-- The text of a document of iptables rules.
-- Sources: iptables(8), "COMMANDS" (`-P`, `-N`, `-A`) and "PARAMETERS" (`-p`, `-s`, `-d`, `-j`);
-- iptables-extensions(8), "tcp", "udp", "sctp", "multiport", "icmp", "icmp6", "state", "REJECT" and
-- "LOG". Which form of ports is written, and the comment lines, are this project's own.
use Rattle.std.specs.Prelude.{ℕ, Bool, true, false, ◌&&◌, ◌==◌, if◌then◌else◌, List, [], ◌∷◌, ◌++◌, map, flat_map, codes, Option, None, Some}
use Rattle.std.specs.Fmt.{decimal}
use Rattle.std.specs.List.{join_with_byte}
use Rattle.acl_packet.specs.declared.addresses.Family.{Family}
use Rattle.acl_packet.specs.declared.addresses.Family.TheVariants.{V4, V6}
use Rattle.acl_packet.specs.declared.addresses.Prefix.{Prefix}
use Rattle.acl_packet.specs.declared.filtering.Hook.{Hook}
use Rattle.acl_packet.specs.declared.filtering.Hook.TheVariants.{Input, Output, Forward}
use Rattle.acl_packet.specs.declared.filtering.Verdict.TheVariants.{Accept, Deny, Reject, Reset, Left}
use Rattle.acl_packet.specs.Packets.{icmp_of}
use Rattle.acl_text.specs.AddressTexts.{prefix_text}
use Rattle.acl_rows.specs.Documents.{IsSpelling}
use Rattle.acl_rows.specs.PortRanges.{range_text}
use Rattle.acl_rows.specs.Rows.{Row, row, words_in, text_of_rows}
use Rattle.ipt_lang.specs.declared.documents.Section.{Section}
use Rattle.ipt_lang.specs.declared.documents.Chain.{Chain}
use Rattle.ipt_lang.specs.declared.documents.Rule.{Rule}
use Rattle.ipt_lang.specs.declared.documents.Act.{Act}
use Rattle.ipt_lang.specs.declared.documents.Act.TheVariants.{Log, Decide}
use Rattle.ipt_lang.specs.declared.documents.Flags.{Flags}
use Rattle.ipt_lang.specs.declared.documents.Flags.TheVariants.{Ack, Rst, SynNotAck}
use Rattle.ipt_lang.specs.Documents.{hook_word, family_word, IsDocument}

-- ---- protocol and addresses

-- ICMP has its word in its own family alone, where other protocols are numbers.
abbrev pub icmp_word : Family → List ℕ
icmp_word V4 = codes "icmp"
icmp_word V6 = codes "icmpv6"

unfoldable pub proto_word : Family → ℕ → List ℕ
proto_word family n =
    if n == 6 then codes "tcp"
    else if n == 17 then codes "udp"
    else if n == 132 then codes "sctp"
    else if n == icmp_of family then icmp_word family
    else decimal n

unfoldable pub proto_words : Family → Option ℕ → List (List ℕ)
proto_words family None = []
proto_words family (Some n) = codes "-p" ∷ proto_word family n ∷ []

unfoldable pub address_words : List ℕ → Option Prefix → List (List ℕ)
address_words key None = []
address_words key (Some p) = key ∷ prefix_text p ∷ []

-- ---- ports

-- A `:` stands between the low port and the high one.
abbrev pub range_word : ℕ × ℕ → List ℕ
range_word ports = range_text 58 ports

-- The list has no two elements.
abbrev pub is_single : {A : Type 0} → List A → Bool
is_single [] = true
is_single (x ∷ []) = true
is_single (x ∷ y ∷ xs) = false

-- The ranges of a list stand in one word, with commas between. In the plain form the word stands
-- behind `--sport` or `--dport`, else behind a key of multiport. No ports are not written.
unfoldable pub key_words : Bool → List ℕ → List ℕ → List (List ℕ)
key_words true key keys = key ∷ []
key_words false key keys = codes "-m" ∷ codes "multiport" ∷ keys ∷ []

unfoldable pub port_list_words : Bool → List ℕ → List ℕ → List (List ℕ) → List (List ℕ)
port_list_words plain key keys [] = []
port_list_words plain key keys (w ∷ words) =
    key_words plain key keys ++ join_with_byte 44 (w ∷ words) ∷ []

-- The plain form is that of a rule neither of whose lists has two ranges or more, so that the two
-- forms never stand in one rule.
unfoldable pub ports_words : List (List ℕ) → List (List ℕ) → List (List ℕ)
ports_words sports dports =
    port_list_words (is_single sports && is_single dports) (codes "--sport") (codes "--sports") sports
    ++ port_list_words (is_single sports && is_single dports) (codes "--dport") (codes "--dports")
    dports

-- ---- type and code, flags, state and act

abbrev pub type_key : Family → List ℕ
type_key V4 = codes "--icmp-type"
type_key V6 = codes "--icmpv6-type"

-- A type alone, or with a `/` between it and its code.
unfoldable pub type_word : ℕ → Option ℕ → List ℕ
type_word n None = decimal n
type_word n (Some code) = decimal n ++ 47 ∷ decimal code

unfoldable pub type_words : Family → Option ℕ → Option ℕ → List (List ℕ)
type_words family None icode = []
type_words family (Some n) icode = type_key family ∷ type_word n icode ∷ []

-- The flags that are looked at, and those of them that are set.
abbrev pub mask_word : Flags → List ℕ
mask_word Ack = codes "ACK"
mask_word Rst = codes "RST"
mask_word SynNotAck = codes "SYN,ACK"

abbrev pub set_word : Flags → List ℕ
set_word Ack = codes "ACK"
set_word Rst = codes "RST"
set_word SynNotAck = codes "SYN"

unfoldable pub flags_words : Option Flags → List (List ℕ)
flags_words None = []
flags_words (Some flags) = codes "--tcp-flags" ∷ mask_word flags ∷ set_word flags ∷ []

unfoldable pub state_words : Bool → List (List ℕ)
state_words true =
    codes "-m" ∷ codes "state" ∷ codes "--state" ∷ codes "ESTABLISHED,RELATED" ∷ []
state_words false = []

-- No rule that is valid leaves a packet undecided.
abbrev pub target_word : Act → List ℕ
target_word Log = codes "LOG"
target_word (Decide Accept) = codes "ACCEPT"
target_word (Decide Deny) = codes "DROP"
target_word (Decide Reject) = codes "REJECT"
target_word (Decide Reset) = codes "REJECT"
target_word (Decide Left) = codes "DROP"

abbrev pub is_reset : Act → Bool
is_reset (Decide Reset) = true
is_reset act = false

unfoldable pub reset_words : Bool → List (List ℕ)
reset_words true = codes "--reject-with" ∷ codes "tcp-reset" ∷ []
reset_words false = []

unfoldable pub act_words : Act → List (List ℕ)
act_words act = codes "-j" ∷ target_word act ∷ reset_words (is_reset act)

-- ---- rules

-- What stands before a rule's ports, and what behind.
unfoldable pub front_words : Family → Option ℕ → Option Prefix → Option Prefix → List (List ℕ)
front_words family proto src dst =
    proto_words family proto ++ (address_words (codes "-s") src ++ address_words (codes "-d") dst)

unfoldable pub back_words : Family → Option ℕ → Option ℕ → Option Flags → Bool → Act → List (List ℕ)
back_words family itype icode flags state act =
    type_words family itype icode ++ (flags_words flags ++ (state_words state ++ act_words act))

-- The words of a rule, behind the name of its chain.
unfoldable pub rule_words : Family → Rule → List (List ℕ)
rule_words family r = front_words family r.proto r.src r.dst
    ++ (ports_words (map range_word r.sports) (map range_word r.dports)
    ++ back_words family r.itype r.icode r.flags r.state r.act)

-- ---- chains and sections

abbrev pub hook_letter : Hook → ℕ
hook_letter Input = 73
hook_letter Output = 79
hook_letter Forward = 70

-- The name of a chain: the hook's first letter, a `_`, and a name.
abbrev pub chain_name : Hook → List ℕ → List ℕ
chain_name hook name = hook_letter hook ∷ 95 ∷ name

unfoldable pub remark_rows : List ℕ → List Row
remark_rows text = row 0 (codes "#" ∷ words_in text) ∷ []

abbrev pub rule_row : Hook → List ℕ → List (List ℕ) → Row
rule_row hook name words = row 0 (codes "-A" ∷ chain_name hook name ∷ words)

unfoldable pub rule_rows : Hook → Family → List ℕ → Rule → List Row
rule_rows hook family name r = rule_row hook name (rule_words family r) ∷ []

-- A new chain, and a jump to it at the end of the hook's rules.
abbrev pub chain_row : Hook → List ℕ → Row
chain_row hook name = row 0 (codes "-N" ∷ chain_name hook name ∷ [])

abbrev pub jump_row : Hook → List ℕ → Row
jump_row hook name =
    row 0 (codes "-A" ∷ hook_word hook ∷ codes "-j" ∷ chain_name hook name ∷ [])

-- The remarks of a chain stand before it, and the jump to it behind its rules.
unfoldable pub chain_rows : Hook → Family → Chain → List Row
chain_rows hook family c = flat_map remark_rows c.remarks ++ (chain_row hook c.name
    ∷ (flat_map (rule_rows hook family c.name) c.rules ++ jump_row hook c.name ∷ []))

abbrev pub default_word : Bool → List ℕ
default_word true = codes "ACCEPT"
default_word false = codes "DROP"

unfoldable pub default_rows : Hook → Option Bool → List Row
default_rows hook None = []
default_rows hook (Some accept) = row 0 (codes "-P" ∷ hook_word hook ∷ default_word accept ∷ []) ∷ []

-- A section begins with a comment that names its target.
abbrev pub target_row : Hook → Family → Row
target_row hook family =
    row 0 (codes "##" ∷ codes "iptables" ∷ hook_word hook ∷ family_word family ∷ [])

unfoldable pub head_rows : Hook → Family → Option Bool → List Row
head_rows hook family accept = target_row hook family ∷ default_rows hook accept

unfoldable pub section_rows : Section → List Row
section_rows s =
    head_rows s.hook s.family s.accept ++ flat_map (chain_rows s.hook s.family) s.chains

-- The text of a document is its sections, one behind another.
abbrev pub text_of : List Section → List ℕ
text_of doc = text_of_rows (flat_map section_rows doc)

-- The bytes spell the document: it is valid, and they are its text.
abbrev pub Spells : List ℕ → List Section → Type 0
Spells bytes doc = IsSpelling IsDocument text_of bytes doc
