-- Documents of iptables rules, and which of them are valid.
-- Sources: iptables(8), "COMMANDS" and "PARAMETERS"; iptables-extensions(8), "multiport" (up to 15
-- ports, a range counts as two), "tcp", "udp", "sctp", "icmp", "icmp6", "state", "REJECT" and "LOG".
use Rattle.std.specs.Prelude.{◌≡◌, ℕ, ◌≤◌, Bool, true, false, ◌&&◌, ◌||◌, nat_le, List, [], ◌∷◌, ◌++◌, length, map, codes, Option, IfSome, is_none, is_some}
use Rattle.std.specs.List.{AllByRecursion, IsDistinct, sum_by}
use Rattle.std.specs.Str.{bytes_eq}
use Rattle.acl_packet.specs.declared.addresses.Family.{Family}
use Rattle.acl_packet.specs.declared.addresses.Family.TheVariants.{V4, V6}
use Rattle.acl_packet.specs.declared.filtering.Hook.{Hook}
use Rattle.acl_packet.specs.declared.filtering.Hook.TheVariants.{Input, Output, Forward}
use Rattle.acl_packet.specs.declared.filtering.Verdict.TheVariants.{Reset, Left}
use Rattle.acl_packet.specs.Packets.{icmp_of}
use Rattle.acl_packet.specs.PortWeights.{port_weight}
use Rattle.acl_text.specs.Names.{is_name, is_safe_text}
use Rattle.acl_rows.specs.Documents.{IsDocumentOf}
use Rattle.acl_rows.specs.PortRanges.{IsPortRange}
use Rattle.acl_rows.specs.RuleParts.{IsAddresses, has_port_proto, is_empty, is_proto}
use Rattle.ipt_lang.specs.declared.documents.Section.{Section}
use Rattle.ipt_lang.specs.declared.documents.Chain.{Chain}
use Rattle.ipt_lang.specs.declared.documents.Rule.{Rule}
use Rattle.ipt_lang.specs.declared.documents.Act.{Act}
use Rattle.ipt_lang.specs.declared.documents.Act.TheVariants.{Decide}

-- ---- rules

-- A list of ports weighs at most 15.
abbrev pub weight_of : ℕ × ℕ → ℕ
weight_of ports = port_weight ports.0 ports.1

abbrev pub weight : List (ℕ × ℕ) → ℕ
weight ranges = sum_by weight_of ranges

pub record IsPortList (ranges : List (ℕ × ℕ)) : Type 0 where
  pub each : AllByRecursion IsPortRange ranges
  pub light : weight ranges ≤ 15

-- Ports belong to TCP, UDP or SCTP, a type to the family's ICMP, a code to a type, flags and a reset to TCP.
abbrev pub ports_fit : Rule → Bool
ports_fit r = is_empty r.sports && is_empty r.dports || has_port_proto r.proto

abbrev pub type_fits : Family → Rule → Bool
type_fits family r = is_none r.itype || is_proto r.proto (icmp_of family)

abbrev pub code_fits : Rule → Bool
code_fits r = is_none r.icode || is_some r.itype

abbrev pub flags_fit : Rule → Bool
flags_fit r = is_none r.flags || is_proto r.proto 6

-- No act leaves a packet to what stands behind the rules.
abbrev pub act_fits : Option ℕ → Act → Bool
act_fits proto (Decide Reset) = is_proto proto 6
act_fits proto (Decide Left) = false
act_fits proto act = true

abbrev pub parts_fit : Family → Rule → Bool
parts_fit family r =
    ports_fit r && type_fits family r && (code_fits r && (flags_fit r && act_fits r.proto r.act))

-- A rule for packets of the family. Protocol 0 and type 255 have no number here.
pub record IsRule (family : Family) (r : Rule) : Type 0 where
  pub protocol : IfSome r.proto (λ n. (1 ≤ n) × (n ≤ 255))
  pub source : IfSome r.src (IsAddresses family)
  pub destination : IfSome r.dst (IsAddresses family)
  pub source_ports : IsPortList r.sports
  pub destination_ports : IsPortList r.dports
  pub icmp_type : IfSome r.itype (λ n. n ≤ 254)
  pub icmp_code : IfSome r.icode (λ n. n ≤ 255)
  pub fit : parts_fit family r ≡ true

-- ---- chains and sections

-- The name of a chain has 1 to 24 bytes behind the hook's letter and the `_`.
abbrev pub is_chain_name : List ℕ → Bool
is_chain_name name = is_name name && nat_le (length name) 24

abbrev pub IsRemark : List ℕ → Type 0
IsRemark text = is_safe_text text ≡ true

pub record IsChain (family : Family) (c : Chain) : Type 0 where
  pub remarks : AllByRecursion IsRemark c.remarks
  pub named : is_chain_name c.name ≡ true
  pub rules : AllByRecursion (IsRule family) c.rules

abbrev pub chain_names : List Chain → List (List ℕ)
chain_names chains = map (λ c. c.name) chains

-- No two chains of a section have the same name.
pub record IsSection (s : Section) : Type 0 where
  pub chains : AllByRecursion (IsChain s.family) s.chains
  pub names_differ : IsDistinct bytes_eq (chain_names s.chains)

-- ---- documents

abbrev pub hook_word : Hook → List ℕ
hook_word Input = codes "INPUT"
hook_word Output = codes "OUTPUT"
hook_word Forward = codes "FORWARD"

abbrev pub family_word : Family → List ℕ
family_word V4 = codes "inet"
family_word V6 = codes "inet6"

-- The name of a section in its document: its hook and its family.
abbrev pub name_of : Section → List ℕ
name_of s = hook_word s.hook ++ 32 ∷ family_word s.family

-- The one name that a section takes in its document.
abbrev pub hook_names : Section → List (List ℕ)
hook_names s = name_of s ∷ []

-- A document is its sections, no two of which have the same hook and family.
abbrev pub IsDocument : List Section → Type 0
IsDocument doc = IsDocumentOf IsSection hook_names doc
