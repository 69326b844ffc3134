-- Reading leniently: a draft that rows and words change, and that nothing refuses.
use Rattle.std.specs.Prelude.{ℕ, ◌-◌, ◌^◌, true, false, ◌==◌, if◌then◌else◌, ℤ, pos, List, [], ◌∷◌, ◌++◌, drop, codes, None, Some, unwrap_or}
use Rattle.std.specs.List.{fold, join_with_byte}
use Rattle.std.specs.Option.{option_map_or}
use Rattle.std.specs.Str.{bytes_eq}
use Rattle.acl_packet.specs.declared.addresses.Family.{Family}
use Rattle.acl_packet.specs.declared.addresses.Family.TheVariants.{V4, V6}
use Rattle.acl_packet.specs.declared.addresses.Families.{Families}
use Rattle.acl_packet.specs.declared.addresses.Families.TheVariants.{Inet}
use Rattle.acl_packet.specs.declared.addresses.Prefix.{Prefix}
use Rattle.acl_packet.specs.declared.filtering.Hook.{Hook}
use Rattle.acl_packet.specs.declared.filtering.Hook.TheVariants.{Input, Output, Forward}
use Rattle.acl_packet.specs.declared.filtering.Verdict.TheVariants.{Accept, Deny, Reject, Reset}
use Rattle.acl_packet.specs.Addresses.{first_family}
use Rattle.acl_packet.specs.Decimals.{number_in}
use Rattle.acl_text.specs.AddressTexts.{spelled_prefix_in}
use Rattle.acl_text.specs.Cuts.{behind, cut_at}
use Rattle.acl_text.specs.PortRanges.{ports_in}
use Rattle.acl_text.specs.SignedNumbers.{signed_in}
use Rattle.acl_rows.specs.RowSteps.{begins_with, few_in}
use Rattle.acl_rows.specs.Rows.{Row}
use Rattle.acl_rows.specs.FamilyWords.{families_in}
use Rattle.nft_lang.specs.declared.documents.Section.{Section}
use Rattle.nft_lang.specs.declared.documents.Item.{Item}
use Rattle.nft_lang.specs.declared.documents.Item.TheVariants.{Remark, Rule as ARule}
use Rattle.nft_lang.specs.declared.documents.Rule.{Rule}
use Rattle.nft_lang.specs.declared.documents.Flags.TheVariants.{Rst, SynNotAck}
use Rattle.acl_rows.specs.declared.rule_parts.End.{End}
use Rattle.acl_rows.specs.declared.rule_parts.End.TheVariants.{Source, Destination}
use Rattle.nft_lang.specs.declared.rule_drafts.Next.{Next}
use Rattle.nft_lang.specs.declared.rule_drafts.Next.TheVariants.{Keyword, PacketFamily, Protocol, Addresses, Ports, Types, Codes}
use Rattle.nft_lang.specs.declared.rule_drafts.RuleDraft.{RuleDraft}
use Rattle.nft_lang.specs.declared.tables_drafts.TablesDraft.{TablesDraft}

-- ---- the words of a rule

abbrev pub draft : Rule → Next → RuleDraft
draft r next = record { rule = r; next = next }

abbrev pub no_rule : Family → Rule
no_rule family = record {
  family = family;
  proto = None;
  src = [];
  dst = [];
  sports = [];
  dports = [];
  itypes = [];
  icodes = [];
  flags = None;
  state = false;
  log = false;
  verdict = Deny;
}

-- A word up to a byte that ends it, as a comma or a semicolon.
unfoldable pub up_to : ℕ → List ℕ → List ℕ
up_to c w = option_map_or {U = List ℕ} (λ p. p.0) (cut_at c w) w

abbrev pub nfproto_in : List ℕ → Family
nfproto_in w = if bytes_eq w (codes "ipv6") then V6 else V4

-- What a word says that the next one is.
unfoldable pub next_in : List ℕ → Next
next_in w =
    if bytes_eq w (codes "nfproto") then PacketFamily
    else if bytes_eq w (codes "l4proto") then Protocol
    else if bytes_eq w (codes "saddr") then Addresses Source
    else if bytes_eq w (codes "daddr") then Addresses Destination
    else if bytes_eq w (codes "sport") then Ports Source
    else if bytes_eq w (codes "dport") then Ports Destination
    else if bytes_eq w (codes "type") then Types
    else if bytes_eq w (codes "code") then Codes
    else Keyword

unfoldable pub with_test : List ℕ → Rule → Rule
with_test w r =
    if bytes_eq w (codes "(syn") then record r { flags = Some SynNotAck }
    else if bytes_eq w (codes "rst") then record r { flags = Some Rst }
    else if bytes_eq w (codes "state") then record r { state = true }
    else if bytes_eq w (codes "log") then record r { log = true }
    else r

unfoldable pub with_verdict : List ℕ → Rule → Rule
with_verdict w r =
    if bytes_eq w (codes "accept") then record r { verdict = Accept }
    else if bytes_eq w (codes "drop") then record r { verdict = Deny }
    else if bytes_eq w (codes "reject") then record r { verdict = Reject }
    else if bytes_eq w (codes "reset") then record r { verdict = Reset }
    else r

abbrev pub with_address : End → Prefix → Rule → Rule
with_address Source p r = record r { src = r.src ++ p ∷ [] }
with_address Destination p r = record r { dst = r.dst ++ p ∷ [] }

abbrev pub with_ports : End → ℕ × ℕ → Rule → Rule
with_ports Source ports r = record r { sports = r.sports ++ ports ∷ [] }
with_ports Destination ports r = record r { dports = r.dports ++ ports ∷ [] }

abbrev pub with_type : ℕ → Rule → Rule
with_type n r = record r { itypes = r.itypes ++ n ∷ [] }

abbrev pub with_code : ℕ → Rule → Rule
with_code n r = record r { icodes = r.icodes ++ n ∷ [] }

-- A word of a set is an element, or the brace that ends it.
abbrev pub in_set : Next → List ℕ → Next
in_set next w = if bytes_eq w (codes "}") then Keyword else next

unfoldable pub take_address : Rule → End → List ℕ → RuleDraft
take_address r end w =
    option_map_or {U = RuleDraft} (λ p. draft (with_address end p r) (Addresses end))
    (spelled_prefix_in r.family (up_to 44 w)) (draft r (in_set (Addresses end) w))

unfoldable pub take_ports : Rule → End → List ℕ → RuleDraft
take_ports r end w =
    option_map_or {U = RuleDraft} (λ ports. draft (with_ports end ports r) (Ports end))
    (ports_in 45 (up_to 44 w)) (draft r (in_set (Ports end) w))

unfoldable pub take_type : Rule → List ℕ → RuleDraft
take_type r w =
    option_map_or {U = RuleDraft} (λ n. draft (with_type n r) Types)
    (number_in 254 (up_to 44 w)) (draft r (in_set Types w))

unfoldable pub take_code : Rule → List ℕ → RuleDraft
take_code r w =
    option_map_or {U = RuleDraft} (λ n. draft (with_code n r) Codes)
    (number_in 255 (up_to 44 w)) (draft r (in_set Codes w))

unfoldable pub take_as : Rule → Next → List ℕ → RuleDraft
take_as r Keyword w = draft (with_verdict w (with_test w r)) (next_in w)
take_as r PacketFamily w = draft (record r { family = nfproto_in w }) Keyword
take_as r Protocol w = draft (record r { proto = number_in 255 w }) Keyword
take_as r (Addresses end) w = take_address r end w
take_as r (Ports end) w = take_ports r end w
take_as r Types w = take_type r w
take_as r Codes w = take_code r w

abbrev pub take_word : RuleDraft → List ℕ → RuleDraft
take_word d w = take_as d.rule d.next w

unfoldable pub rule_in : Families → List (List ℕ) → Rule
rule_in families words =
    (fold take_word (draft (no_rule (first_family families)) Keyword) words).rule

-- ---- the rows of a document

abbrev pub no_section : Section
no_section = record {
  hook = Input;
  families = Inet;
  number = 0;
  priority = pos 0;
  accept = false;
  items = [];
}

unfoldable pub hook_in : List ℕ → Hook
hook_in w =
    if bytes_eq w (codes "output") then Output
    else if bytes_eq w (codes "forward") then Forward
    else Input

unfoldable pub table_in : List ℕ → ℕ
table_in w = option_map_or {U = ℕ} (λ digits. unwrap_or (number_in (2 ^ 32 - 1) digits) 0)
    (behind (codes "aclgen_") w) 0

unfoldable pub priority_in : List ℕ → ℤ
priority_in w = unwrap_or (signed_in (2 ^ 31) (2 ^ 31 - 1) (up_to 59 w)) (pos 0)

unfoldable pub item_in : Families → List (List ℕ) → Item
item_in families words =
    if begins_with (codes "#") words then Remark (join_with_byte 32 (drop 1 words))
    else ARule (rule_in families words)

abbrev pub begin_section : TablesDraft → List ℕ → List ℕ → TablesDraft
begin_section d hook families = record d {
  section = record no_section { hook = hook_in hook; families = families_in families };
}

abbrev pub with_number : TablesDraft → List ℕ → TablesDraft
with_number d name = record d { section = record d.section { number = table_in name } }

abbrev pub with_chain : TablesDraft → List ℕ → List ℕ → TablesDraft
with_chain d priority policy = record d {
  section = record d.section {
    priority = priority_in priority;
    accept = bytes_eq policy (codes "accept;");
  };
}

abbrev pub with_item : TablesDraft → Item → TablesDraft
with_item d item = record d { section = record d.section { items = d.section.items ++ item ∷ [] } }

abbrev pub end_section : TablesDraft → TablesDraft
end_section d = record { sections = d.sections ++ d.section ∷ []; section = no_section }

-- A row of four words begins a section or its table, or takes a table away.
unfoldable pub take_four : TablesDraft → List ℕ → List ℕ → List ℕ → TablesDraft
take_four d w third fourth =
    if bytes_eq w (codes "##") then begin_section d third fourth
    else if bytes_eq w (codes "table") then with_number d third
    else d

unfoldable pub take_outer : TablesDraft → List (List ℕ) → TablesDraft
take_outer d (w ∷ []) = if bytes_eq w (codes "}") then end_section d else d
take_outer d (w ∷ v ∷ third ∷ fourth ∷ []) = take_four d w third fourth
take_outer d words = d

unfoldable pub take_chain : TablesDraft → List (List ℕ) → TablesDraft
take_chain d (t ∷ f ∷ h ∷ hook ∷ p ∷ priority ∷ q ∷ policy ∷ []) = with_chain d priority policy
take_chain d words = d

unfoldable pub take_inner : TablesDraft → List (List ℕ) → TablesDraft
take_inner d words =
    if begins_with (codes "type") words then take_chain d (few_in words)
    else with_item d (item_in d.section.families words)

unfoldable pub take_row : TablesDraft → Row → TablesDraft
take_row d r =
    if r.indent == 0 then take_outer d (few_in r.words)
    else if r.indent == 8 then take_inner d r.words
    else d

abbrev pub no_draft : TablesDraft
no_draft = record { sections = []; section = no_section }
