-- Reading leniently: a draft that rows and words change, and that nothing refuses.
use Rattle.std.specs.Prelude.{ℕ, true, false, ◌||◌, ◌==◌, if◌then◌else◌, List, [], ◌∷◌, ◌++◌, flat_map, drop, codes, Option, None, Some}
use Rattle.std.specs.List.{fold, join_with_byte, slice_split}
use Rattle.std.specs.Option.{option_or}
use Rattle.std.specs.Str.{bytes_eq}
use Rattle.acl_packet.specs.declared.addresses.Family.{Family}
use Rattle.acl_packet.specs.declared.addresses.Family.TheVariants.{V4}
use Rattle.acl_packet.specs.declared.filtering.Hook.{Hook}
use Rattle.acl_packet.specs.declared.filtering.Hook.TheVariants.{Input, Output, Forward}
use Rattle.acl_packet.specs.declared.filtering.Verdict.TheVariants.{Accept, Deny, Reject, Reset}
use Rattle.acl_packet.specs.Decimals.{number_in}
use Rattle.acl_text.specs.AddressTexts.{spelled_prefix_in}
use Rattle.acl_text.specs.Cuts.{cut_at}
use Rattle.acl_text.specs.PortRanges.{ports_in}
use Rattle.acl_rows.specs.RowSteps.{few_in}
use Rattle.acl_rows.specs.Rows.{Row}
use Rattle.acl_rows.specs.FamilyWords.{family_in}
use Rattle.ipt_lang.specs.declared.documents.Section.{Section}
use Rattle.ipt_lang.specs.declared.documents.Chain.{Chain}
use Rattle.ipt_lang.specs.declared.documents.Rule.{Rule}
use Rattle.ipt_lang.specs.declared.documents.Act.{Act}
use Rattle.ipt_lang.specs.declared.documents.Act.TheVariants.{Log, Decide}
use Rattle.ipt_lang.specs.declared.documents.Flags.{Flags}
use Rattle.ipt_lang.specs.declared.documents.Flags.TheVariants.{Ack, Rst, SynNotAck}
use Rattle.acl_rows.specs.declared.rule_parts.End.{End}
use Rattle.acl_rows.specs.declared.rule_parts.End.TheVariants.{Source, Destination}
use Rattle.ipt_lang.specs.declared.rule_drafts.Next.{Next}
use Rattle.ipt_lang.specs.declared.rule_drafts.Next.TheVariants.{Keyword, Protocol, Address, Ports, IcmpType, Mask, Target}
use Rattle.ipt_lang.specs.declared.rule_drafts.RuleDraft.{RuleDraft}
use Rattle.ipt_lang.specs.declared.chains_drafts.ChainsDraft.{ChainsDraft}
use Rattle.ipt_lang.specs.Documents.{hook_word}

-- ---- the words of a rule

abbrev pub draft : Family → Rule → Next → RuleDraft
draft family r next = record { family = family; rule = r; next = next }

abbrev pub no_rule : Rule
no_rule = record {
  proto = None;
  src = None;
  dst = None;
  sports = [];
  dports = [];
  itype = None;
  icode = None;
  flags = None;
  state = false;
  act = Decide Deny;
}

unfoldable pub named_proto_in : List ℕ → Option ℕ
named_proto_in w =
    if bytes_eq w (codes "tcp") then Some 6
    else if bytes_eq w (codes "udp") then Some 17
    else if bytes_eq w (codes "sctp") then Some 132
    else if bytes_eq w (codes "icmp") then Some 1
    else if bytes_eq w (codes "icmpv6") then Some 58
    else None

abbrev pub proto_in : List ℕ → Option ℕ
proto_in w = option_or (number_in 255 w) (named_proto_in w)

abbrev pub one_or_none : {A : Type 0} → Option A → List A
one_or_none None = []
one_or_none (Some x) = x ∷ []

-- The ranges among words, and those of one word, with commas between.
abbrev pub ranges_among : List (List ℕ) → List (ℕ × ℕ)
ranges_among words = flat_map (λ w. one_or_none (ports_in 58 w)) words

unfoldable pub ranges_in : List ℕ → List (ℕ × ℕ)
ranges_in w = ranges_among (slice_split (λ b. b == 44) w)

abbrev pub flags_in : List ℕ → Flags
flags_in w =
    if bytes_eq w (codes "ACK") then Ack else if bytes_eq w (codes "RST") then Rst else SynNotAck

unfoldable pub act_in : List ℕ → Act
act_in w =
    if bytes_eq w (codes "LOG") then Log
    else if bytes_eq w (codes "ACCEPT") then Decide Accept
    else if bytes_eq w (codes "REJECT") then Decide Reject
    else Decide Deny

-- What a word says that the next one is.
unfoldable pub next_in : List ℕ → Next
next_in w =
    if bytes_eq w (codes "-p") then Protocol
    else if bytes_eq w (codes "-s") then Address Source
    else if bytes_eq w (codes "-d") then Address Destination
    else if bytes_eq w (codes "--sport") || bytes_eq w (codes "--sports") then Ports Source
    else if bytes_eq w (codes "--dport") || bytes_eq w (codes "--dports") then Ports Destination
    else if bytes_eq w (codes "--icmp-type") || bytes_eq w (codes "--icmpv6-type") then IcmpType
    else if bytes_eq w (codes "--tcp-flags") then Mask
    else if bytes_eq w (codes "-j") then Target
    else Keyword

-- What a word says by itself.
unfoldable pub with_word : List ℕ → Rule → Rule
with_word w r =
    if bytes_eq w (codes "--state") then record r { state = true }
    else if bytes_eq w (codes "tcp-reset") then record r { act = Decide Reset }
    else r

abbrev pub with_address : Family → End → List ℕ → Rule → Rule
with_address family Source w r = record r { src = spelled_prefix_in family w }
with_address family Destination w r = record r { dst = spelled_prefix_in family w }

abbrev pub with_ports : End → List ℕ → Rule → Rule
with_ports Source w r = record r { sports = ranges_in w }
with_ports Destination w r = record r { dports = ranges_in w }

-- A type, and what is read before and behind the word's first `/`, where it has one.
abbrev pub with_type : List ℕ → Option (List ℕ × List ℕ) → Rule → Rule
with_type w None r = record r { itype = number_in 254 w }
with_type w (Some parts) r =
    record r { itype = number_in 254 parts.0; icode = number_in 255 parts.1 }

-- The rule with a word of that kind.
unfoldable pub with_value : Family → Next → List ℕ → Rule → Rule
with_value family Keyword w r = with_word w r
with_value family Protocol w r = record r { proto = proto_in w }
with_value family (Address end) w r = with_address family end w r
with_value family (Ports end) w r = with_ports end w r
with_value family IcmpType w r = with_type w (cut_at 47 w) r
with_value family Mask w r = record r { flags = Some (flags_in w) }
with_value family Target w r = record r { act = act_in w }

-- Behind a value stands a keyword.
abbrev pub next_after : Next → List ℕ → Next
next_after Keyword w = next_in w
next_after next w = Keyword

abbrev pub take_word : RuleDraft → List ℕ → RuleDraft
take_word d w = draft d.family (with_value d.family d.next w d.rule) (next_after d.next w)

unfoldable pub rule_in : Family → List (List ℕ) → Rule
rule_in family words = (fold take_word (draft family no_rule Keyword) words).rule

-- ---- the rows of a document

abbrev pub no_section : Section
no_section = record { hook = Input; family = V4; accept = None; chains = [] }

abbrev pub no_chain : Chain
no_chain = record { remarks = []; name = []; rules = [] }

abbrev pub no_draft : ChainsDraft
no_draft = record { sections = []; begun = false; section = no_section; chain = no_chain }

unfoldable pub hook_in : List ℕ → Hook
hook_in w =
    if bytes_eq w (codes "OUTPUT") then Output
    else if bytes_eq w (codes "FORWARD") then Forward
    else Input

-- The sections so far, with the one that has begun.
abbrev pub ended : ChainsDraft → List Section
ended d = if d.begun then d.sections ++ d.section ∷ [] else d.sections

abbrev pub begin_section : ChainsDraft → List ℕ → List ℕ → ChainsDraft
begin_section d hook family = record {
  sections = ended d;
  begun = true;
  section = record no_section { hook = hook_in hook; family = family_in family };
  chain = no_chain;
}

abbrev pub with_policy : ChainsDraft → List ℕ → ChainsDraft
with_policy d w =
    record d { section = record d.section { accept = Some (bytes_eq w (codes "ACCEPT")) } }

abbrev pub with_remark : ChainsDraft → List ℕ → ChainsDraft
with_remark d text = record d { chain = record d.chain { remarks = d.chain.remarks ++ text ∷ [] } }

-- A chain's name stands behind the hook's letter and a `_`.
abbrev pub with_name : ChainsDraft → List ℕ → ChainsDraft
with_name d w = record d { chain = record d.chain { name = drop 2 w } }

abbrev pub with_rule : ChainsDraft → Rule → ChainsDraft
with_rule d r = record d { chain = record d.chain { rules = d.chain.rules ++ r ∷ [] } }

abbrev pub end_chain : ChainsDraft → ChainsDraft
end_chain d = record d {
  section = record d.section { chains = d.section.chains ++ d.chain ∷ [] };
  chain = no_chain;
}

-- What is appended to the hook's own chain is a jump, which ends the chain that it goes to.
unfoldable pub take_appended : ChainsDraft → List (List ℕ) → ChainsDraft
take_appended d [] = d
take_appended d (chain ∷ words) =
    if bytes_eq chain (hook_word d.section.hook) then end_chain d
    else with_rule d (rule_in d.section.family words)

unfoldable pub take_target : ChainsDraft → List (List ℕ) → ChainsDraft
take_target d (platform ∷ hook ∷ family ∷ []) = begin_section d hook family
take_target d words = d

unfoldable pub take_policy : ChainsDraft → List (List ℕ) → ChainsDraft
take_policy d (hook ∷ policy ∷ []) = with_policy d policy
take_policy d words = d

unfoldable pub take_name : ChainsDraft → List (List ℕ) → ChainsDraft
take_name d (name ∷ []) = with_name d name
take_name d words = d

unfoldable pub take_few : ChainsDraft → List ℕ → List (List ℕ) → ChainsDraft
take_few d w words =
    if bytes_eq w (codes "-N") then take_name d words
    else if bytes_eq w (codes "##") then take_target d words
    else if bytes_eq w (codes "-P") then take_policy d words
    else d

unfoldable pub take_named : ChainsDraft → List ℕ → List (List ℕ) → ChainsDraft
take_named d w words =
    if bytes_eq w (codes "-A") then take_appended d words
    else if bytes_eq w (codes "#") then with_remark d (join_with_byte 32 words)
    else take_few d w (few_in words)

unfoldable pub take_words : ChainsDraft → List (List ℕ) → ChainsDraft
take_words d [] = d
take_words d (w ∷ words) = take_named d w words

abbrev pub take_row : ChainsDraft → Row → ChainsDraft
take_row d r = take_words d r.words
