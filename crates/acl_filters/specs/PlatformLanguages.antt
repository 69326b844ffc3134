-- The language of each platform: which texts it accepts as a document, and what a document does to packets.
use Rattle.std.specs.Prelude.{◌≡◌, ℕ, List, Option, IfSome, length, slice_get}
use Rattle.acl_packet.specs.declared.filtering.Outcome.{Outcome}
use Rattle.acl_packet.specs.declared.packets.Packet.{Packet}
use Rattle.acl_target.specs.declared.targets.Kind.{Kind}
use Rattle.acl_target.specs.declared.targets.Kind.TheVariants.{Cisco, Juniper, Iptables, Nftables}
use Rattle.cisco_lang.specs.declared.documents.Section.{Section as CiscoSection}
use Rattle.cisco_lang.specs.Texts as cisco
use Rattle.cisco_lang.specs.Walks as cisco_walks
use Rattle.junos_lang.specs.declared.documents.Section.{Section as JunosSection}
use Rattle.junos_lang.specs.Texts as junos
use Rattle.junos_lang.specs.Walks as junos_walks
use Rattle.ipt_lang.specs.declared.documents.Section.{Section as IptablesSection}
use Rattle.ipt_lang.specs.Texts as ipt
use Rattle.ipt_lang.specs.Walks as ipt_walks
use Rattle.nft_lang.specs.declared.documents.Section.{Section as NftablesSection}
use Rattle.nft_lang.specs.Texts as nft
use Rattle.nft_lang.specs.Walks as nft_walks

-- ---- the languages

-- A document is a list of sections.
abbrev pub SectionOn : Kind → Type 0
SectionOn Cisco = CiscoSection
SectionOn Juniper = JunosSection
SectionOn Iptables = IptablesSection
SectionOn Nftables = NftablesSection

-- The text spells the document: the document is valid, and the text is its own.
abbrev pub SpellsOn : (kind : Kind) → List ℕ → List (SectionOn kind) → Type 0
SpellsOn Cisco text doc = cisco.Spells text doc
SpellsOn Juniper text doc = junos.Spells text doc
SpellsOn Iptables text doc = ipt.Spells text doc
SpellsOn Nftables text doc = nft.Spells text doc

-- What the document's section at that place does to a packet; nothing where there is no such section, or
-- the packet is of no family of the section's.
abbrev pub outcome_on : (kind : Kind) → List (SectionOn kind) → ℕ → Packet → Option Outcome
outcome_on Cisco doc which p = cisco_walks.outcome_of doc which p
outcome_on Juniper doc which p = junos_walks.outcome_of doc which p
outcome_on Iptables doc which p = ipt_walks.outcome_of doc which p
outcome_on Nftables doc which p = nft_walks.outcome_of doc which p

-- A text has at most one document.
abbrev pub OneDocument : Type 0
OneDocument = (kind : Kind) (text : List ℕ) (a b : List (SectionOn kind))
    → SpellsOn kind text a → SpellsOn kind text b → a ≡ b

-- ---- what is asked of a text

-- The text spells the document, which has one section for each thing that is asked, in order; and each
-- section decides packets as is asked of it.
pub record IsDocumentFor {A : Type 0} (kind : Kind)
    (DecidesFor : A → (Packet → Option Outcome) → Type 0) (asked : List A) (text : List ℕ)
    (doc : List (SectionOn kind)) : Type 0 where
  pub spelled : SpellsOn kind text doc
  pub one_each : length doc ≡ length asked
  pub decides : (k : ℕ) → IfSome (slice_get asked k) (λ a. DecidesFor a (outcome_on kind doc k))

-- The platform's language accepts the text as one document, and that document is so.
abbrev pub IsTextFor : {A : Type 0} → Kind → (A → (Packet → Option Outcome) → Type 0) → List A
    → List ℕ → Type 0
IsTextFor kind DecidesFor asked text =
    (doc : List (SectionOn kind)) × IsDocumentFor kind DecidesFor asked text doc
