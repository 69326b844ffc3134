-- The text that is put for filters that a platform takes, and that are apart: its language accepts it as their sections,
-- which decide as they do, and as no other document.
use Rattle.std.proofs.Common.{◌≡◌, ℕ, false, List, length, slice_get, IfSome, sym, subst}
use Rattle.std.specs.List.{All, AllByRecursion}
use Rattle.std.proofs.lemmas.List.{length-map}
use Rattle.std.proofs.lemmas.List.Elements.{recursion_from_All}
use Rattle.acl_target.specs.declared.targets.Kind.{Kind}
use Rattle.acl_target.specs.declared.targets.Kind.TheVariants.{Cisco, Juniper, Iptables, Nftables}
use Rattle.acl_platform.specs.declared.filters.Filter.{Filter}
use Rattle.acl_platform.specs.Limits.{is_for}
use Rattle.acl_platform.specs.Platforms.{DecidesAs, IsAccepted}
use Rattle.acl_platform.proofs.Sections.{all-decide, all-spelled}
use Rattle.acl_filters.specs.PlatformLanguages.{IsDocumentFor, IsTextFor, OneDocument, outcome_on, SpellsOn}
use Rattle.cisco_lang.specs.Documents as cisco_documents
use Rattle.cisco_lang.specs.Texts as cisco_texts
use Rattle.cisco_lang.specs.Walks as cisco_walks
use Rattle.junos_lang.specs.Documents as junos_documents
use Rattle.junos_lang.specs.Texts as junos_texts
use Rattle.junos_lang.specs.Walks as junos_walks
use Rattle.ipt_lang.specs.Documents as ipt_documents
use Rattle.ipt_lang.specs.Texts as ipt_texts
use Rattle.ipt_lang.specs.Walks as ipt_walks
use Rattle.nft_lang.specs.Documents as nft_documents
use Rattle.nft_lang.specs.Texts as nft_texts
use Rattle.nft_lang.specs.Walks as nft_walks
use Rattle.gen_cisco.specs.Sections as cisco_sections
use Rattle.gen_cisco.proofs.DecisionLaws as cisco_decisions
use Rattle.gen_cisco.proofs.SectionLaws as cisco_laws
use Rattle.gen_cisco.proofs.ListNames as cisco_names
use Rattle.gen_junos.specs.Sections as junos_sections
use Rattle.gen_junos.proofs.DecisionLaws as junos_decisions
use Rattle.gen_junos.proofs.SectionLaws as junos_laws
use Rattle.gen_junos.proofs.NameLaws as junos_names
use Rattle.gen_iptables.specs.Sections as ipt_sections
use Rattle.gen_iptables.proofs.DecisionLaws as ipt_decisions
use Rattle.gen_iptables.proofs.SectionLaws as ipt_laws
use Rattle.gen_iptables.proofs.NameLaws as ipt_names
use Rattle.gen_nftables.specs.Sections as nft_sections
use Rattle.gen_nftables.proofs.DecisionLaws as nft_decisions
use Rattle.gen_nftables.proofs.SectionLaws as nft_laws
use Rattle.gen_nftables.proofs.TableNames as nft_names
use Rattle.acl_filters.specs.MeantTexts.{MeantTextsAreOfSections}
use Rattle.acl_filters.specs.PlatformFiles.{AreApart, IsTaken, limit_on, sections_on, text_on}
use Rattle.acl_filters.proofs.TakenFilters.{accepted, kinds, numbers-differ, of-iptables, of-junos, of-nftables}

all-accepted : (kind : Kind) (filters : List Filter) → All (IsTaken kind) filters
    → AllByRecursion (IsAccepted (is_for kind) (limit_on kind)) filters
all-accepted kind filters taken =
    recursion_from_All (IsAccepted (is_for kind) (limit_on kind)) filters (accepted kind filters taken)

-- The text spells the sections.
sections-spelled : (kind : Kind) (filters : List Filter) → All (IsTaken kind) filters → AreApart filters
    → SpellsOn kind (text_on kind filters) (sections_on kind filters)
sections-spelled Cisco filters taken apart =
    all-spelled (IsAccepted (is_for Cisco) (limit_on Cisco)) cisco_documents.IsSection cisco_documents.list_names cisco_texts.section_rows cisco_sections.section_of
    cisco_laws.section_is_spelled filters (all-accepted Cisco filters taken)
    (cisco_names.all-differ filters false (kinds Cisco filters taken) apart.clash_not)
sections-spelled Juniper filters taken apart =
    all-spelled (IsAccepted (is_for Juniper) (limit_on Juniper)) junos_documents.IsSection junos_documents.filter_names junos_texts.section_rows junos_sections.section_of
    junos_laws.section_is_spelled filters (all-accepted Juniper filters taken)
    (junos_names.all-differ filters false (of-junos filters taken) apart.clash_not)
sections-spelled Iptables filters taken apart =
    all-spelled (IsAccepted (is_for Iptables) (limit_on Iptables)) ipt_documents.IsSection ipt_documents.hook_names ipt_texts.section_rows ipt_sections.section_of
    ipt_laws.section_is_spelled filters (all-accepted Iptables filters taken)
    (ipt_names.all-differ filters false (of-iptables filters taken) apart.clash_not)
sections-spelled Nftables filters taken apart =
    all-spelled (IsAccepted (is_for Nftables) (limit_on Nftables)) nft_documents.IsSection nft_documents.table_names nft_texts.section_rows nft_sections.section_of
    nft_laws.section_is_spelled filters (all-accepted Nftables filters taken)
    (nft_names.all-differ filters false (of-nftables filters taken) (numbers-differ filters apart.numbers_differ))

-- The section at a place decides as the filter there.
sections-decide : (kind : Kind) (filters : List Filter) → All (IsTaken kind) filters
    → (k : ℕ) → IfSome (slice_get filters k) (λ f. DecidesAs f (outcome_on kind (sections_on kind filters) k))
sections-decide Cisco filters taken =
    all-decide (IsAccepted (is_for Cisco) (limit_on Cisco)) cisco_walks.section_outcome cisco_sections.section_of
    cisco_decisions.section_decides filters (all-accepted Cisco filters taken)
sections-decide Juniper filters taken =
    all-decide (IsAccepted (is_for Juniper) (limit_on Juniper)) junos_walks.section_outcome junos_sections.section_of
    junos_decisions.section_decides filters (all-accepted Juniper filters taken)
sections-decide Iptables filters taken =
    all-decide (IsAccepted (is_for Iptables) (limit_on Iptables)) ipt_walks.section_outcome ipt_sections.section_of
    ipt_decisions.section_decides filters (all-accepted Iptables filters taken)
sections-decide Nftables filters taken =
    all-decide (IsAccepted (is_for Nftables) (limit_on Nftables)) nft_walks.section_outcome nft_sections.section_of
    nft_decisions.section_decides filters (all-accepted Nftables filters taken)

sections-count : (kind : Kind) (filters : List Filter) → length (sections_on kind filters) ≡ length filters
sections-count Cisco filters = length-map filters cisco_sections.section_of
sections-count Juniper filters = length-map filters junos_sections.section_of
sections-count Iptables filters = length-map filters ipt_sections.section_of
sections-count Nftables filters = length-map filters nft_sections.section_of

-- ---- what the text means

-- It spells the sections, of which each decides as its filter.
pub sections-meant : (kind : Kind) (filters : List Filter) → All (IsTaken kind) filters → AreApart filters
    → IsDocumentFor kind DecidesAs filters (text_on kind filters) (sections_on kind filters)
sections-meant kind filters taken apart = record {
  spelled = sections-spelled kind filters taken apart;
  one_each = sections-count kind filters;
  decides = sections-decide kind filters taken;
}

pub text-meant : (kind : Kind) (filters : List Filter) → All (IsTaken kind) filters → AreApart filters
    → IsTextFor kind DecidesAs filters (text_on kind filters)
text-meant kind filters taken apart = (sections_on kind filters, sections-meant kind filters taken apart)

pub meant-texts-are-of-sections : OneDocument → MeantTextsAreOfSections
meant-texts-are-of-sections one kind filters taken apart doc =
    let text = text_on kind filters in
    let own = sections-spelled kind filters taken apart in
    (λ spelled. one kind text doc (sections_on kind filters) spelled own, λ e. subst (SpellsOn kind text) (sym e) own)
