-- The file of a platform: what each filter counts and why one is not taken, and the text of all of them.
use Rattle.std.specs.Prelude.{◌≡◌, ℕ, false, ◌==◌, List, map, Option, None}
use Rattle.std.specs.List.{IsDistinct}
use Rattle.acl_target.specs.declared.targets.Kind.{Kind}
use Rattle.acl_target.specs.declared.targets.Kind.TheVariants.{Cisco, Juniper, Iptables, Nftables}
use Rattle.acl_target.specs.Clashes.{clash}
use Rattle.acl_platform.specs.declared.filters.Filter.{Filter}
use Rattle.acl_platform.specs.declared.filters.Limit.{Limit}
use Rattle.acl_platform.specs.SoundFilters.{IsSound, target_of}
use Rattle.acl_filters.specs.PlatformLanguages.{SectionOn}
use Rattle.cisco_lang.specs.Texts as cisco
use Rattle.junos_lang.specs.Texts as junos
use Rattle.ipt_lang.specs.Texts as ipt
use Rattle.nft_lang.specs.Texts as nft
use Rattle.gen_cisco.specs.Limits as cisco_limits
use Rattle.gen_cisco.specs.Sections as cisco_sections
use Rattle.gen_junos.specs.Limits as junos_limits
use Rattle.gen_junos.specs.Sections as junos_sections
use Rattle.gen_iptables.specs.Limits as ipt_limits
use Rattle.gen_iptables.specs.Sections as ipt_sections
use Rattle.gen_nftables.specs.Limits as nft_limits
use Rattle.gen_nftables.specs.Sections as nft_sections

-- ---- one filter

-- Why the platform does not take the filter.
abbrev pub limit_on : Kind → Filter → Option Limit
limit_on Cisco f = cisco_limits.limit_of f
limit_on Juniper f = junos_limits.limit_of f
limit_on Iptables f = ipt_limits.limit_of f
limit_on Nftables f = nft_limits.limit_of f

unfoldable pub limit_of : Filter → Option Limit
limit_of f = limit_on f.kind f

-- How many entries it has there.
abbrev pub count_on : Kind → Filter → ℕ
count_on Cisco f = cisco_sections.entry_count f
count_on Juniper f = junos_sections.entry_count f
count_on Iptables f = ipt_sections.entry_count f
count_on Nftables f = nft_sections.entry_count f

unfoldable pub count_of : Filter → ℕ
count_of f = count_on f.kind f

-- ---- several filters of a platform

-- The sections of the filters, in order.
abbrev pub sections_on : (kind : Kind) → List Filter → List (SectionOn kind)
sections_on Cisco filters = map cisco_sections.section_of filters
sections_on Juniper filters = map junos_sections.section_of filters
sections_on Iptables filters = map ipt_sections.section_of filters
sections_on Nftables filters = map nft_sections.section_of filters

-- The text of the filters' sections.
abbrev pub text_on : Kind → List Filter → List ℕ
text_on Cisco filters = cisco.text_of (map cisco_sections.section_of filters)
text_on Juniper filters = junos.text_of (map junos_sections.section_of filters)
text_on Iptables filters = ipt.text_of (map ipt_sections.section_of filters)
text_on Nftables filters = nft.text_of (map nft_sections.section_of filters)

-- A filter of the platform that the platform takes.
pub record IsTaken (kind : Kind) (f : Filter) : Type 0 where
  pub kind_is : f.kind ≡ kind
  pub sound : IsSound f
  pub within : limit_on kind f ≡ None

-- No two filters are for targets that clash, or that have one number.
pub record AreApart (filters : List Filter) : Type 0 where
  pub clash_not : IsDistinct clash (map (target_of false) filters)
  pub numbers_differ : IsDistinct (λ (a b : Filter). a.number == b.number) filters
