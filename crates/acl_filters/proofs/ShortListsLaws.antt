-- A filter that is taken is short: its lists of prefixes are least lists, and it meets no limit of entries.
use Rattle.std.proofs.Common.{◌≡◌, ℕ, ◌≤◌, List, [], ◌∷◌, Option, None}
use Rattle.std.specs.List.{AllByRecursion}
use Rattle.acl_packet.specs.declared.addresses.Families.{Families}
use Rattle.acl_sets.specs.LeastLists.{IsFewest}
use Rattle.acl_packet.specs.AddressLists.{any_has}
use Rattle.acl_sets.proofs.LeastListLaws.{least_list-fewest}
use Rattle.acl_target.specs.declared.targets.Kind.{Kind}
use Rattle.acl_target.specs.declared.targets.Kind.TheVariants.{Cisco, Juniper, Iptables, Nftables}
use Rattle.acl_platform.specs.declared.filters.Filter.{Filter}
use Rattle.acl_platform.specs.declared.filters.Limit.{Limit}
use Rattle.acl_platform.specs.declared.rules.Rule.{Rule}
use Rattle.acl_platform.specs.Limits.{count_limit, filter_limit, first_limit}
use Rattle.acl_platform.specs.SoundFilters.{IsSoundRule}
use Rattle.gen_cisco.specs.Limits as cisco
use Rattle.gen_junos.specs.Limits as junos
use Rattle.gen_iptables.specs.Limits as ipt
use Rattle.gen_nftables.specs.Limits as nft
use Rattle.acl_filters.specs.PlatformFiles.{count_of, count_on, limit_of, limit_on}
use Rattle.acl_filters.specs.ShortLists.{TakenFiltersAreShort}
use Rattle.acl_platform.proofs.AcceptedFilters.{both-none}
use Rattle.acl_filters.proofs.FewerRulesLaws.{count-fits}

fewest-each : (kind : Kind) (families : Families) (rules : List Rule) → AllByRecursion (IsSoundRule kind families) rules
    → AllByRecursion (λ r. IsFewest r.family (any_has r.src) r.src × IsFewest r.family (any_has r.dst) r.dst) rules
fewest-each kind families [] h = tt
fewest-each kind families (r ∷ rules) h = (
  (
    least_list-fewest r.family (any_has r.src) r.src h.0.sources.least,
    least_list-fewest r.family (any_has r.dst) r.dst h.0.destinations.least,
  ),
  fewest-each kind families rules h.1,
)

count-within : (limit : List Rule → Rule → Option Limit) (n : ℕ) (f : Filter) → filter_limit limit n f ≡ None → n ≤ 100000
count-within limit n f h = count-fits n (both-none (first_limit limit [] f.rules) (count_limit n) h).1

within-on : (kind : Kind) (f : Filter) → limit_on kind f ≡ None → count_on kind f ≤ 100000
within-on Cisco f h = count-within cisco.rule_limit _ f h
within-on Juniper f h = count-within junos.rule_limit _ f h
within-on Iptables f h = count-within ipt.rule_limit _ f h
within-on Nftables f h = count-within nft.rule_limit _ f h

pub taken-short : TakenFiltersAreShort
unfolding limit_of count_of
taken-short f sound none = (fewest-each f.kind f.families f.rules sound.rules, within-on f.kind f none)
