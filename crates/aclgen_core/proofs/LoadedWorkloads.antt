-- A workload is loaded, and its filters fit.
use Rattle.std.proofs.Common.{◌≡◌, ℕ, ◌+◌, ◌*◌, ◌<◌, ◌≤◌, zero, suc, List, [], ◌∷◌, map, None, Ok, refl, ap, sym, subst, ◌∙◌, arith}
use Rattle.std.specs.List.{range_with_len}
use Rattle.std.specs.Option.{option_or}
use Rattle.acl_host.specs.declared.days.Day.{Day}
use Rattle.acl_target.specs.declared.targets.Target.{Target}
use Rattle.acl_platform.specs.declared.rules.Rule.{Rule}
use Rattle.acl_expand.specs.Expansions.{filter_of, filter_with}
use Rattle.acl_load.specs.declared.policy_loading.Loaded.{Loaded}
use Rattle.acl_load.specs.LoadedPolicies.{AreResolved, FirstFaultOr, LoadsPolicy, Resolves, ResolvesWith, blocks_slip, terms_slip}
use Rattle.acl_filters.specs.PlatformFiles.{count_of, limit_of}
use Rattle.policy_grammar.specs.PolicyTexts.{text_meant}
use Rattle.policy_grammar.specs.TermTexts.{term_meant}
use Rattle.aclgen_core.specs.LoadedWorkloads.{FilterFits, WorkloadsAreLoaded}
use Rattle.aclgen_core.specs.WorkloadFiles.{workload_files, workload_folder, workload_path}
use Rattle.aclgen_core.specs.WorkloadNames.{workload_naming}
use Rattle.aclgen_core.specs.WorkloadPolicies.{term_at, workload_text}
use Rattle.aclgen_core.proofs.FilterCounts.{cisco_count, iptables_count, juniper_count, nftables_count}
use Rattle.aclgen_core.proofs.FilterLimits.{cisco_fits, filter_at, iptables_fits, juniper_fits, nftables_fits}
use Rattle.aclgen_core.proofs.NamingRead.{naming_loaded}
use Rattle.aclgen_core.proofs.PolicyRead.{policy_read, splice_at}
use Rattle.aclgen_core.proofs.ResolvedTerms.{first_small, is_resolved, no_slip, rest_small, terms_from}
use Rattle.aclgen_core.proofs.TermRules.{Expands, all_rules, cisco, cisco_expands, inet_rules, iptables, iptables_expands, juniper, juniper_expands, mixed_rules, nftables, nftables_expands, no_first_slip}
use Rattle.acl_target.specs.declared.targets.Kind.TheVariants.{Cisco, Juniper, Iptables, Nftables}

-- ---- the terms

no_slips : (n a m : ℕ) → a + m ≤ n → n ≤ 1024 → terms_slip (workload_naming n) (map term_meant (map term_at (range_with_len a m))) ≡ None
no_slips n a zero within few = refl
no_slips n a (suc m) within few =
    ap (λ o. option_or o (terms_slip (workload_naming n) (map term_meant (map term_at (range_with_len (a + 1) m))))) (no_slip n a (omega (arith, within)) few)
    ∙ no_slips n (a + 1) m (omega (arith, within)) few

are_resolved : (n a m : ℕ) → a + m ≤ n → n ≤ 1024 → (room : a + m ≤ 1024)
    → AreResolved (workload_naming n) (map term_meant (map term_at (range_with_len a m))) (terms_from a m room)
unfolding terms_from
are_resolved n a zero within few room = tt
are_resolved n a (suc m) within few room =
    (is_resolved n a (omega (arith, within)) few (first_small a m room), are_resolved n (a + 1) m (omega (arith, within)) few (rest_small a m room))

-- ---- the whole

all_room : (n : ℕ) → n ≤ 1024 → 0 + n ≤ 1024
all_room n few = omega (arith, few)

abbrev loaded_at : (n : ℕ) → n ≤ 1024 → Loaded
loaded_at n few = record {
  definitions = workload_naming n;
  sources = splice_at n;
  policy = text_meant (workload_text n);
  terms = terms_from 0 n (all_room n few) ∷ [];
}

no_fault : (n : ℕ) → n ≤ 1024 → blocks_slip (workload_naming n) (text_meant (workload_text n)).blocks ≡ None
no_fault n few = ap (λ o. option_or o None) (no_slips n 0 n (omega arith) few)

resolves : (n : ℕ) (few : n ≤ 1024)
    → Resolves (workload_naming n) (record { sources = splice_at n; policy = text_meant (workload_text n) }) (Ok (loaded_at n few))
resolves n few =
    subst (λ o. ResolvesWith o (workload_naming n) (record { sources = splice_at n; policy = text_meant (workload_text n) }) (Ok (loaded_at n few)))
    (sym (no_fault n few))
    (record {
      definitions_are = refl;
      sources_are = refl;
      policy_is = refl;
      terms_are = (are_resolved n 0 n (omega arith) few (all_room n few), tt);
    })

loads : (n : ℕ) → 0 < n → (few : n ≤ 1024) → LoadsPolicy workload_folder workload_path (workload_files n) (Ok (loaded_at n few))
loads n some few = (
  Ok (workload_naming n),
  naming_loaded n few,
  subst (λ text. FirstFaultOr (Resolves (workload_naming n)) text (Ok (loaded_at n few))) (sym (policy_read n some few)) (resolves n few),
)

filter_is : (target : Target) (rules_at : ℕ → List Rule) → Expands target rules_at → (today : Day) (n : ℕ) (few : n ≤ 1024)
    → filter_of target today (terms_from 0 n (all_room n few)) ≡ filter_at target rules_at n
filter_is target rules_at h today n few = ap (filter_with target) (all_rules target rules_at h today 0 n (all_room n few))

filter_fits : (target : Target) (rules_at : ℕ → List Rule) → Expands target rules_at → (today : Day) (n : ℕ) (few : n ≤ 1024)
    → limit_of (filter_at target rules_at n) ≡ None → FilterFits today (terms_from 0 n (all_room n few)) target
filter_fits target rules_at h today n few fits =
    (no_first_slip target rules_at h today n (all_room n few), ap limit_of (filter_is target rules_at h today n few) ∙ fits)

filter_counts : (target : Target) (rules_at : ℕ → List Rule) → Expands target rules_at → (today : Day) (n : ℕ) (few : n ≤ 1024) (k : ℕ)
    → count_of (filter_at target rules_at n) ≡ k → count_of (filter_of target today (terms_from 0 n (all_room n few))) ≡ k
filter_counts target rules_at h today n few k counted = ap count_of (filter_is target rules_at h today n few) ∙ counted

pub workloads_loaded : WorkloadsAreLoaded
workloads_loaded n some few = (
  loaded_at n few,
  record {
    loads = loads n some few;
    policy_is = refl;
    terms = terms_from 0 n (all_room n few);
    terms_are = refl;
    filters_fit = λ today. (
      filter_fits cisco (mixed_rules Cisco) cisco_expands today n few (cisco_fits n some few),
      (
        filter_fits juniper (inet_rules Juniper) juniper_expands today n few (juniper_fits n some few),
        (
          filter_fits iptables (inet_rules Iptables) iptables_expands today n few (iptables_fits n some few),
          (filter_fits nftables (mixed_rules Nftables) nftables_expands today n few (nftables_fits n some few), tt),
        ),
      ),
    );
    counts_are = λ today i.
        filter_counts cisco (mixed_rules Cisco) cisco_expands today n few (4 * n) (cisco_count n some few) i
        ∷ filter_counts juniper (inet_rules Juniper) juniper_expands today n few (5 * n) (juniper_count n some few) i
        ∷ filter_counts iptables (inet_rules Iptables) iptables_expands today n few (3 * n) (iptables_count n few) i
        ∷ filter_counts nftables (mixed_rules Nftables) nftables_expands today n few (12 * n) (nftables_count n few) i ∷ [];
  },
)
