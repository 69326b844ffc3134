-- A workload has no fault: its files are loaded, and each of its filters can be written.
use Rattle.std.specs.Prelude.{◌≡◌, ℕ, ◌*◌, ◌<◌, ◌≤◌, List, [], ◌∷◌, map, flat_map, None, Ok}
use Rattle.std.specs.List.{AllByRecursion}
use Rattle.acl_host.specs.declared.days.Day.{Day}
use Rattle.acl_target.specs.declared.targets.Target.{Target}
use Rattle.acl_terms.specs.declared.terms.Term.{Term}
use Rattle.acl_expand.specs.Expansions.{filter_of}
use Rattle.acl_expand.specs.ExpansionSlips.{first_slip}
use Rattle.acl_load.specs.declared.policy_loading.Loaded.{Loaded}
use Rattle.acl_load.specs.LoadedPolicies.{LoadsPolicy}
use Rattle.acl_filters.specs.PlatformFiles.{count_of, limit_of}
use Rattle.policy_grammar.specs.PolicyTexts.{header_item_targets, text_meant}
use Rattle.aclgen_core.specs.WorkloadFiles.{workload_files, workload_folder, workload_path}
use Rattle.aclgen_core.specs.WorkloadPolicies.{header_items, workload_text}

-- The terms have no slip on the target, and their filter meets no limit of its platform.
abbrev pub FilterFits : Day → List Term → Target → Type 0
FilterFits today terms target =
    (first_slip target today terms ≡ None) × (limit_of (filter_of target today terms) ≡ None)

-- The targets of the policy's block, and the entries of their filters in this order.
abbrev pub workload_targets : List Target
workload_targets = flat_map header_item_targets header_items

abbrev pub workload_counts : ℕ → List ℕ
workload_counts n = 4 * n ∷ 5 * n ∷ 3 * n ∷ 12 * n ∷ []

-- It is what is loaded of the workload of so many terms: its policy is that of the text, in one block, whose filters fit and
-- have the counts, whatever the day.
pub record IsLoadedWorkload (n : ℕ) (loaded : Loaded) : Type 0 where
  pub loads : LoadsPolicy workload_folder workload_path (workload_files n) (Ok loaded)
  pub policy_is : loaded.policy ≡ text_meant (workload_text n)
  pub terms : List Term
  pub terms_are : loaded.terms ≡ terms ∷ []
  pub filters_fit : (today : Day) → AllByRecursion (FilterFits today terms) workload_targets
  pub counts_are : (today : Day) → map (λ target. count_of (filter_of target today terms)) workload_targets ≡ workload_counts n

-- Each workload from 1 to 1,024 terms is so.
abbrev pub WorkloadsAreLoaded : Type 0
WorkloadsAreLoaded = (n : ℕ) → 0 < n → n ≤ 1024 → (loaded : Loaded) × IsLoadedWorkload n loaded
