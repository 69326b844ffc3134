-- The job of the workload: it has a plan, and so no fault.
use Rattle.std.proofs.Common.{◌≡◌, ℕ, ◌<◌, ◌≤◌, pos, List, [], ◌∷◌, ◌++◌, map, flat_map, Option, None, Some, option_map, Result, Ok, Err, refl, ap, sym, subst, ◌∙◌, arith}
use Rattle.std.specs.List.{AllByRecursion}
use Rattle.std.proofs.lemmas.Int.{ints}
use Rattle.std.specs.Option.{option_or}
use Rattle.acl_text.specs.declared.faults.Fault.{Fault}
use Rattle.acl_host.specs.declared.days.Day.{Day}
use Rattle.acl_host.specs.Files.{File}
use Rattle.acl_host.proofs.NamedDayLaws.{same-day}
use Rattle.acl_policy.specs.declared.blocks.Policy.{Policy}
use Rattle.acl_policy.specs.RawTerms.{RawTerm}
use Rattle.acl_target.specs.declared.targets.Target.{Target}
use Rattle.acl_terms.specs.declared.terms.Term.{Term}
use Rattle.acl_load.specs.declared.load_faults.LoadFault.{LoadFault}
use Rattle.acl_load.specs.declared.load_faults.LoadFault.TheVariants as loads
use Rattle.acl_load.specs.declared.policy_loading.Loaded.{Loaded}
use Rattle.acl_expand.specs.Expansions.{filter_of}
use Rattle.acl_options.specs.CommandLines.{Options}
use Rattle.acl_filters.specs.PlatformFiles.{count_of}
use Rattle.policy_grammar.specs.PolicyTexts.{block_meant, text_meant}
use Rattle.aclgen_core.specs.LoadedWorkloads.{FilterFits, IsLoadedWorkload, workload_counts, workload_targets}
use Rattle.aclgen_core.specs.WorkloadFiles.{workload_files}
use Rattle.aclgen_core.specs.WorkloadPolicies.{block_text, workload_text}
use Rattle.aclgen_core.proofs.LoadedWorkloads.{workloads_loaded}
use Rattle.acl_filters.specs.AskedFilters.{FilterRequest}
use Rattle.acl_filters.specs.FilterRequests.{check_slip, filter_for, limit_slip, loaded_slip, request_of, request_slip, requests_in, requests_slip}
use Rattle.acl_job.specs.Job.{Plan, Plans, files_on, job_slip, or_slip, plan_of, platforms}
use Rattle.acl_job.specs.Works.{MakesWork}
use Rattle.aclgen_core.specs.WorkloadPlans.{WorkloadsHaveNoFault, entries_of, MakesWorkload, PlansWorkload, workload_options}
use Rattle.acl_job.specs.declared.planning.Work.{Work}
use Rattle.acl_job.proofs.OneAnswer.{same-plan}

-- What is planned for a day of that number is planned for each.
on-day : (n : ℕ) (o : Options) (today : Day) (answer : Result Plan Fault) → o ≡ workload_options → today.number ≡ pos 20454
    → Plans o today (workload_files n) answer → PlansWorkload n answer
on-day n o today answer is number plans = λ day e.
    subst (λ d. Plans workload_options d (workload_files n) answer) (same-day today day (number ∙ sym e))
    (subst (λ x. Plans x today (workload_files n) answer) is plans)

abbrev first_day : Day
first_day = record { number = pos 20454; from_year_1 = omega (arith, ints); to_year_9999 = omega (arith, ints) }

-- ---- it has a plan

request-fits : (today : Day) (written : List RawTerm) (terms : List Term) (target : Target) → FilterFits today terms target
    → request_slip today (request_of written terms target) ≡ None
unfolding check_slip
request-fits today written terms target h =
    ap (λ o. option_or o (check_slip (filter_of target today terms))) h.0
    ∙ ap (option_map (limit_slip (filter_of target today terms))) h.1

targets-fit : (today : Day) (written : List RawTerm) (terms : List Term) (targets : List Target) (rest : List FilterRequest)
    → AllByRecursion (FilterFits today terms) targets → requests_slip today rest ≡ None
    → requests_slip today (map (request_of written terms) targets ++ rest) ≡ None
targets-fit today written terms [] rest h none = none
targets-fit today written terms (target ∷ targets) rest h none =
    ap (λ o. option_or o (requests_slip today (map (request_of written terms) targets ++ rest))) (request-fits today written terms target h.0)
    ∙ targets-fit today written terms targets rest h.1 none

no-slip : (today : Day) (loaded : Loaded) → loaded_slip today loaded ≡ None → job_slip workload_options today loaded ≡ None
no-slip today loaded h = ap (λ o. option_or o None) h

-- The requests of a policy of this one block, with these terms.
abbrev requests-by : Policy → List (List Term) → List FilterRequest
requests-by policy lists = requests_in policy.blocks lists

-- What is asked for in the files, of which each has the filters of its platform.
abbrev entries-by : List FilterRequest → List (List ℕ)
entries-by requests = map (λ f. map (λ r. count_of (filter_for first_day r)) f.requests) (flat_map (files_on workload_options requests) platforms)

requests-are : (n : ℕ) (loaded : Loaded) (h : IsLoadedWorkload n loaded)
    → requests-by loaded.policy loaded.terms ≡ requests-by (text_meant (workload_text n)) (h.terms ∷ [])
requests-are n loaded h =
    ap (λ (p : Policy). requests-by p loaded.terms) h.policy_is ∙ ap (requests-by (text_meant (workload_text n))) h.terms_are

all-fit : (n : ℕ) (loaded : Loaded) (h : IsLoadedWorkload n loaded) → loaded_slip first_day loaded ≡ None
all-fit n loaded h =
    ap (requests_slip first_day) (requests-are n loaded h)
    ∙ targets-fit first_day (block_meant (block_text n)).terms h.terms workload_targets [] (h.filters_fit first_day) refl

entries-are : (n : ℕ) (loaded : Loaded) (h : IsLoadedWorkload n loaded)
    → entries_of (plan_of workload_options first_day loaded) ≡ map (λ k. k ∷ []) (workload_counts n)
entries-are n loaded h = ap entries-by (requests-are n loaded h) ∙ ap (map (λ k. k ∷ [])) (h.counts_are first_day)

pub workloads_planned : WorkloadsHaveNoFault
workloads_planned n some few =
    let w = workloads_loaded n some few in
    let plan = plan_of workload_options first_day w.0 in (
      plan,
      on-day n workload_options first_day (Ok plan) refl refl
          (Ok w.0, w.1.loads, sym (ap (λ slip. or_slip w.0.sources.labels slip plan) (no-slip first_day w.0 (all-fit n w.0 w.1)))),
      entries-are n w.0 w.1,
    )

-- ---- so no fault

plan_only : (n : ℕ) (fault : Fault) → 0 < n → n ≤ 1024 → PlansWorkload n (Err fault) → ⊥
plan_only n fault some few h =
    let w = workloads_planned n some few in
    ok_err w.0 fault (same-plan workload_options first_day (workload_files n) (Ok w.0) (Err fault) (w.1 first_day refl) (h first_day refl))
  where
    ok_err : (plan : Plan) (fault : Fault) → Ok plan ≡ Err fault → ⊥
    ok_err plan fault e = cc

pub makes-workload : (n : ℕ) (o : Options) (today : Day) (told : Option (List File)) (work : Work) → o ≡ workload_options
    → today.number ≡ pos 20454 → told ≡ Some (workload_files n) → MakesWork o today told (Ok work) → MakesWorkload n work
makes-workload n o today told work is number files made =
    let p = (subst (λ (t : Option (List File)). MakesWork o today t (Ok work)) files made).0 in
    (p.0, on-day n o today (Ok p.0) is number p.1, p.2)

pub no-workload-fault : (n : ℕ) (o : Options) (today : Day) (told : Option (List File)) (given : LoadFault) (fault : Fault) → 0 < n → n ≤ 1024
    → o ≡ workload_options → today.number ≡ pos 20454 → told ≡ Some (workload_files n) → given ≡ loads.Fault fault → MakesWork o today told (Err given) → ⊥
no-workload-fault n o today told given fault some few is number files same made =
    plan_only n fault some few (on-day n o today (Err fault) is number
    (subst (λ (t : Option (List File)). MakesWork o today t (Err (loads.Fault fault))) files
    (subst (λ (e : LoadFault). MakesWork o today told (Err e)) same made)))
