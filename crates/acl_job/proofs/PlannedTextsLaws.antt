-- The text of each file of a plan: it spells the sections of the file's filters, which decide as the policy does.
use Rattle.std.proofs.Common.{◌≡◌, ℕ, List, [], ◌∷◌, map, Option, None, Some, Ok, Err, sym, subst, ◌∙◌}
use Rattle.std.specs.List.{All, AllByRecursion}
use Rattle.std.proofs.lemmas.List.{length-map}
use Rattle.std.proofs.lemmas.List.Elements.{recursion_from_All}
use Rattle.acl_host.specs.declared.days.Day.{Day}
use Rattle.acl_host.specs.Files.{File}
use Rattle.acl_naming.specs.Definitions.{Naming}
use Rattle.acl_target.specs.declared.targets.Kind.{Kind}
use Rattle.acl_policy.specs.Conditions.{IsBlock}
use Rattle.acl_platform.specs.Platforms.{DecidesAs}
use Rattle.acl_filters.specs.PlatformLanguages.{IsDocumentFor, SectionOn, outcome_on}
use Rattle.acl_load.specs.declared.policy_loading.Loaded.{Loaded}
use Rattle.acl_load.specs.LoadedPolicies.{AreResolved, LoadedStands}
use Rattle.acl_load.proofs.AnswersThere.{loaded-stands}
use Rattle.acl_filters.specs.PlatformFiles.{AreApart, IsTaken, sections_on, text_on}
use Rattle.acl_filters.proofs.MeantTextsLaws.{sections-meant}
use Rattle.acl_options.specs.CommandLines.{Options}
use Rattle.acl_options.specs.ComputableOptions.{options_of}
use Rattle.acl_filters.specs.AskedFilters.{FilterRequest}
use Rattle.acl_filters.specs.FilterMeanings.{DecidesAsPolicy}
use Rattle.acl_filters.specs.FilterRequests.{filter_for, loaded_slip, requests_of, requests_on}
use Rattle.acl_job.specs.Job.{IsJobOf, Plan, Plans, file_with, files_on, job_slip, plan_of, platforms}
use Rattle.acl_run.specs.Told.{or_day}
use Rattle.acl_job.specs.FilterPaths.{path_of}
use Rattle.acl_job.specs.PlannedTexts.{IsOfSections, PlannedTextsAreOfSections}
use Rattle.acl_filters.specs.CheckedFilters.{IsTakenFor}
use Rattle.acl_job.specs.ShadedSlips.{asked_shaded}
use Rattle.acl_job.proofs.PlanningLaws.{all-flat}
use Rattle.acl_filters.proofs.ApartLaws.{all-on, all-taken, apart-on}
use Rattle.acl_filters.proofs.FilterLaws.{first-none, requests-taken, targets-stand}
use Rattle.acl_filters.proofs.MeantFilters.{decides-at, resolved-requests}
use Rattle.acl_job.proofs.RemovalLaws.{planned-none}

-- ---- a file

-- What is asked of the filters is what the policy asks of their sections.
as-policy : (n : Naming) (today : Day) (kind : Kind) (rs : List FilterRequest) (text : List ℕ) (doc : List (SectionOn kind))
    → AllByRecursion (λ (r : FilterRequest). AreResolved n r.written r.terms) rs
    → IsDocumentFor kind DecidesAs (map (filter_for today) rs) text doc → IsDocumentFor kind (DecidesAsPolicy n today) rs text doc
as-policy n today kind rs text doc resolved h = record {
  spelled = h.spelled;
  one_each = h.one_each ∙ length-map rs (filter_for today);
  decides = λ k. decides-at n today rs k (outcome_on kind doc k) resolved (h.decides k);
}

file-is : (n : Naming) (today : Day) (kind : Kind) (path : List ℕ) (rs : List FilterRequest)
    → AllByRecursion (λ (r : FilterRequest). AreResolved n r.written r.terms) rs
    → All (IsTaken kind) (map (filter_for today) rs) → AreApart (map (filter_for today) rs)
    → AllByRecursion (IsOfSections n today) (file_with kind path rs)
file-is n today kind path [] resolved taken apart = tt
file-is n today kind path (r ∷ rs) resolved taken apart =
    let filters = map (filter_for today) (r ∷ rs) in
    (as-policy n today kind (r ∷ rs) (text_on kind filters) (sections_on kind filters) resolved (sections-meant kind filters taken apart), tt)

-- ---- the plan of a job

files-are : (o : Options) (today : Day) (loaded : Loaded) → LoadedStands loaded → loaded_slip today loaded ≡ None
    → AllByRecursion (IsOfSections loaded.definitions today) (plan_of o today loaded).files
files-are o today loaded stands none =
    let n = loaded.definitions in
    let all = requests_of loaded in
    let blocks = recursion_from_All IsBlock loaded.policy.blocks stands.policy_fits.blocks_are in
    let taken = requests-taken today all (targets-stand loaded.policy.blocks loaded.terms blocks) none in
    let resolved = resolved-requests n loaded.policy.blocks loaded.terms stands.resolved in
    all-flat (IsOfSections n today) (files_on o all)
    (λ k. file-is n today k (path_of k o.output o.policy) (requests_on k all)
    (all-on k (λ r. AreResolved n r.written r.terms) (λ r. AreResolved n r.written r.terms) (λ r _ x. x) all resolved)
    (all-taken today k (requests_on k all)
    (all-on k (IsTakenFor today) (λ r. IsTaken k (filter_for today r)) (λ r e t. subst (λ kind. IsTaken kind (filter_for today r)) e t) all taken))
    (apart-on today n loaded.policy loaded.terms k stands.policy_fits stands.resolved)) platforms

plan-is : (o : Options) (today : Day) (files : List File) (plan : Plan) → Plans o today files (Ok plan)
    → AllByRecursion (IsOfSections plan.naming plan.today) plan.files
plan-is o today files plan (Ok loaded, loads, is) =
    let made = planned-none loaded.sources.labels (job_slip o today loaded) (plan_of o today loaded) plan (sym is) in
    let clean = first-none (loaded_slip today loaded) (asked_shaded o.shade_check today loaded) made.0 in
    subst (λ (x : Plan). AllByRecursion (IsOfSections x.naming x.today) x.files) (sym made.1)
    (files-are o today loaded (loaded-stands o.definitions o.policy files loaded loads) clean.0)
plan-is o today files plan (Err fault, loads, is) = absurd (other is)
  where
    other : Ok plan ≡ Err fault → ⊥
    other e = cc

pub planned-texts : PlannedTextsAreOfSections
planned-texts words day files plan job = by (options_of words) job
  where
    by : (o : Option Options) → IsJobOf o day files (Some (Ok plan)) → AllByRecursion (IsOfSections plan.naming plan.today) plan.files
    by None h = absurd h
    by (Some o) h = plan-is o (or_day o.date day) files plan h
