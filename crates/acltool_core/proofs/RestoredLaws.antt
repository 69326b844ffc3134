-- The filters that are asked for can be written, and their text means what the policy says.
use Rattle.std.proofs.Common.{◌≡◌, ◌≢◌, ℕ, Bool, true, false, ◌&&◌, ◌==◌, if◌then◌else◌, List, [], ◌∷◌, filter, map, not, length, slice_get, Option, None, Some, IfSome, Result, Ok, Err, refl, ap, sym, subst, ◌∙◌}
use Rattle.std.specs.Prelude.{flat_map}
use Rattle.std.specs.Str.{bytes_eq}
use Rattle.std.specs.List.{All, AllByRecursion, IsDistinct}
use Rattle.std.proofs.lemmas.Bool.{and_from}
use Rattle.std.proofs.lemmas.List.{length-map}
use Rattle.std.proofs.lemmas.List.Elements.{All-from_recursion, All-weaker, recursion_from_All}
use Rattle.std.proofs.lemmas.Option.{none-some}
use Rattle.std.specs.Option.{option_or}
use Rattle.acl_packet.specs.declared.addresses.Family.{Family}
use Rattle.acl_packet.specs.Addresses.{covers}
use Rattle.acl_text.specs.declared.faults.Code.TheVariants as codes_of
use Rattle.acl_text.specs.declared.faults.Fault.{Fault}
use Rattle.acl_text.specs.declared.faults.Rejection.TheVariants as rejections
use Rattle.acl_text.specs.declared.faults.Slip.{Slip}
use Rattle.acl_text.specs.declared.wholes.Whole.{Whole}
use Rattle.acl_text.specs.Refusals.{first_in, slip, slip_fault}
use Rattle.acl_host.specs.declared.days.Day.{Day}
use Rattle.acl_naming.specs.Definitions.{Naming}
use Rattle.acl_target.specs.declared.targets.Kind.TheVariants.{Iptables}
use Rattle.acl_target.specs.declared.targets.Target.{Target}
use Rattle.acl_target.specs.Clashes.{clash, same_kind}
use Rattle.acl_target.specs.TargetData.{IsTarget}
use Rattle.acl_policy.specs.Conditions.{IsBlock, IsPolicy}
use Rattle.acl_platform.specs.declared.filters.Filter.{Filter}
use Rattle.acl_platform.specs.Limits.{filter_limit}
use Rattle.acl_platform.specs.Platforms.{DecidesAs, IsAccepted}
use Rattle.acl_platform.specs.SoundFilters.{target_of}
use Rattle.acl_platform.proofs.Sections.{all-decide, all-spelled}
use Rattle.acl_load.specs.declared.policy_loading.Loaded.{Loaded}
use Rattle.acl_load.specs.LoadedPolicies.{AreResolved, AreResolvedIn}
use Rattle.acl_filters.specs.PlatformFiles.{AreApart, IsTaken}
use Rattle.acl_filters.proofs.TakenFilters.{of-iptables}
use Rattle.acl_filters.specs.AskedFilters.{FilterRequest}
use Rattle.acl_filters.specs.CheckedFilters.{IsTakenFor}
use Rattle.acl_filters.specs.ChosenFilters.{AreChosen}
use Rattle.acl_filters.specs.FilterMeanings.{DecidesAsPolicy}
use Rattle.acl_filters.specs.FilterRequests.{filter_for, request_slip, requests_in, requests_of, requests_on, requests_slip}
use Rattle.acl_filters.proofs.ApartLaws.{all-by, all-taken}
use Rattle.acl_filters.proofs.FilterLaws.{both-none, first-none, requests-taken, targets-stand}
use Rattle.acl_filters.proofs.KeptRequests.{apart-of, both-by, kept, of-kind}
use Rattle.acl_filters.proofs.MeantFilters.{decides-at, resolved-requests}
use Rattle.ipt_lang.specs.Documents.{hook_names}
use Rattle.ipt_lang.specs.Walks.{outcome_of, section_outcome}
use Rattle.ipr_lang.specs.Documents.{IsSection}
use Rattle.ipr_lang.specs.Texts.{Spells, section_rows, text_of}
use Rattle.gen_iptables.specs.Limits.{limit_of}
use Rattle.gen_iptables.specs.Sections.{section_of}
use Rattle.gen_iptables.proofs.NameLaws.{all-differ}
use Rattle.gen_acltool.specs.RestoredFilters.{is_for_speedway, leaves_packets}
use Rattle.gen_acltool.proofs.RestoredSections.{restored_decides, section_is_spelled}
use Rattle.acl_run.specs.Finishing.{text_in}
use Rattle.acl_run.specs.PolicyAnswers.{MakesLoaded, answer_of, or_slip}
use Rattle.acltool_core.specs.RestoreMeanings.{MeansRestored}
use Rattle.acltool_core.specs.RestorePlans.{IsReady, MeansPlan, RestorePlan, is_restored, plan_of, policy_slip, restored, restored_slip, restored_text, restores_slip, sections_text, text_with}
use Rattle.acltool_core.specs.RestoringSteps.{AreRestorable, MakesOf, text_if}

-- ---- requests without a slip

none-left : (t : Target) → policy_slip t ≡ None → leaves_packets t.ending ≡ false
none-left t e = by (leaves_packets t.ending) e
  where
    by : (b : Bool) → (if b then Some (slip codes_of.NoPolicy t.place t.name) else None) ≡ None → b ≡ false
    by true h = absurd (none-some _ (sym h))
    by false h = refl

no-slips : (today : Day) (rs : List FilterRequest) → first_in (restored_slip today) rs ≡ None
    → AllByRecursion (λ (r : FilterRequest). leaves_packets r.target.ending ≡ false) rs × (requests_slip today rs ≡ None)
no-slips today [] e = (tt, refl)
no-slips today (r ∷ rs) e =
    let parts = first-none (restored_slip today r) (first_in (restored_slip today) rs) e in
    let own = first-none (policy_slip r.target) (request_slip today r) parts.0 in
    let more = no-slips today rs parts.1 in
    ((none-left r.target own.0, more.0), both-none (request_slip today r) (requests_slip today rs) own.1 more.1)

pub restorable : (family : Family) (today : Day) (loaded : Loaded) (filters : List Filter) → IsPolicy loaded.policy
    → AreResolvedIn loaded.definitions loaded.policy.blocks loaded.terms
    → AreChosen (is_restored family) (restored_slip today) today (requests_of loaded) filters → AreRestorable filters
restorable family today loaded filters fits resolved added =
    let all = requests_of loaded in
    let q : FilterRequest → Bool = λ r. covers r.target.families family in
    let rs = restored family all in
    let blocks = recursion_from_All IsBlock loaded.policy.blocks fits.blocks_are in
    let targets = kept (is_restored family) (λ r. IsTarget r.target) all (targets-stand loaded.policy.blocks loaded.terms blocks) in
    let clean = no-slips today rs added.no_slip in
    let taken = both-by (IsTakenFor today) (λ r. r.target.kind ≡ Iptables) (λ r. IsTaken Iptables (filter_for today r))
    (λ r t e. subst (λ kind. IsTaken kind (filter_for today r)) e t) rs (requests-taken today rs targets clean.1) (of-kind Iptables q all) in
    let says = all-by (filter_for today) (λ (r : FilterRequest). leaves_packets r.target.ending ≡ false) (λ (f : Filter). leaves_packets f.ending ≡ false)
    (λ r e. e) rs clean.0 in
    subst AreRestorable (sym added.filters_are) (record {
      taken = all-taken today Iptables rs taken;
      says = All-from_recursion (λ (f : Filter). leaves_packets f.ending ≡ false) (map (filter_for today) rs) says;
      apart = apart-of today loaded.definitions loaded.policy loaded.terms Iptables q fits resolved;
    })

-- ---- what the platform asks of them

is-accepted : (f : Filter) → IsTaken Iptables f → leaves_packets f.ending ≡ false → IsAccepted is_for_speedway limit_of f
is-accepted f t e = record {
  handled = and_from (same_kind f.kind Iptables) (not (leaves_packets f.ending)) (ap (λ k. same_kind k Iptables) t.kind_is) (ap not e);
  sound = t.sound;
  within = t.within;
}

are-accepted : (filters : List Filter) → AllByRecursion (IsTaken Iptables) filters → AllByRecursion (λ (f : Filter). leaves_packets f.ending ≡ false) filters
    → AllByRecursion (IsAccepted is_for_speedway limit_of) filters
are-accepted [] t s = tt
are-accepted (f ∷ fs) t s = (is-accepted f t.0 s.0, are-accepted fs t.1 s.1)

pub all-accepted : (filters : List Filter) → AreRestorable filters → AllByRecursion (IsAccepted is_for_speedway limit_of) filters
all-accepted filters h =
    are-accepted filters (recursion_from_All (IsTaken Iptables) filters h.taken)
    (recursion_from_All (λ (f : Filter). leaves_packets f.ending ≡ false) filters h.says)

pub names-differ : (filters : List Filter) → AreRestorable filters → IsDistinct bytes_eq (flat_map hook_names (map section_of filters))
names-differ filters h = all-differ filters false (of-iptables filters h.taken) h.apart.clash_not

-- ---- what their text means

means : (naming : Naming) (today : Day) (rs : List FilterRequest) → AllByRecursion (λ (r : FilterRequest). AreResolved naming r.written r.terms) rs
    → AreRestorable (map (filter_for today) rs) → MeansRestored naming today rs (sections_text today rs)
means naming today rs resolved h =
    let filters = map (filter_for today) rs in
    let accepted = all-accepted filters h in
    let doc = map section_of filters in (
      doc,
      record {
        spelled = all-spelled (IsAccepted is_for_speedway limit_of) IsSection hook_names section_rows section_of section_is_spelled filters accepted
            (names-differ filters h);
        one_each = length-map filters section_of ∙ length-map rs (filter_for today);
        decides = λ k. decides-at naming today rs k (outcome_of doc k) resolved
            (all-decide (IsAccepted is_for_speedway limit_of) section_outcome section_of restored_decides filters accepted k);
      },
    )

-- ---- what is made of the policy

same-text : (today : Day) (rs : List FilterRequest) → text_if (map (filter_for today) rs) ≡ text_with today rs
same-text today [] = refl
same-text today (r ∷ rs) = refl

pub made : (family : Family) (today : Day) (loaded : Loaded) (filters : List Filter) (work : Option Whole) → IsPolicy loaded.policy
    → AreResolvedIn loaded.definitions loaded.policy.blocks loaded.terms → AreChosen (is_restored family) (restored_slip today) today (requests_of loaded) filters → text_in work ≡ text_if filters
    → MakesOf family today loaded (Ok work)
made family today loaded filters work fits resolved added text =
    let rs = restored family (requests_of loaded) in
    let ready : IsReady (plan_of family today loaded) work = record {
      text_is = text ∙ ap text_if added.filters_are ∙ same-text today rs;
      means = means loaded.definitions today rs
          (kept (is_restored family) (λ r. AreResolved loaded.definitions r.written r.terms) (requests_of loaded)
          (resolved-requests loaded.definitions loaded.policy.blocks loaded.terms resolved))
          (subst AreRestorable added.filters_are (restorable family today loaded filters fits resolved added));
    } in
    subst (λ o. MakesLoaded IsReady (or_slip loaded.sources.labels o (plan_of family today loaded)) (Ok work)) (sym added.no_slip) ready

pub slipped : (family : Family) (today : Day) (loaded : Loaded) (s : Slip) (fault : Fault) → restores_slip family today (requests_of loaded) ≡ Some s
    → fault ≡ slip_fault loaded.sources.labels s → MakesOf family today loaded (Err (rejections.Fault fault))
slipped family today loaded s fault e is =
    subst (λ o. MakesLoaded IsReady (or_slip loaded.sources.labels o (plan_of family today loaded)) (Err (rejections.Fault fault))) (sym e)
    (ap Err (sym is))

pub wanted : (family : Family) (today : Day) (loaded : Loaded) → MakesOf family today loaded (Err rejections.Memory)
wanted family today loaded = by (answer_of (λ l. restores_slip family today (requests_of l)) (plan_of family today) loaded)
  where
    by : (given : Result RestorePlan Fault) → MakesLoaded IsReady given (Err rejections.Memory)
    by (Ok plan) = tt
    by (Err fault) = tt
