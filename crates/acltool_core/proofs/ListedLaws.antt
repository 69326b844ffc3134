-- The filters that are asked for become standard lists, and their text means what the policy says.
use Rattle.std.proofs.Common.{◌≡◌, ◌≤◌, ℕ, Bool, true, false, ◌&&◌, ◌+◌, if◌then◌else◌, List, [], ◌∷◌, filter, map, Option, None, Some, IfSome, option_map, Result, Ok, Err, refl, ap, sym, subst, ◌∙◌}
use Rattle.std.specs.Prelude.{nat_lt}
use Rattle.std.specs.Str.{bytes_eq}
use Rattle.std.specs.List.{All, AllByRecursion, IsDistinct}
use Rattle.std.proofs.lemmas.List.Elements.{All-from_recursion, recursion_from_All}
use Rattle.std.proofs.lemmas.Option.{none-some}
use Rattle.std.specs.Option.{option_or}
use Rattle.acl_text.specs.declared.faults.Code.TheVariants as codes_of
use Rattle.acl_text.specs.declared.wholes.Whole.{Whole}
use Rattle.acl_text.specs.Refusals.{first_in, slip}
use Rattle.acl_host.specs.declared.days.Day.{Day}
use Rattle.acl_naming.specs.Definitions.{Naming}
use Rattle.acl_target.specs.declared.targets.Kind.TheVariants.{Cisco}
use Rattle.acl_target.specs.declared.targets.Target.{Target}
use Rattle.acl_target.specs.Clashes.{same_kind}
use Rattle.acl_target.specs.TargetData.{IsTarget}
use Rattle.acl_policy.specs.Conditions.{IsBlock, IsPolicy}
use Rattle.acl_platform.specs.declared.filters.Filter.{Filter}
use Rattle.acl_platform.specs.declared.filters.Limit.{Limit}
use Rattle.acl_platform.specs.Platforms.{IsAccepted}
use Rattle.acl_platform.proofs.Sections.{all-decide, all-spelled}
use Rattle.acl_expand.specs.ExpansionSlips.{first_slip}
use Rattle.acl_expand.proofs.FilterLaws.{filter-sound}
use Rattle.acl_load.specs.declared.policy_loading.Loaded.{Loaded}
use Rattle.acl_load.specs.LoadedPolicies.{AreResolved, AreResolvedIn}
use Rattle.acl_filters.proofs.TakenFilters.{numbers-differ}
use Rattle.acl_filters.specs.AskedFilters.{FilterRequest}
use Rattle.acl_filters.specs.ChosenFilters.{AreChosen}
use Rattle.acl_filters.specs.FilterRequests.{filter_for, limit_slip, requests_of}
use Rattle.acl_filters.proofs.ApartLaws.{all-by}
use Rattle.acl_filters.proofs.FilterLaws.{first-none, targets-stand}
use Rattle.acl_filters.proofs.KeptRequests.{apart-of, are-kept, kept}
use Rattle.acl_filters.proofs.MeantFilters.{decides-at, resolved-requests}
use Rattle.std_lang.specs.Documents.{IsSection, list_names}
use Rattle.std_lang.specs.Texts.{section_rows}
use Rattle.std_lang.specs.Walks.{outcome_of, section_outcome}
use Rattle.gen_acltool.specs.Limits.{is_for_standard, is_inet, limit_of}
use Rattle.gen_acltool.specs.Sections.{section_of}
use Rattle.gen_acltool.proofs.DecisionLaws.{section_decides}
use Rattle.gen_acltool.proofs.ListNumbers.{lists_differ}
use Rattle.gen_acltool.proofs.SectionLaws.{section_is_spelled}
use Rattle.acl_run.specs.Finishing.{text_in}
use Rattle.acl_run.specs.PolicyAnswers.{MakesLoaded, answer_of, or_slip}
use Rattle.acltool_core.specs.ListMeanings.{MeansLists, number_from}
use Rattle.acltool_core.specs.ListPlans.{IsReady, ListPlan, is_listed, list_slip, listed, listed_slip, lists_slip, lists_text, number_slip, plan_of, text_with}
use Rattle.acltool_core.specs.ListingSteps.{AreListable, MakesOf, text_if}
use Rattle.acltool_core.proofs.ListedChoiceLaws.{handled}

-- ---- a target without a slip

in-range : (first : ℕ) (t : Target) → number_slip first t ≡ None → nat_lt 99 (number_from first t) ≡ false
in-range first t e = by (nat_lt 99 (number_from first t)) e
  where
    by : (b : Bool) → (if b then Some (slip codes_of.NumberRange t.place t.name) else None) ≡ None → b ≡ false
    by true none = absurd (none-some _ (sym none))
    by false none = refl

no-limit : (f : Filter) (o : Option Limit) → option_map (limit_slip f) o ≡ None → o ≡ None
no-limit f None e = refl
no-limit f (Some l) e = absurd (cc)

-- What a platform asks of a filter that becomes a list, and its number.
pub record IsListable (first : ℕ) (f : Filter) : Type 0 where
  pub accepted : IsAccepted (is_for_standard first) limit_of f
  pub numbered : 1 ≤ f.number

one-listable : (first : ℕ) (today : Day) (r : FilterRequest) → 1 ≤ first → IsTarget r.target → is_listed r ≡ true → listed_slip first today r ≡ None
    → IsListable first (filter_for today r)
one-listable first today r from target asked none =
    let own = first-none (number_slip first r.target) (option_or (first_slip r.target today r.terms) (list_slip (filter_for today r))) none in
    let more = first-none (first_slip r.target today r.terms) (list_slip (filter_for today r)) own.1 in
    record {
      accepted = record {
        handled = handled first r from asked (in-range first r.target own.0);
        sound = filter-sound r.target today r.terms target more.0;
        within = no-limit (filter_for today r) (limit_of (filter_for today r)) more.1;
      };
      numbered = target.number_from;
    }

all-listable : (first : ℕ) (today : Day) (rs : List FilterRequest) → 1 ≤ first → AllByRecursion (λ (r : FilterRequest). IsTarget r.target) rs
    → AllByRecursion (λ r. is_listed r ≡ true) rs → first_in (listed_slip first today) rs ≡ None
    → AllByRecursion (λ r. IsListable first (filter_for today r)) rs
all-listable first today [] from targets asked none = tt
all-listable first today (r ∷ rs) from targets asked none =
    let parts = first-none (listed_slip first today r) (first_in (listed_slip first today) rs) none in
    (one-listable first today r from targets.0 asked.0 parts.0, all-listable first today rs from targets.1 asked.1 parts.1)

pub listable : (first : ℕ) (today : Day) (loaded : Loaded) (filters : List Filter) → 1 ≤ first → IsPolicy loaded.policy
    → AreResolvedIn loaded.definitions loaded.policy.blocks loaded.terms
    → AreChosen is_listed (listed_slip first today) today (requests_of loaded) filters → AreListable first filters
listable first today loaded filters from fits resolved chosen =
    let all = requests_of loaded in
    let rs = listed all in
    let fs = map (filter_for today) rs in
    let blocks = recursion_from_All IsBlock loaded.policy.blocks fits.blocks_are in
    let targets = kept is_listed (λ r. IsTarget r.target) all (targets-stand loaded.policy.blocks loaded.terms blocks) in
    let each = all-by (filter_for today) (λ r. IsListable first (filter_for today r)) (IsListable first) (λ r h. h) rs
    (all-listable first today rs from targets (are-kept is_listed all) chosen.no_slip) in
    let apart = apart-of today loaded.definitions loaded.policy loaded.terms Cisco (λ (r : FilterRequest). is_inet r.target.families) fits resolved in
    subst (AreListable first) (sym chosen.filters_are) (record {
      accepted = All-from_recursion (IsAccepted (is_for_standard first) limit_of) fs (of-each (λ f h. h.accepted) fs each);
      names_differ = lists_differ first fs false (of-each (λ f h. (h.accepted.handled, h.numbered)) fs each) (numbers-differ fs apart.numbers_differ);
    })
  where
    of-each : {Q : Filter → Type 0} → ((f : Filter) → IsListable first f → Q f) → (xs : List Filter) → AllByRecursion (IsListable first) xs → AllByRecursion Q xs
    of-each g [] h = tt
    of-each g (x ∷ xs) h = (g x h.0, of-each g xs h.1)

-- ---- what their text means

numbers-are : (first : ℕ) (today : Day) (rs : List FilterRequest)
    → map (λ s. s.number) (map (section_of first) (map (filter_for today) rs)) ≡ map (λ (r : FilterRequest). number_from first r.target) rs
numbers-are first today [] = refl
numbers-are first today (r ∷ rs) = ap (λ ns. number_from first r.target ∷ ns) (numbers-are first today rs)

means : (first : ℕ) (naming : Naming) (today : Day) (rs : List FilterRequest)
    → AllByRecursion (λ (r : FilterRequest). AreResolved naming r.written r.terms) rs → AreListable first (map (filter_for today) rs)
    → MeansLists naming first today rs (lists_text first today rs)
means first naming today rs resolved h =
    let filters = map (filter_for today) rs in
    let accepted = recursion_from_All (IsAccepted (is_for_standard first) limit_of) filters h.accepted in
    let doc = map (section_of first) filters in (
      doc,
      record {
        spelled = all-spelled (IsAccepted (is_for_standard first) limit_of) IsSection list_names section_rows (section_of first) (section_is_spelled first) filters accepted
            h.names_differ;
        numbers_are = numbers-are first today rs;
        decides = λ k. decides-at naming today rs k (outcome_of doc k) resolved
            (all-decide (IsAccepted (is_for_standard first) limit_of) section_outcome (section_of first) (section_decides first) filters accepted k);
      },
    )

-- ---- what is made of the policy

same-text : (first : ℕ) (today : Day) (rs : List FilterRequest) → text_if first (map (filter_for today) rs) ≡ text_with first today rs
same-text first today [] = refl
same-text first today (r ∷ rs) = refl

pub made : (first : ℕ) (today : Day) (loaded : Loaded) (filters : List Filter) (work : Option Whole)
    → AreResolvedIn loaded.definitions loaded.policy.blocks loaded.terms
    → AreChosen is_listed (listed_slip first today) today (requests_of loaded) filters → AreListable first filters
    → text_in work ≡ text_if first filters → MakesOf first today loaded (Ok work)
made first today loaded filters work resolved chosen fit text =
    let rs = listed (requests_of loaded) in
    let ready : IsReady (plan_of first today loaded) work = record {
      text_is = text ∙ ap (text_if first) chosen.filters_are ∙ same-text first today rs;
      means = means first loaded.definitions today rs
          (kept is_listed (λ r. AreResolved loaded.definitions r.written r.terms) (requests_of loaded)
          (resolved-requests loaded.definitions loaded.policy.blocks loaded.terms resolved))
          (subst (AreListable first) chosen.filters_are fit);
    } in
    subst (λ o. MakesLoaded IsReady (or_slip loaded.sources.labels o (plan_of first today loaded)) (Ok work)) (sym chosen.no_slip) ready
