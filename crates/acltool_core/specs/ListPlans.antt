-- What a policy asks for as a text of standard lists: the filters of its Cisco targets of IPv4, or the first slip.
use Rattle.std.specs.Prelude.{◌≡◌, ◌&&◌, ℕ, nat_lt, Bool, List, [], ◌∷◌, filter, map, if◌then◌else◌, Option, None, Some, option_map, Result}
use Rattle.std.specs.Option.{option_or}
use Rattle.acl_text.specs.declared.faults.Code.TheVariants as codes_of
use Rattle.acl_text.specs.declared.faults.Fault.{Fault}
use Rattle.acl_text.specs.declared.faults.Slip.{Slip}
use Rattle.acl_text.specs.declared.wholes.Whole.{Whole}
use Rattle.acl_text.specs.Refusals.{first_in, slip}
use Rattle.acl_host.specs.declared.days.Day.{Day}
use Rattle.acl_host.specs.Files.{File}
use Rattle.acl_naming.specs.Definitions.{Naming}
use Rattle.acl_target.specs.declared.targets.Kind.TheVariants.{Cisco}
use Rattle.acl_target.specs.declared.targets.Target.{Target}
use Rattle.acl_target.specs.Clashes.{same_kind}
use Rattle.acl_platform.specs.declared.filters.Filter.{Filter}
use Rattle.acl_expand.specs.ExpansionSlips.{first_slip}
use Rattle.acl_load.specs.declared.policy_loading.Loaded.{Loaded}
use Rattle.acl_filters.specs.AskedFilters.{FilterRequest}
use Rattle.acl_filters.specs.FilterRequests.{filter_for, limit_slip, requests_of}
use Rattle.std_lang.specs.Texts.{text_of}
use Rattle.gen_acltool.specs.Limits.{is_inet, limit_of}
use Rattle.gen_acltool.specs.Sections.{section_of}
use Rattle.acl_options.specs.Commands.{Inputs}
use Rattle.acl_run.specs.Finishing.{IsTextOf}
use Rattle.acl_run.specs.PolicyAnswers.{AnswersPolicy}
use Rattle.acltool_core.specs.ListMeanings.{MeansLists, number_from}

-- ---- what is asked for

-- A Cisco target of IPv4, `cisco NAME extended`. The others are passed over.
abbrev pub is_listed : FilterRequest → Bool
is_listed r = same_kind r.target.kind Cisco && is_inet r.target.families

abbrev pub listed : List FilterRequest → List FilterRequest
listed rs = filter is_listed rs

-- ---- the first slip

-- A standard list has a number up to 99.
abbrev pub number_slip : ℕ → Target → Option Slip
number_slip first t =
    if nat_lt 99 (number_from first t) then Some (slip codes_of.NumberRange t.place t.name) else None

-- The limit that a filter meets as a standard list.
abbrev pub list_slip : Filter → Option Slip
list_slip f = option_map (limit_slip f) (limit_of f)

-- The slip of the target's number, else of the terms on it, else the limit that their filter meets.
abbrev pub listed_slip : ℕ → Day → FilterRequest → Option Slip
listed_slip first today r = option_or (number_slip first r.target)
    (option_or (first_slip r.target today r.terms) (list_slip (filter_for today r)))

-- One target after the other, in order.
abbrev pub lists_slip : ℕ → Day → List FilterRequest → Option Slip
lists_slip first today rs = first_in (listed_slip first today) (listed rs)

-- ---- the answer

-- The filters that are asked for, in the order of their targets, over the definitions and the day; and the number of the
-- first list.
pub record ListPlan : Type 0 where
  pub naming : Naming
  pub first : ℕ
  pub today : Day
  pub requests : List FilterRequest

abbrev pub plan_of : ℕ → Day → Loaded → ListPlan
plan_of first today loaded = record {
  naming = loaded.definitions;
  first = first;
  today = today;
  requests = listed (requests_of loaded);
}

-- The first fault of loading the policy, else of its targets; or the filters.
abbrev pub Lists : Inputs → ℕ → Day → List File → Result ListPlan Fault → Type 0
Lists inputs first today files answer = AnswersPolicy inputs.definitions inputs.policy
    (λ l. lists_slip first today (requests_of l)) (plan_of first today) files answer

-- ---- its text

-- The text of the filters' lists, one behind the other.
abbrev pub lists_text : ℕ → Day → List FilterRequest → List ℕ
lists_text first today rs = text_of (map (section_of first) (map (filter_for today) rs))

abbrev pub text_with : ℕ → Day → List FilterRequest → Option (List ℕ)
text_with first today [] = None
text_with first today (r ∷ rs) = Some (lists_text first today (r ∷ rs))

-- Where there is no target, there is nothing to tell.
abbrev pub listed_text : ListPlan → Option (List ℕ)
listed_text plan = text_with plan.first plan.today plan.requests

-- What the text means, with or without targets.
abbrev pub MeansPlan : ListPlan → Type 0
MeansPlan plan =
    MeansLists plan.naming plan.first plan.today plan.requests (lists_text plan.first plan.today plan.requests)

-- The text of a plan is ready to be told.
abbrev pub IsReady : ListPlan → Option Whole → Type 0
IsReady = IsTextOf listed_text MeansPlan
