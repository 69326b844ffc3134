-- What a policy asks for as a text for iptables-restore: the filters of its iptables targets of a family, or the first slip.
use Rattle.std.specs.Prelude.{◌≡◌, ◌&&◌, ℕ, Bool, List, [], ◌∷◌, filter, map, if◌then◌else◌, Option, None, Some, Result}
use Rattle.std.specs.Option.{option_or}
use Rattle.acl_packet.specs.declared.addresses.Family.{Family}
use Rattle.acl_packet.specs.Addresses.{covers}
use Rattle.acl_text.specs.declared.faults.Code.TheVariants as codes_of
use Rattle.acl_text.specs.declared.faults.Fault.{Fault}
use Rattle.acl_text.specs.declared.faults.Slip.{Slip}
use Rattle.acl_text.specs.declared.wholes.Whole.{Whole}
use Rattle.acl_text.specs.Refusals.{first_in, slip}
use Rattle.acl_host.specs.declared.days.Day.{Day}
use Rattle.acl_host.specs.Files.{File}
use Rattle.acl_naming.specs.Definitions.{Naming}
use Rattle.acl_target.specs.declared.targets.Kind.TheVariants.{Iptables}
use Rattle.acl_target.specs.declared.targets.Target.{Target}
use Rattle.acl_target.specs.Clashes.{same_kind}
use Rattle.acl_load.specs.declared.policy_loading.Loaded.{Loaded}
use Rattle.acl_filters.specs.AskedFilters.{FilterRequest}
use Rattle.acl_filters.specs.FilterRequests.{filter_for, request_slip, requests_of}
use Rattle.ipr_lang.specs.Texts.{text_of}
use Rattle.gen_iptables.specs.Sections.{section_of}
use Rattle.gen_acltool.specs.RestoredFilters.{leaves_packets}
use Rattle.acl_options.specs.Commands.{Inputs}
use Rattle.acl_run.specs.Finishing.{IsTextOf}
use Rattle.acl_run.specs.PolicyAnswers.{AnswersPolicy}
use Rattle.acltool_core.specs.RestoreMeanings.{MeansRestored}

-- ---- what is asked for

-- A target of iptables, of the family. The others are passed over.
abbrev pub is_restored : Family → FilterRequest → Bool
is_restored family r = same_kind r.target.kind Iptables && covers r.target.families family

abbrev pub restored : Family → List FilterRequest → List FilterRequest
restored family rs = filter (is_restored family) rs

-- ---- the first slip

-- The declaration of a hook's chain has a policy, so the target has to name one.
abbrev pub policy_slip : Target → Option Slip
policy_slip t = if leaves_packets t.ending then Some (slip codes_of.NoPolicy t.place t.name) else None

-- The slip of a target, else that of its filter.
abbrev pub restored_slip : Day → FilterRequest → Option Slip
restored_slip today r = option_or (policy_slip r.target) (request_slip today r)

-- One target after the other, in order.
abbrev pub restores_slip : Family → Day → List FilterRequest → Option Slip
restores_slip family today rs = first_in (restored_slip today) (restored family rs)

-- ---- the answer

-- The filters that are asked for, in the order of their targets, over the definitions and the day.
pub record RestorePlan : Type 0 where
  pub naming : Naming
  pub today : Day
  pub requests : List FilterRequest

abbrev pub plan_of : Family → Day → Loaded → RestorePlan
plan_of family today loaded =
    record { naming = loaded.definitions; today = today; requests = restored family (requests_of loaded) }

-- The first fault of loading the policy, else of its targets; or the filters.
abbrev pub Restores : Inputs → Family → Day → List File → Result RestorePlan Fault → Type 0
Restores inputs family today files answer = AnswersPolicy inputs.definitions inputs.policy
    (λ l. restores_slip family today (requests_of l)) (plan_of family today) files answer

-- ---- its text

-- The text of the filters' sections, one behind the other.
abbrev pub sections_text : Day → List FilterRequest → List ℕ
sections_text today rs = text_of (map section_of (map (filter_for today) rs))

abbrev pub text_with : Day → List FilterRequest → Option (List ℕ)
text_with today [] = None
text_with today (r ∷ rs) = Some (sections_text today (r ∷ rs))

-- Where there is no target, there is nothing to tell.
abbrev pub restored_text : RestorePlan → Option (List ℕ)
restored_text plan = text_with plan.today plan.requests

-- What the text means, with or without targets.
abbrev pub MeansPlan : RestorePlan → Type 0
MeansPlan plan = MeansRestored plan.naming plan.today plan.requests (sections_text plan.today plan.requests)

-- The text of a plan is ready to be told.
abbrev pub IsReady : RestorePlan → Option Whole → Type 0
IsReady = IsTextOf restored_text MeansPlan
