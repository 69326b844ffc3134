-- What the private steps give that make the text for iptables-restore.
use Rattle.std.specs.Prelude.{◌≡◌, ℕ, false, List, [], ◌∷◌, map, Option, None, Some, Result}
use Rattle.std.specs.List.{All}
use Rattle.acl_packet.specs.declared.addresses.Family.{Family}
use Rattle.acl_text.specs.declared.faults.Rejection.{Rejection}
use Rattle.acl_text.specs.declared.wholes.Whole.{Whole}
use Rattle.acl_host.specs.declared.days.Day.{Day}
use Rattle.acl_target.specs.declared.targets.Kind.TheVariants.{Iptables}
use Rattle.acl_platform.specs.declared.filters.Filter.{Filter}
use Rattle.acl_load.specs.declared.policy_loading.Loaded.{Loaded}
use Rattle.acl_filters.specs.FilterRequests.{requests_of}
use Rattle.acl_filters.specs.PlatformFiles.{AreApart, IsTaken}
use Rattle.ipr_lang.specs.Texts.{text_of}
use Rattle.gen_iptables.specs.Sections.{section_of}
use Rattle.gen_acltool.specs.RestoredFilters.{leaves_packets}
use Rattle.acl_run.specs.PolicyAnswers.{MakesLoaded, answer_of}
use Rattle.acltool_core.specs.RestorePlans.{IsReady, plan_of, restores_slip}

-- Filters of iptables that name a policy, and are apart.
pub record AreRestorable (filters : List Filter) : Type 0 where
  pub taken : All (IsTaken Iptables) filters
  pub says : All (λ f. leaves_packets f.ending ≡ false) filters
  pub apart : AreApart filters

abbrev pub text_if : List Filter → Option (List ℕ)
text_if [] = None
text_if (f ∷ fs) = Some (text_of (map section_of (f ∷ fs)))

abbrev pub MakesOf : Family → Day → Loaded → Result (Option Whole) Rejection → Type 0
MakesOf family today loaded =
    MakesLoaded IsReady (answer_of (λ l. restores_slip family today (requests_of l)) (plan_of family today) loaded)
