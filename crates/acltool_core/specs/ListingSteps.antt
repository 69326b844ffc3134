-- What the private steps give that make the text of standard lists.
use Rattle.std.specs.Prelude.{◌≡◌, ℕ, List, [], ◌∷◌, flat_map, map, Option, None, Some, Result}
use Rattle.std.specs.List.{All, IsDistinct}
use Rattle.std.specs.Str.{bytes_eq}
use Rattle.acl_text.specs.declared.faults.Rejection.{Rejection}
use Rattle.acl_text.specs.declared.wholes.Whole.{Whole}
use Rattle.acl_host.specs.declared.days.Day.{Day}
use Rattle.acl_platform.specs.Platforms.{IsAccepted}
use Rattle.acl_platform.specs.declared.filters.Filter.{Filter}
use Rattle.acl_load.specs.declared.policy_loading.Loaded.{Loaded}
use Rattle.acl_filters.specs.FilterRequests.{requests_of}
use Rattle.std_lang.specs.Documents.{list_names}
use Rattle.std_lang.specs.Texts.{text_of}
use Rattle.gen_acltool.specs.Limits.{is_for_standard, limit_of}
use Rattle.gen_acltool.specs.Sections.{section_of}
use Rattle.acl_run.specs.PolicyAnswers.{MakesLoaded, answer_of}
use Rattle.acltool_core.specs.ListPlans.{IsReady, lists_slip, plan_of}

-- Filters that become standard lists of different numbers.
pub record AreListable (first : ℕ) (filters : List Filter) : Type 0 where
  pub accepted : All (IsAccepted (is_for_standard first) limit_of) filters
  pub names_differ : IsDistinct bytes_eq (flat_map list_names (map (section_of first) filters))

abbrev pub text_if : ℕ → List Filter → Option (List ℕ)
text_if first [] = None
text_if first (f ∷ fs) = Some (text_of (map (section_of first) (f ∷ fs)))

abbrev pub MakesOf : ℕ → Day → Loaded → Result (Option Whole) Rejection → Type 0
MakesOf first today loaded =
    MakesLoaded IsReady (answer_of (λ l. lists_slip first today (requests_of l)) (plan_of first today) loaded)
