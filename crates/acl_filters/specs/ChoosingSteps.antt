-- Filters that are added one behind the other.
use Rattle.std.specs.Prelude.{◌≡◌, ◌++◌, Bool, List, filter, map, Option, None, Some, Result, Ok, Err}
use Rattle.acl_text.specs.declared.faults.Refusal.{Refusal}
use Rattle.acl_text.specs.declared.faults.Refusal.TheVariants as refusals
use Rattle.acl_text.specs.declared.faults.Slip.{Slip}
use Rattle.acl_host.specs.declared.days.Day.{Day}
use Rattle.acl_platform.specs.declared.filters.Filter.{Filter}
use Rattle.acl_filters.specs.AskedFilters.{FilterRequest}
use Rattle.acl_filters.specs.ChosenFilters.{chosen_slip}
use Rattle.acl_filters.specs.FilterRequests.{filter_for}

-- The filters that are chosen stand behind those that were there.
pub record AddsAll (chosen : FilterRequest → Bool) (slip : FilterRequest → Option Slip) (today : Day)
    (rs : List FilterRequest) (old new : List Filter) : Type 0 where
  pub no_slip : chosen_slip chosen slip rs ≡ None
  pub filters_are : new ≡ old ++ map (filter_for today) (filter chosen rs)

-- All of them, or the first slip is given.
abbrev pub Adds : {X : Type 0} → (FilterRequest → Bool) → (FilterRequest → Option Slip) → Day → List FilterRequest
    → List Filter → List Filter → Result X Refusal → Type 0
Adds chosen slip today rs old new (Ok x) = AddsAll chosen slip today rs old new
Adds chosen slip today rs old new (Err (refusals.Slip s)) = chosen_slip chosen slip rs ≡ Some s
Adds chosen slip today rs old new (Err refusals.Memory) = Unit {0}
