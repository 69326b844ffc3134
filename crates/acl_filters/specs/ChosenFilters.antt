-- The filters of some targets of a policy, in order, or the first slip of one of them.
--
-- `chosen` says which targets they are, and `slip` what is wrong with one of them, or with the terms on it.
use Rattle.std.specs.Prelude.{◌≡◌, Bool, List, filter, map, Option, None, Some, Result, Ok, Err}
use Rattle.acl_text.specs.declared.faults.Refusal.{Refusal}
use Rattle.acl_text.specs.declared.faults.Refusal.TheVariants as refusals
use Rattle.acl_text.specs.declared.faults.Slip.{Slip}
use Rattle.acl_text.specs.Refusals.{first_in}
use Rattle.acl_host.specs.declared.days.Day.{Day}
use Rattle.acl_platform.specs.declared.filters.Filter.{Filter}
use Rattle.acl_filters.specs.AskedFilters.{FilterRequest}
use Rattle.acl_filters.specs.FilterRequests.{filter_for}

-- ---- one target

pub record IsFilterOf (slip : FilterRequest → Option Slip) (today : Day) (r : FilterRequest) (f : Filter) : Type 0 where
  pub no_slip : slip r ≡ None
  pub filter_is : f ≡ filter_for today r

abbrev pub GivesFilter : (FilterRequest → Option Slip) → Day → FilterRequest → Result Filter Refusal → Type 0
GivesFilter slip today r (Ok f) = IsFilterOf slip today r f
GivesFilter slip today r (Err (refusals.Slip s)) = slip r ≡ Some s
GivesFilter slip today r (Err refusals.Memory) = Unit {0}

-- ---- all of them

-- One target after the other, in order.
abbrev pub chosen_slip : (FilterRequest → Bool) → (FilterRequest → Option Slip) → List FilterRequest → Option Slip
chosen_slip chosen slip rs = first_in slip (filter chosen rs)

pub record AreChosen (chosen : FilterRequest → Bool) (slip : FilterRequest → Option Slip) (today : Day)
    (rs : List FilterRequest) (filters : List Filter) : Type 0 where
  pub no_slip : chosen_slip chosen slip rs ≡ None
  pub filters_are : filters ≡ map (filter_for today) (filter chosen rs)

abbrev pub GivesChosen : (FilterRequest → Bool) → (FilterRequest → Option Slip) → Day → List FilterRequest
    → Result (List Filter) Refusal → Type 0
GivesChosen chosen slip today rs (Ok filters) = AreChosen chosen slip today rs filters
GivesChosen chosen slip today rs (Err (refusals.Slip s)) = chosen_slip chosen slip rs ≡ Some s
GivesChosen chosen slip today rs (Err refusals.Memory) = Unit {0}
