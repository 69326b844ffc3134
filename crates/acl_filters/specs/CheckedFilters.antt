-- The filter of a target, with the number of its entries, or its first slip.
use Rattle.std.specs.Prelude.{◌≡◌, ℕ, ◌≤◌, None, Some, Result, Ok, Err}
use Rattle.acl_text.specs.declared.faults.Refusal.{Refusal}
use Rattle.acl_text.specs.declared.faults.Refusal.TheVariants as refusals
use Rattle.acl_host.specs.declared.days.Day.{Day}
use Rattle.acl_platform.specs.declared.filters.Filter.{Filter}
use Rattle.acl_filters.specs.PlatformFiles.{IsTaken, count_of}
use Rattle.acl_filters.specs.ShortLists.{HasFewestPrefixes}
use Rattle.acl_filters.specs.AskedFilters.{FilterRequest}
use Rattle.acl_filters.specs.FilterRequests.{filter_for, request_slip}

-- A filter that its platform takes.
abbrev pub IsTakenFor : Day → FilterRequest → Type 0
IsTakenFor today r = IsTaken r.target.kind (filter_for today r)

pub record ChecksFilter (today : Day) (r : FilterRequest) (f : Filter) (entries : ℕ) : Type 0 where
  pub slip_is : request_slip today r ≡ None
  pub filter_is : f ≡ filter_for today r
  pub count_is : entries ≡ count_of (filter_for today r)
  pub taken : IsTakenFor today r

abbrev pub Checks : Day → FilterRequest → Result (Filter × ℕ) Refusal → Type 0
Checks today r (Ok x) = ChecksFilter today r x.0 x.1
Checks today r (Err (refusals.Slip s)) = request_slip today r ≡ Some s
Checks today r (Err refusals.Memory) = Unit {0}

-- Each address list of a filter is as short as any with the same addresses, and it has at most 100,000 entries.
pub record IsShort (f : Filter) : Type 0 where
  pub lists : HasFewestPrefixes f
  pub entries : count_of f ≤ 100000
