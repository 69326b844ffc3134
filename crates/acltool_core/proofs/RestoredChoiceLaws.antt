-- The filter of a target that is to have a text for iptables-restore.
use Rattle.std.proofs.Common.{◌≡◌, ℕ, Bool, true, false, if◌then◌else◌, List, Option, None, Some, Result, Ok, Err, refl, ap, sym, ◌∙◌}
use Rattle.std.specs.Prelude.{IsErrAnd}
use Rattle.std.specs.Option.{option_or}
use Rattle.acl_text.specs.declared.faults.Code.TheVariants as codes_of
use Rattle.acl_text.specs.declared.faults.Refusal.{Refusal}
use Rattle.acl_text.specs.declared.faults.Refusal.TheVariants as refusals
use Rattle.acl_text.specs.declared.faults.Slip.{Slip}
use Rattle.acl_text.specs.Refusals.{IsRefusalBy, slip}
use Rattle.acl_host.specs.declared.days.Day.{Day}
use Rattle.acl_platform.specs.declared.filters.Filter.{Filter}
use Rattle.acl_filters.specs.AskedFilters.{FilterRequest}
use Rattle.acl_filters.specs.CheckedFilters.{Checks}
use Rattle.acl_filters.specs.ChosenFilters.{GivesFilter, IsFilterOf}
use Rattle.acl_filters.specs.FilterRequests.{filter_for, request_slip}
use Rattle.gen_acltool.specs.RestoredFilters.{leaves_packets}
use Rattle.acltool_core.specs.RestorePlans.{policy_slip, restored_slip}

policy-is : (r : FilterRequest) (b : Bool) → leaves_packets r.target.ending ≡ b
    → policy_slip r.target ≡ (if b then Some (slip codes_of.NoPolicy r.target.place r.target.name) else None)
policy-is r b e = ap (λ (c : Bool). if c then Some (slip codes_of.NoPolicy r.target.place r.target.name) else None) e

own-slip : (today : Day) (r : FilterRequest) → leaves_packets r.target.ending ≡ false → restored_slip today r ≡ request_slip today r
own-slip today r e = ap (λ o. option_or o (request_slip today r)) (policy-is r false e)

-- a target that leaves packets
pub left-slip : (today : Day) (r : FilterRequest) (e : Refusal) → leaves_packets r.target.ending ≡ true
    → IsRefusalBy (slip codes_of.NoPolicy r.target.place r.target.name) e → GivesFilter (restored_slip today) today r (Err e)
left-slip today r (refusals.Slip s) leaves is = ap (λ o. option_or o (request_slip today r)) (policy-is r true leaves) ∙ ap Some (sym is)
left-slip today r refusals.Memory leaves is = tt

-- its filter
pub checked-filter : (today : Day) (r : FilterRequest) (f : Filter) → leaves_packets r.target.ending ≡ false → request_slip today r ≡ None
    → f ≡ filter_for today r → IsFilterOf (restored_slip today) today r f
checked-filter today r f says none is = record { no_slip = own-slip today r says ∙ none; filter_is = is }

-- its filter's slip
pub checked-slip : (today : Day) (r : FilterRequest) (e : Refusal) (given : Result Filter Refusal) → leaves_packets r.target.ending ≡ false
    → Checks today r (Err e) → IsErrAnd given (λ x. x ≡ e) → GivesFilter (restored_slip today) today r given
checked-slip today r e (Ok f) says checks is = absurd is
checked-slip today r (refusals.Slip s) (Err (refusals.Slip t)) says checks is =
    let same : s ≡ t = cc in
    own-slip today r says ∙ checks ∙ ap Some same
checked-slip today r (refusals.Slip s) (Err refusals.Memory) says checks is = tt
checked-slip today r refusals.Memory (Err (refusals.Slip t)) says checks is = absurd (cc)
checked-slip today r refusals.Memory (Err refusals.Memory) says checks is = tt
