-- The filter of a target that is to have a standard list.
use Rattle.std.proofs.Common.{◌≡◌, ◌≤◌, ◌&&◌, ℕ, Bool, true, false, if◌then◌else◌, Option, None, Some, option_map, Result, Ok, Err, ap, sym, ◌∙◌}
use Rattle.std.specs.Prelude.{IsErrAnd, nat_le, nat_lt}
use Rattle.std.proofs.lemmas.Bool.{and_from, and_parts, le-leb, ltb-false}
use Rattle.std.specs.Option.{option_or}
use Rattle.acl_text.specs.declared.faults.Code.TheVariants as codes_of
use Rattle.acl_text.specs.declared.faults.Refusal.{Refusal}
use Rattle.acl_text.specs.declared.faults.Refusal.TheVariants as refusals
use Rattle.acl_text.specs.Refusals.{IsRefusalBy, Judges, slip}
use Rattle.acl_host.specs.declared.days.Day.{Day}
use Rattle.acl_target.specs.declared.targets.Kind.TheVariants.{Cisco}
use Rattle.acl_target.specs.Clashes.{same_kind}
use Rattle.acl_platform.specs.declared.filters.Filter.{Filter}
use Rattle.acl_platform.specs.declared.filters.Limit.{Limit}
use Rattle.acl_platform.specs.Platforms.{judged}
use Rattle.acl_expand.specs.ExpansionSlips.{first_slip}
use Rattle.acl_filters.specs.AskedFilters.{FilterRequest}
use Rattle.acl_filters.specs.ChosenFilters.{GivesFilter, IsFilterOf}
use Rattle.acl_filters.specs.FilterRequests.{filter_for, limit_slip}
use Rattle.acl_filters.proofs.FilterLaws.{both-none, judged-err, judged-ok}
use Rattle.gen_acltool.specs.Limits.{is_for_standard, is_inet, limit_of}
use Rattle.gen_acltool.specs.Sections.{entry_count}
use Rattle.acltool_core.specs.ListMeanings.{number_from}
use Rattle.acltool_core.specs.ListPlans.{is_listed, list_slip, listed_slip, number_slip}

number-is : (first : ℕ) (r : FilterRequest) (b : Bool) → nat_lt 99 (number_from first r.target) ≡ b
    → number_slip first r.target ≡ (if b then Some (slip codes_of.NumberRange r.target.place r.target.name) else None)
number-is first r b e = ap (λ (c : Bool). if c then Some (slip codes_of.NumberRange r.target.place r.target.name) else None) e

-- a target whose number is above the last
pub beyond-slip : (first : ℕ) (today : Day) (r : FilterRequest) (e : Refusal) → nat_lt 99 (number_from first r.target) ≡ true
    → IsRefusalBy (slip codes_of.NumberRange r.target.place r.target.name) e → GivesFilter (listed_slip first today) today r (Err e)
beyond-slip first today r (refusals.Slip s) beyond is =
    ap (λ o. option_or o (option_or (first_slip r.target today r.terms) (list_slip (filter_for today r)))) (number-is first r true beyond) ∙ ap Some (sym is)
beyond-slip first today r refusals.Memory beyond is = tt

own-slip : (first : ℕ) (today : Day) (r : FilterRequest) → nat_lt 99 (number_from first r.target) ≡ false
    → listed_slip first today r ≡ option_or (first_slip r.target today r.terms) (list_slip (filter_for today r))
own-slip first today r e =
    ap (λ o. option_or o (option_or (first_slip r.target today r.terms) (list_slip (filter_for today r)))) (number-is first r false e)

-- the terms' slip
pub terms-slip : (first : ℕ) (today : Day) (r : FilterRequest) (e : Refusal) (given : Result Filter Refusal)
    → nat_lt 99 (number_from first r.target) ≡ false → Judges {X = Filter} (Err e) (first_slip r.target today r.terms)
    → IsErrAnd given (λ x. x ≡ e) → GivesFilter (listed_slip first today) today r given
terms-slip first today r e (Ok f) within gives is = absurd is
terms-slip first today r (refusals.Slip s) (Err (refusals.Slip t)) within gives is =
    let same : s ≡ t = cc in
    own-slip first today r within ∙ ap (λ o. option_or o (list_slip (filter_for today r))) gives ∙ ap Some same
terms-slip first today r (refusals.Slip s) (Err refusals.Memory) within gives is = tt
terms-slip first today r refusals.Memory (Err (refusals.Slip t)) within gives is = absurd (cc)
terms-slip first today r refusals.Memory (Err refusals.Memory) within gives is = tt

-- ---- behind the terms

without-terms : (first : ℕ) (today : Day) (r : FilterRequest) (f : Filter) → nat_lt 99 (number_from first r.target) ≡ false
    → first_slip r.target today r.terms ≡ None → f ≡ filter_for today r → listed_slip first today r ≡ list_slip f
without-terms first today r f within none is =
    own-slip first today r within ∙ ap (λ o. option_or o (list_slip (filter_for today r))) none ∙ ap list_slip (sym is)

-- its filter
pub listed-filter : (first : ℕ) (today : Day) (r : FilterRequest) (f : Filter) (entries : ℕ) → nat_lt 99 (number_from first r.target) ≡ false
    → first_slip r.target today r.terms ≡ None → f ≡ filter_for today r → Ok entries ≡ judged (limit_of f) (entry_count f)
    → IsFilterOf (listed_slip first today) today r f
listed-filter first today r f entries within none is e = record {
  no_slip = without-terms first today r f within none is ∙ ap (option_map (limit_slip f)) (judged-ok (limit_of f) (entry_count f) entries e).0;
  filter_is = is;
}

-- its filter's limit
pub limit-given : (first : ℕ) (today : Day) (r : FilterRequest) (f : Filter) (limit : Limit) (e : Refusal) → nat_lt 99 (number_from first r.target) ≡ false
    → first_slip r.target today r.terms ≡ None → f ≡ filter_for today r → Err limit ≡ judged (limit_of f) (entry_count f)
    → IsRefusalBy (limit_slip f limit) e → GivesFilter (listed_slip first today) today r (Err e)
limit-given first today r f limit (refusals.Slip s) within none is e h =
    without-terms first today r f within none is ∙ ap (option_map (limit_slip f)) (judged-err (limit_of f) (entry_count f) limit e) ∙ ap Some (sym h)
limit-given first today r f limit refusals.Memory within none is e h = tt

-- ---- what the platform handles

pub handled : (first : ℕ) (r : FilterRequest) → 1 ≤ first → is_listed r ≡ true → nat_lt 99 (number_from first r.target) ≡ false
    → (same_kind r.target.kind Cisco && (is_inet r.target.families && (nat_le 1 first && nat_le (number_from first r.target) 99))) ≡ true
handled first r from asked within =
    let place = and_parts (same_kind r.target.kind Cisco) (is_inet r.target.families) asked in
    let number = nat_le (number_from first r.target) 99 in
    let numbers = and_from (nat_le 1 first) number (le-leb 1 first from) (le-leb (number_from first r.target) 99 (ltb-false 99 (number_from first r.target) within)) in
    and_from (same_kind r.target.kind Cisco) (is_inet r.target.families && (nat_le 1 first && number)) place.0
    (and_from (is_inet r.target.families) (nat_le 1 first && number) place.1 numbers)

-- so it takes the filter of a target that is asked for
pub handled-filter : (first : ℕ) (today : Day) (r : FilterRequest) (f : Filter) → 1 ≤ first → is_listed r ≡ true
    → nat_lt 99 (number_from first r.target) ≡ false → f ≡ filter_for today r → is_for_standard first f ≡ true
handled-filter first today r f from asked within is = ap (is_for_standard first) is ∙ handled first r from asked within
