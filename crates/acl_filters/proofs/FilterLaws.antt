-- The filter of a target: what is checked of it, and what it is where it has no slip.
use Rattle.std.proofs.Common.{◌≡◌, ℕ, List, [], ◌∷◌, Option, None, Some, Ok, Err, option_map, refl, ap, sym, subst, ◌∙◌}
use Rattle.std.specs.List.{AllByRecursion}
use Rattle.std.proofs.lemmas.List.Elements.{recursion_from_All}
use Rattle.std.specs.Option.{option_or}
use Rattle.acl_text.specs.declared.faults.Refusal.{Refusal}
use Rattle.acl_text.specs.declared.faults.Refusal.TheVariants as refusals
use Rattle.acl_text.proofs.ListLaws.{all_append}
use Rattle.acl_text.specs.Refusals.{IsRefusalBy}
use Rattle.acl_host.specs.declared.days.Day.{Day}
use Rattle.acl_policy.specs.declared.blocks.Block.{Block}
use Rattle.acl_terms.specs.declared.terms.Term.{Term}
use Rattle.acl_platform.specs.declared.filters.Filter.{Filter}
use Rattle.acl_platform.specs.declared.filters.Limit.{Limit}
use Rattle.acl_platform.specs.Platforms.{judged}
use Rattle.acl_platform.specs.SoundFilters.{IsSound}
use Rattle.acl_expand.specs.ExpansionSlips.{first_slip}
use Rattle.acl_filters.specs.PlatformFiles.{count_of, limit_of, limit_on}
use Rattle.acl_filters.specs.AskedFilters.{FilterRequest}
use Rattle.acl_filters.specs.FilterRequests.{check_slip, block_requests, filter_for, limit_slip, request_of, request_slip, requests_in, requests_slip}
use Rattle.acl_filters.specs.CheckedFilters.{Checks, ChecksFilter, IsTakenFor, IsShort}
use Rattle.acl_policy.specs.Conditions.{IsBlock}
use Rattle.acl_filters.proofs.ShortListsLaws.{taken-short}
use Rattle.acl_target.specs.TargetData.{IsTarget}
use Rattle.acl_expand.proofs.FilterLaws.{filter-sound}
use Rattle.acl_filters.proofs.ApartLaws.{all-by}

-- ---- slips

pub first-none : {X : Type 0} (a b : Option X) → option_or a b ≡ None → (a ≡ None) × (b ≡ None)
first-none None b e = (refl, e)
first-none (Some x) b e = absurd (cc)

pub both-none : {X : Type 0} (a b : Option X) → a ≡ None → b ≡ None → option_or a b ≡ None
both-none a b e f = ap (λ o. option_or o b) e ∙ f

-- ---- one filter

pub judged-ok : (l : Option Limit) (n m : ℕ) → Ok m ≡ judged l n → (l ≡ None) × (m ≡ n)
judged-ok None n m e = (refl, cc)
judged-ok (Some l) n m e = absurd (cc)

check-none : (f : Filter) → limit_of f ≡ None → check_slip f ≡ None
unfolding check_slip
check-none f e = ap (option_map (limit_slip f)) e

limit-there : (f : Filter) → limit_of f ≡ None → limit_on f.kind f ≡ None
unfolding limit_of
limit-there f e = e

pub checks-filter : (today : Day) (r : FilterRequest) (f : Filter) (entries : ℕ) → first_slip r.target today r.terms ≡ None → f ≡ filter_for today r
    → IsSound f → Ok entries ≡ judged (limit_of f) (count_of f) → ChecksFilter today r f entries
checks-filter today r f entries none is sound e =
    let j = judged-ok (limit_of f) (count_of f) entries e in
    let within : limit_of (filter_for today r) ≡ None = sym (ap limit_of is) ∙ j.0 in
    record {
      slip_is = both-none (first_slip r.target today r.terms) (check_slip (filter_for today r)) none (check-none (filter_for today r) within);
      filter_is = is;
      count_is = j.1 ∙ ap count_of is;
      taken = record { kind_is = refl; sound = subst IsSound is sound; within = limit-there (filter_for today r) within };
    }

pub judged-err : (l : Option Limit) (n : ℕ) (m : Limit) → Err m ≡ judged l n → l ≡ Some m
judged-err None n m e = absurd (cc)
judged-err (Some l) n m e = cc

check-some : (f : Filter) (limit : Limit) → limit_of f ≡ Some limit → check_slip f ≡ Some (limit_slip f limit)
unfolding check_slip
check-some f limit e = ap (option_map (limit_slip f)) e

pub checks-limit : (today : Day) (r : FilterRequest) (f : Filter) (limit : Limit) (e : Refusal) → first_slip r.target today r.terms ≡ None → f ≡ filter_for today r
    → Err limit ≡ judged (limit_of f) (count_of f) → IsRefusalBy (limit_slip f limit) e → Checks today r (Err e)
checks-limit today r f limit (refusals.Slip t) none is e h =
    ap (λ o. option_or o (check_slip (filter_for today r))) none ∙ ap check_slip (sym is)
    ∙ check-some f limit (judged-err (limit_of f) (count_of f) limit e) ∙ ap Some (sym h)
checks-limit today r f limit refusals.Memory none is e h = tt

pub short-one : (today : Day) (r : FilterRequest) → IsTakenFor today r → IsShort (filter_for today r)
unfolding limit_of
short-one today r t =
    let s = taken-short (filter_for today r) t.sound t.within in
    record { lists = s.0; entries = s.1 }

-- ---- a request without a slip

check-within : (f : Filter) → check_slip f ≡ None → limit_on f.kind f ≡ None
unfolding check_slip limit_of
check-within f e = by (limit_on f.kind f) e
  where
    by : (o : Option Limit) → option_map (limit_slip f) o ≡ None → o ≡ None
    by None none = refl
    by (Some l) none = absurd (cc)

request-taken : (today : Day) (r : FilterRequest) → IsTarget r.target → request_slip today r ≡ None → IsTakenFor today r
request-taken today r target none =
    let parts = first-none (first_slip r.target today r.terms) (check_slip (filter_for today r)) none in
    record {
      kind_is = refl;
      sound = filter-sound r.target today r.terms target parts.0;
      within = check-within (filter_for today r) parts.1;
    }

pub requests-taken : (today : Day) (rs : List FilterRequest) → AllByRecursion (λ (r : FilterRequest). IsTarget r.target) rs
    → requests_slip today rs ≡ None → AllByRecursion (IsTakenFor today) rs
requests-taken today [] targets none = tt
requests-taken today (r ∷ rs) targets none =
    let parts = first-none (request_slip today r) (requests_slip today rs) none in
    (request-taken today r targets.0 parts.0, requests-taken today rs targets.1 parts.1)

pub targets-stand : (blocks : List Block) (lists : List (List Term)) → AllByRecursion IsBlock blocks
    → AllByRecursion (λ (r : FilterRequest). IsTarget r.target) (requests_in blocks lists)
targets-stand [] lists h = tt
targets-stand (b ∷ bs) [] h = tt
targets-stand (b ∷ bs) (ts ∷ tss) h =
    all_append (λ (r : FilterRequest). IsTarget r.target) (block_requests b ts) (requests_in bs tss)
    (all-by (request_of b.terms ts) IsTarget (λ (r : FilterRequest). IsTarget r.target) (λ t is. is) b.targets
    (recursion_from_All IsTarget b.targets h.0.targets_are)) (targets-stand bs tss h.1)
