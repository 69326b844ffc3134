-- The slip of a target's filter has a code that `aclgen` answers.
use Rattle.std.proofs.Common.{ℕ, List, Option, None, Some, option_map, slice_get}
use Rattle.acl_text.specs.AnsweredCodes.{IsAnswered, SlipIsAnswered}
use Rattle.acl_text.specs.declared.faults.Code.{Code}
use Rattle.acl_text.specs.declared.faults.Code.TheVariants as codes_of
use Rattle.acl_text.specs.declared.faults.Slip.{Slip}
use Rattle.acl_text.proofs.AnsweredLaws.{either_answered}
use Rattle.acl_host.specs.declared.days.Day.{Day}
use Rattle.acl_platform.specs.declared.filters.Filter.{Filter}
use Rattle.acl_platform.specs.declared.filters.Limit.{Limit}
use Rattle.acl_platform.specs.declared.filters.Limit.TheVariants as limits
use Rattle.acl_platform.specs.declared.rules.Rule.{Rule}
use Rattle.acl_expand.specs.ExpansionSlips.{first_slip}
use Rattle.acl_expand.proofs.AnsweredSlips.{expansion_answered}
use Rattle.acl_platform.specs.Features.{feature_word}
use Rattle.acl_filters.specs.PlatformFiles.{limit_of}
use Rattle.acl_filters.specs.AskedFilters.{FilterRequest}
use Rattle.acl_filters.specs.FilterRequests.{check_slip, filter_for, limit_slip, name_word, request_slip, rule_slip}

rule_good : (code : Code) (word : Rule → List ℕ) (f : Filter) (o : Option Rule) → IsAnswered code → IsAnswered (rule_slip code word f o).code
rule_good code word f (Some r) h = h
rule_good code word f None h = h

limit_good : (f : Filter) (l : Limit) → IsAnswered (limit_slip f l).code
limit_good f (limits.NameLength i) = rule_good codes_of.NameLength name_word f (slice_get f.rules i) tt
limit_good f (limits.NameClash i) = rule_good codes_of.NameClash name_word f (slice_get f.rules i) tt
limit_good f (limits.Unsupported i feature) = rule_good codes_of.Unsupported (λ r. feature_word feature) f (slice_get f.rules i) tt
limit_good f limits.TooManyEntries = tt

-- the slip that is made of something, if there is something
pub map_good : {A : Type 0} (f : A → Slip) (o : Option A) → ((x : A) → IsAnswered (f x).code) → SlipIsAnswered (option_map f o)
map_good f None h = tt
map_good f (Some x) h = h x

check_good : (f : Filter) → SlipIsAnswered (check_slip f)
unfolding check_slip
check_good f = map_good (limit_slip f) (limit_of f) (limit_good f)

pub request_good : (today : Day) (r : FilterRequest) → SlipIsAnswered (request_slip today r)
request_good today r = either_answered (first_slip r.target today r.terms) (check_slip (filter_for today r))
    (expansion_answered r.target today r.terms) (check_good (filter_for today r))
