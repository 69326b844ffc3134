-- The filters that a policy asks for, and the first slip of one of them.
use Rattle.std.specs.Prelude.{ℕ, List, [], ◌∷◌, ◌++◌, filter, map, slice_get, Option, None, Some, option_map}
use Rattle.std.specs.Option.{option_or}
use Rattle.acl_text.specs.declared.faults.Code.{Code}
use Rattle.acl_text.specs.declared.faults.Code.TheVariants as codes_of
use Rattle.acl_text.specs.declared.faults.Slip.{Slip}
use Rattle.acl_text.specs.Refusals.{first_in, slip}
use Rattle.acl_host.specs.declared.days.Day.{Day}
use Rattle.acl_target.specs.declared.targets.Kind.{Kind}
use Rattle.acl_target.specs.declared.targets.Target.{Target}
use Rattle.acl_target.specs.Clashes.{same_kind}
use Rattle.acl_policy.specs.declared.blocks.Block.{Block}
use Rattle.acl_policy.specs.RawTerms.{RawTerm}
use Rattle.acl_terms.specs.declared.terms.Term.{Term}
use Rattle.acl_platform.specs.declared.filters.Filter.{Filter}
use Rattle.acl_platform.specs.declared.filters.Limit.{Limit}
use Rattle.acl_platform.specs.declared.filters.Limit.TheVariants as limits
use Rattle.acl_platform.specs.declared.rules.Rule.{Rule}
use Rattle.acl_platform.specs.Features.{feature_word}
use Rattle.acl_expand.specs.Expansions.{filter_of}
use Rattle.acl_expand.specs.ExpansionSlips.{first_slip}
use Rattle.acl_load.specs.declared.policy_loading.Loaded.{Loaded}
use Rattle.acl_filters.specs.PlatformFiles.{limit_of}
use Rattle.acl_filters.specs.AskedFilters.{FilterRequest}

-- Each target of a block asks for a filter of the block's terms.
abbrev pub request_of : List RawTerm → List Term → Target → FilterRequest
request_of written terms target =
    record { target = target; written = written; terms = terms }

abbrev pub block_requests : Block → List Term → List FilterRequest
block_requests block terms = map (request_of block.terms terms) block.targets

-- Block by block, each with its list of terms.
abbrev pub requests_in : List Block → List (List Term) → List FilterRequest
requests_in [] lists = []
requests_in (block ∷ blocks) [] = []
requests_in (block ∷ blocks) (terms ∷ lists) =
    block_requests block terms ++ requests_in blocks lists

abbrev pub requests_of : Loaded → List FilterRequest
requests_of loaded = requests_in loaded.policy.blocks loaded.terms

abbrev pub filter_for : Day → FilterRequest → Filter
filter_for today r = filter_of r.target today r.terms

-- The requests for filters of a platform, in order.
abbrev pub requests_on : Kind → List FilterRequest → List FilterRequest
requests_on kind rs = filter (λ r. same_kind r.target.kind kind) rs

-- ---- limits of a platform

abbrev pub name_word : Rule → List ℕ
name_word r = r.name

-- The slip stands where the rule's term does.
abbrev pub rule_slip : Code → (Rule → List ℕ) → Filter → Option Rule → Slip
rule_slip code word f (Some r) = slip code r.place (word r)
rule_slip code word f None = slip code f.place []

abbrev pub limit_slip : Filter → Limit → Slip
limit_slip f (limits.NameLength i) =
    rule_slip codes_of.NameLength name_word f (slice_get f.rules i)
limit_slip f (limits.NameClash i) =
    rule_slip codes_of.NameClash name_word f (slice_get f.rules i)
limit_slip f (limits.Unsupported i feature) =
    rule_slip codes_of.Unsupported (λ r. feature_word feature) f (slice_get f.rules i)
limit_slip f limits.TooManyEntries =
    slip codes_of.TooManyEntries f.place f.name

-- ---- the first slip

-- The limit that a filter meets on its platform.
unfoldable pub check_slip : Filter → Option Slip
check_slip f = option_map (limit_slip f) (limit_of f)

-- The slip of the terms on the target, else the limit that their filter meets.
abbrev pub request_slip : Day → FilterRequest → Option Slip
request_slip today r = option_or (first_slip r.target today r.terms) (check_slip (filter_for today r))

-- One filter after the other, in order.
abbrev pub requests_slip : Day → List FilterRequest → Option Slip
requests_slip today rs = first_in (request_slip today) rs

abbrev pub loaded_slip : Day → Loaded → Option Slip
loaded_slip today loaded = requests_slip today (requests_of loaded)
