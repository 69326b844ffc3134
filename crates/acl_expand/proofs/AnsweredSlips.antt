-- What is wrong with terms on a target has a code that `aclgen` answers.
use Rattle.std.proofs.Common.{ℕ, nat_le, List, [], ◌∷◌, ◌++◌, Option, None, Some}
use Rattle.acl_text.specs.AnsweredCodes.{SlipIsAnswered}
use Rattle.acl_text.specs.declared.faults.Slip.{Slip}
use Rattle.acl_text.proofs.AnsweredLaws.{either, either_answered}
use Rattle.acl_host.specs.declared.days.Day.{Day}
use Rattle.acl_target.specs.declared.targets.Target.{Target}
use Rattle.acl_terms.specs.declared.terms.Term.{Term}
use Rattle.acl_expand.specs.ExpansionSlips.{first_slip, header_at, header_named, header_slip, is_for_ipv6, most_prefixes, prefix_slip, prefixes_of, slip_behind, term_slip}
use Rattle.acl_expand.specs.TermRules.{rules_of}

abbrev Good : Option Slip → Type 0
Good o = SlipIsAnswered o

header_at_good : (t : Term) (o : Option ℕ) → Good (header_at t o)
header_at_good t None = tt
header_at_good t (Some n) = tt

header_good : (target : Target) (today : Day) (t : Term) → Good (header_slip target today t)
unfolding header_slip
header_good target today t = either Good (is_for_ipv6 target today t) _ _ (header_at_good t (header_named t)) tt

prefix_good : (t : Term) (prefixes : ℕ) → Good (prefix_slip t prefixes)
prefix_good t prefixes = either Good (nat_le prefixes most_prefixes) _ _ tt tt

behind_good : (target : Target) (today : Day) (earlier terms : List Term) → Good (slip_behind target today earlier terms)
behind_good target today earlier [] = tt
behind_good target today earlier (t ∷ ts) =
    let all = earlier ++ t ∷ [] in
    let prefixes = prefixes_of (rules_of target today all) in
    either_answered (term_slip target today earlier t) (slip_behind target today all ts)
    (either_answered (header_slip target today t) (prefix_slip t prefixes) (header_good target today t) (prefix_good t prefixes))
    (behind_good target today all ts)

pub expansion_answered : (target : Target) (today : Day) (terms : List Term) → SlipIsAnswered (first_slip target today terms)
unfolding first_slip
expansion_answered target today terms = behind_good target today [] terms
