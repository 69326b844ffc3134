-- The first slip of terms is the one that is found by counting prefixes term by term.
use Rattle.std.proofs.Common.{◌≡◌, List, [], ◌∷◌, ◌++◌, refl, ap, ◌∙◌, append-nil}
use Rattle.std.specs.Option.{option_or}
use Rattle.std.proofs.lemmas.Grind.{flat_map-append}
use Rattle.std.proofs.lemmas.List.Sums.{sum_by-append}
use Rattle.acl_host.specs.declared.days.Day.{Day}
use Rattle.acl_target.specs.declared.targets.Target.{Target}
use Rattle.acl_terms.specs.declared.terms.Term.{Term}
use Rattle.acl_expand.specs.ExpansionSlips.{first_slip, header_slip, prefix_slip, prefixes_of, rule_prefixes, slip_behind}
use Rattle.acl_expand.specs.SlipSteps.{counted_slip, prefixes_with}
use Rattle.acl_expand.specs.TermRules.{rules_of, term_rules}

-- With one term more a filter has the prefixes of that term's rules more.
more-prefixes : (target : Target) (today : Day) (earlier : List Term) (t : Term)
    → prefixes_of (rules_of target today (earlier ++ t ∷ [])) ≡ prefixes_with target today (prefixes_of (rules_of target today earlier)) t
more-prefixes target today earlier t =
    ap prefixes_of (flat_map-append (term_rules target today) earlier (t ∷ [])
    ∙ ap (λ rules. rules_of target today earlier ++ rules) (append-nil (term_rules target today t)))
    ∙ sum_by-append rule_prefixes (rules_of target today earlier) (term_rules target today t)

behind-counted : (target : Target) (today : Day) (earlier terms : List Term)
    → slip_behind target today earlier terms ≡ counted_slip target today (prefixes_of (rules_of target today earlier)) terms
behind-counted target today earlier [] = refl
behind-counted target today earlier (t ∷ ts) =
    let all = earlier ++ t ∷ [] in
    ap (λ s. option_or (option_or (header_slip target today t) (prefix_slip t (prefixes_of (rules_of target today all)))) s)
    (behind-counted target today all ts)
    ∙ ap (λ n. option_or (option_or (header_slip target today t) (prefix_slip t n)) (counted_slip target today n ts))
    (more-prefixes target today earlier t)

pub first_slip_is_counted : (target : Target) (today : Day) (terms : List Term) → first_slip target today terms ≡ counted_slip target today 0 terms
unfolding first_slip
first_slip_is_counted target today terms = behind-counted target today [] terms
