-- The first slip of terms, where the prefixes of the filter are counted term by term.
use Rattle.std.specs.Prelude.{ℕ, ◌+◌, Bool, nat_le, List, [], ◌∷◌, Option, None}
use Rattle.std.specs.List.{list_all}
use Rattle.std.specs.Option.{option_or}
use Rattle.acl_text.specs.declared.faults.Slip.{Slip}
use Rattle.acl_host.specs.declared.days.Day.{Day}
use Rattle.acl_sets.specs.declared.sets.Range.{Range}
use Rattle.acl_target.specs.declared.targets.Target.{Target}
use Rattle.acl_terms.specs.declared.terms.Term.{Term}
use Rattle.acl_expand.specs.ExpansionSlips.{header_slip, prefix_slip, prefixes_of}
use Rattle.acl_expand.specs.TermRules.{term_rules}

-- Do all ranges of protocols end below the least of the extension headers?
abbrev pub are_below_headers : List Range → Bool
are_below_headers ranges = list_all (λ r. nat_le r.high 42) ranges

-- The prefixes of a filter with the rules of the term, behind the ones before it.
abbrev pub prefixes_with : Target → Day → ℕ → Term → ℕ
prefixes_with target today before t = before + prefixes_of (term_rules target today t)

abbrev pub counted_term : Target → Day → ℕ → Term → Option Slip
counted_term target today before t =
    option_or (header_slip target today t) (prefix_slip t (prefixes_with target today before t))

-- The first slip of terms, where the filter has so many prefixes before them.
abbrev pub counted_slip : Target → Day → ℕ → List Term → Option Slip
counted_slip target today before [] = None
counted_slip target today before (t ∷ ts) =
    option_or (counted_term target today before t)
    (counted_slip target today (prefixes_with target today before t) ts)
