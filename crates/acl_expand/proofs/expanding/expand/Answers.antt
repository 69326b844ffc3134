-- The filter is the one of the terms: it decides as they do, and it is sound where they have no slip.
use Rattle.std.proofs.Common.{◌≡◌, sym, subst, ap, ◌∙◌}
use Rattle.acl_platform.specs.SoundFilters.{IsSound}
use Rattle.acl_expand.specs.Expansions.{DecidesAsTerms, filter_of, filter_with}
use Rattle.acl_expand.proofs.DecideLaws.{filter-decides}
use Rattle.acl_expand.proofs.FilterLaws.{filter-sound}
use Rattle.acl_expand.proofs.expanding.expand.Goals as goal

pub returns : goal.returns
returns c =
    let target = c.args.target.now in
    let today = c.args.today in
    let terms = c.args.terms.now in
    let none = c.in_ok-rules.ensures.judged in
    let is : c.in_ok-filter_with.field-0 ≡ filter_of target today terms =
    c.in_ok-filter_with.ensures ∙ ap (λ rules. filter_with target rules) c.in_ok-rules.ensures.rules in record {
      slip = none;
      filter = is;
      sound = subst IsSound (sym is) (filter-sound target today terms c.requires none);
      decides = subst (DecidesAsTerms target today terms) (sym is) (filter-decides target today terms);
    }
