use Rattle.std.proofs.Common.{◌≡◌, ◌++◌, drop, map}
use Rattle.std.specs.List.{filter}
use Rattle.acl_dead.specs.Deciding.{is_live_on}
use Rattle.acl_dead.proofs.questions.live_terms.Given as goal

abbrev pub invariant-loop-term : goal.invariant-loop-term
invariant-loop-term l =
    map (λ t. t.now) l.out.items ++ filter (λ t. is_live_on l.target l.today t) (drop l.term-index l.terms)
    ≡ filter (λ t. is_live_on l.target l.today t) l.terms
