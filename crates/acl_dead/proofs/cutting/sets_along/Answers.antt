use Rattle.std.proofs.Common.{Bor, List, ap, map}
use Rattle.acl_sets.specs.Ranges.{Numbers}
use Rattle.acl_dead.specs.CoordinateSteps.{either_along, ranges_of, set_along}
use Rattle.acl_dead.proofs.ListSteps.{three_parts}
use Rattle.acl_dead.proofs.cutting.sets_along.Goals as goal

pub returns : goal.returns
returns c =
    three_parts (λ t. ranges_of (set_along c.args.coordinate c.args.family t)) (λ t. ranges_of (either_along c.args.coordinate c.args.family t))
    _ _ _ _ c.args.asked.now.earlier.items c.deref.result.now c.deref-2.result.now c.args.asked.now.term.now
    (ap (λ (xs : List (Bor Numbers)). map (λ (s : Bor Numbers). s.now.ranges) xs) c.new-out.ensures.items) c.deref.ensures.value c.deref-2.ensures.value
    c.in_ok-push_sets.ensures c.in_ok-push_either_sets.ensures c.in_ok-push_either_sets-2.ensures
