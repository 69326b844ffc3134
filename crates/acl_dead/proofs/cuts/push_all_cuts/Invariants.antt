use Rattle.std.proofs.Common.{◌&&◌, take}
use Rattle.std.specs.List.{list_any}
use Rattle.acl_sets.specs.Ranges.{holds}
use Rattle.acl_dead.specs.CutSteps.{Gathers}
use Rattle.acl_dead.specs.Runs.{cuts}
use Rattle.acl_dead.proofs.cuts.push_all_cuts.Given as goal

abbrev pub invariant-loop-set : goal.invariant-loop-set
invariant-loop-set l = Gathers
    (λ x. holds l.own.ranges x && list_any (λ s. cuts (λ y. holds s.now.ranges y) x) (take l.set-index l.sets))
    l.fn.out.items l.out.items
