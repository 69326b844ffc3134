use Rattle.std.proofs.Common.{◌+◌, ◌&&◌, ◌||◌, List, Bor, take, sym, ap, ◌∙◌, subst}
use Rattle.std.specs.List.{list_any}
use Rattle.std.proofs.lemmas.List.Folds.{list_any_more}
use Rattle.std.proofs.lemmas.List.{take_all}
use Rattle.acl_sets.specs.Ranges.{Numbers, holds}
use Rattle.acl_dead.specs.CutSteps.{Gathers}
use Rattle.acl_dead.specs.Runs.{cuts}
use Rattle.acl_dead.proofs.CutFacts.{gathers_more}
use Rattle.acl_dead.proofs.cuts.push_all_cuts.Goals as goal

pub loop-set-preserved : goal.loop-set-preserved
loop-set-preserved c =
    let sets = c.args.sets.now in
    let i = c.loop-set.set-index in
    let item = c.set-item.result in
    gathers_more (λ x. holds c.args.own.now.ranges x)
    (λ x. list_any (λ (s : Bor Numbers). cuts (λ y. holds s.now.ranges y) x) (take i sets))
    (λ x. list_any (λ (s : Bor Numbers). cuts (λ y. holds s.now.ranges y) x) (take (i + 1) sets))
    (λ x. cuts (λ y. holds item.now.ranges y) x) _ _ _
    (λ x. list_any_more (λ (s : Bor Numbers). cuts (λ y. holds s.now.ranges y) x) sets i item c.loop-set-test.true
    ∙ ap (λ (s : Bor Numbers). list_any (λ (q : Bor Numbers). cuts (λ y. holds q.now.ranges y) x) (take i sets) || cuts (λ y. holds s.now.ranges y) x) (sym c.set-item.is))
    c.loop-set.invariant c.in_ok-most.ensures

pub returns : goal.returns
returns c =
    subst (λ (ss : List (Bor Numbers)). Gathers (λ x. holds c.args.own.now.ranges x && list_any (λ (s : Bor Numbers). cuts (λ y. holds s.now.ranges y) x) ss)
    c.args.out.now.items c.loop-set.out.items) (take_all c.loop-set.set-index c.args.sets.now c.loop-set-test.false) c.loop-set.invariant
