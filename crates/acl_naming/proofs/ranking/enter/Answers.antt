use Rattle.std.proofs.Common.{◌≡◌, ◌+◌, ◌≤◌, suc, true, [], ◌∷◌, ◌++◌, length, map, List, slice_set, ap, arith, length-append}
use Rattle.std.proofs.lemmas.List.{length-map}
use Rattle.std.proofs.lemmas.List.Elements.{All-append, All-map, All-push, All-same}
use Rattle.std.proofs.lemmas.Result.{on_ok_weaker}
use Rattle.acl_naming.specs.declared.ranking.SearchStep.{SearchStep}
use Rattle.acl_naming.specs.declared.ranking.SearchStep.TheVariants.{Enter, Leave}
use Rattle.acl_naming.specs.Definitions.{items_at}
use Rattle.acl_naming.specs.RankSteps.{IsStepOf, steps_left}
use Rattle.acl_naming.proofs.CheckLaws.{left_entered, links_few}
use Rattle.acl_naming.proofs.ranking.enter.Goals as goal

pub returns-clause-steps : goal.returns-clause-steps
returns-clause-steps c =
    let n = length c.args.table.now in
    let old = c.args.steps.now.items in
    let links = c.links_at.result.now in
    let left : List SearchStep = old ++ Leave c.args.index ∷ [] in
    on_ok_weaker c.push_links.result (λ (e : c.push_links.new.steps.items ≡ c.push-2.new.self.items ++ map Enter links).
    All-same (IsStepOf n) c.push_links.new.steps.items (c.push-2.new.self.items ++ map Enter links) e
    (All-append (IsStepOf n) c.push-2.new.self.items (map Enter links)
    (All-same (IsStepOf n) c.push-2.new.self.items left c.in_ok-push-2.ensures.items
    (All-push (IsStepOf n) old (Leave c.args.index) c.requires.steps c.requires.within))
    (All-map (IsStepOf n) Enter links c.links_at.ensures.within))) c.push_links.ensures

pub returns-clause-few : goal.returns-clause-few
returns-clause-few c =
    let base = c.args.table.now in
    let i = c.args.index in
    let entered = c.args.entered.now in
    let old = c.args.steps.now.items in
    let links = c.links_at.result.now in
    let left : steps_left base entered ≡ suc (length (items_at base i) + steps_left base (slice_set entered i true)) =
    left_entered base entered i c.requires.within c.requires.fits c.if-entered-index.false in
    let pushed : length c.push-2.new.self.items ≡ length old + 1 =
    omega (arith, ap length c.in_ok-push-2.ensures.items, length-append old (Leave i ∷ [])) in
    let named : length links ≤ length (items_at base i) = links_few base (items_at base i) links c.links_at.ensures.exact in
    on_ok_weaker c.push_links.result (λ (e : c.push_links.new.steps.items ≡ c.push-2.new.self.items ++ map Enter links).
    omega (arith, ap length e, length-append c.push-2.new.self.items (map Enter links), length-map links Enter, left, pushed, named)) c.push_links.ensures
