use Rattle.std.proofs.Common.{◌≡◌, ◌+◌, ◌∷◌, ◌++◌, [], map, drop, get_or, ap, sym, ◌∙◌, add-one, append_assoc}
use Rattle.std.proofs.Math.Seq.{drop-cons}
use Rattle.acl_naming.specs.declared.ranking.SearchStep.TheVariants.{Enter}
use Rattle.acl_naming.proofs.ranking.push_links.Goals as goal

pub loop-link-preserved : goal.loop-link-preserved
loop-link-preserved c =
    let links = c.args.links.now in
    let i = c.loop-link.link-index in
    let old = c.loop-link.steps.items in
    let rest = map Enter (drop (i + 1) links) in
    let step : drop i links ≡ get_or links i 0 ∷ drop (i + 1) links =
    rw add-one (drop-cons links i 0 c.loop-link-test.true) in
    ap (λ steps. steps ++ rest) c.in_ok-push.ensures.items
    ∙ append_assoc old (Enter (get_or links i 0) ∷ []) rest
    ∙ sym (ap (λ js. old ++ map Enter js) step)
    ∙ c.loop-link.invariant
