use Rattle.std.proofs.Common.{◌≡◌, ◌<◌, true, ap, sym, ◌∙◌, below_more}
use Rattle.acl_naming.specs.MarkSteps.{among}
use Rattle.acl_naming.proofs.GraphLaws.{leads_at}
use Rattle.acl_naming.proofs.MarkLaws.{by_all}
use Rattle.acl_naming.proofs.ranking.lead_back.Goals as goal

pub loop-i-preserved : goal.loop-i-preserved
loop-i-preserved c =
    let base = c.args.table.now in
    let i = c.loop-i.i in
    let links = c.links_at.result.now in
    below_more _ _ c.loop-i.invariant (λ j l.
    let named : among j links ≡ true = ap (among j) c.links_at.ensures.exact ∙ sym (leads_at base base i j) ∙ l in
    by_all (λ k. k < i) links j (c.are_before.ensures c.if-not-are_before.false) named)
