use Rattle.std.proofs.Common.{◌≡◌, ◌≤◌, true, ap, sym, ◌∙◌, arith, below_more}
use Rattle.acl_naming.specs.MarkSteps.{among}
use Rattle.acl_naming.specs.RankSteps.{rank_at}
use Rattle.acl_naming.proofs.GraphLaws.{leads_at}
use Rattle.acl_naming.proofs.MarkLaws.{by_all}
use Rattle.acl_naming.proofs.ranking.never_fall.Goals as goal

pub loop-i-preserved : goal.loop-i-preserved
loop-i-preserved c =
    let base = c.args.table.now in
    let ranks = c.args.ranks.now in
    let i = c.loop-i.i in
    let links = c.links_at.result.now in
    below_more _ _ c.loop-i.invariant (λ j l.
    let named : among j links ≡ true = ap (among j) c.links_at.ensures.exact ∙ sym (leads_at base base i j) ∙ l in
    let least : c.lowest.result ≤ rank_at ranks j = by_all (λ k. c.lowest.result ≤ rank_at ranks k) links j c.lowest.ensures named in
    let own : rank_at ranks i ≤ c.lowest.result = c.if-lowest-ranks.false in
    omega (arith, least, own))
